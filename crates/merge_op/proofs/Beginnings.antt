-- Where the steps of a walk begin.
use Rattle.std.proofs.Common.{◌≡◌, ◌≢◌, ℕ, zero, suc, ◌+◌, ◌-◌, ◌<◌, ◌≤◌, Bool, true, false, cond, not, ◌==◌, inl, inr, refl, sym, ap, ◌∙◌, subst, List, [], ◌∷◌, ◌++◌, map, length, take, arith, length-append, eq-eqb, Option, Some, None}
use Rattle.std.proofs.lemmas.Bool.{both_ways, cases_eq, cases_lt, lt-ltb, le-ltb, ne_eqb, not-true, not_from_false, or_from}
use Rattle.std.proofs.lemmas.Option.{same_Some}
use Rattle.std.proofs.Math.Seq.{take-append_seam, take-nil}
use Rattle.std.specs.Prelude.{slice_get}
use Rattle.std.specs.List.{list_any}
use Rattle.std.specs.Option.{is_some}
use Rattle.fleet_base.specs.declared.numbers.CellNo.{CellNo}
use Rattle.fleet_base.specs.declared.numbers.ClaimNo.{ClaimNo}
use Rattle.fleet_base.specs.declared.numbers.Kind.{Kind}
use Rattle.fleet_base.specs.declared.numbers.Kind.TheVariants.{Acquire, Move, Release}
use Rattle.fleet_model.specs.Lists.{In, has_cell}
use Rattle.fleet_model.specs.Sites.{Site, IsSite, IsWalkFrom, footprint_of, has_claim, is_linked, last_cell, link_cost, moved_to, step, steps_from, without}
use Rattle.fleet_model.specs.Replays.{AreSteps}
use Rattle.fleet_model.proofs.Blockers.{In_has}
use Rattle.fleet_model.proofs.Filters.{filter_in}
use Rattle.fleet_model.proofs.Lists.{In_either, In-append_cases, In_unfilter, In_unmap, none_in}
use Rattle.fleet_model.proofs.SameNumbers.{same_cell}
use Rattle.fleet_model.proofs.Steps.{moved_to-append, moved_to-steps, steps-append, walk_front}
use Rattle.fleet_model.proofs.Tests.{any_none}
use Rattle.site_map.specs.Built.{BuiltSite}
use Rattle.site_map.specs.Claims.{claims_from, site_of}
use Rattle.site_map.specs.Crossings.{BuiltCrossing, claim_count_of, flow_of}
use Rattle.site_map.proofs.SiteLemmas.{footprint_at, slice_get_left}
use Rattle.plan_events.proofs.Causes.{cell_count-site_of}
use Rattle.merge_op.specs.Rests.{begins_step}
use Rattle.merge_op.proofs.Places.{get_In, get-append_right}

-- the claims of crossings are numbered from the first on
claims_low : (first : ℕ) (xs : List BuiltCrossing) (a : CellNo) (d : ClaimNo) → In d (claims_from first xs a) → first ≤ d.0
claims_low first [] a d i = elim i [ ]
claims_low first (x ∷ xs) a d i = go (has_cell x.cells a) i (claims_low (first + claim_count_of x) xs a d)
  where
    go : (b : Bool) → In d (cond b (record { 0 = first + flow_of x a } ∷ claims_from (first + claim_count_of x) xs a) (claims_from (first + claim_count_of x) xs a)) → (In d (claims_from (first + claim_count_of x) xs a) → first + claim_count_of x ≤ d.0) → first ≤ d.0
    go true j ih = In_either j (λ e. let k : d.0 ≡ first + flow_of x a = ap (λ (c : ClaimNo). c.0) e in omega arith) (λ k. let l = ih k in omega arith)
    go false j ih = let l = ih j in omega arith

abbrev acquires : List ClaimNo → List Kind
acquires cs = map (λ c. Acquire c) cs

abbrev releases : List ClaimNo → List Kind
releases cs = map (λ c. Release c) cs

get_within : (ks : List Kind) (n : ℕ) → n < length ks → slice_get ks n ≡ None → ⊥
get_within [] n l h = omega arith
get_within (k ∷ ks) zero l h = cc
get_within (k ∷ ks) (suc n) l h = get_within ks n (omega arith) h

-- what stands behind the same front is the same
same_front : (front xs ys : List Kind) → front ++ xs ≡ front ++ ys → xs ≡ ys
same_front [] xs ys e = e
same_front (k ∷ ks) xs ys e = same_front ks xs ys (let f : ks ++ xs ≡ ks ++ ys = cc in f)

-- the end of a walk is a walk
walk_back : (site : Site) (a : CellNo) (xs ys : List CellNo) → IsWalkFrom site a (xs ++ ys) → IsWalkFrom site (last_cell a xs) ys
walk_back site a [] ys h = h
walk_back site a (x ∷ xs) ys h = walk_back site x xs ys h.1

-- from a list itself nothing is left
without-self : (cs : List ClaimNo) → without cs cs ≡ []
without-self cs = none_in (without cs cs) (λ c i.
    let u = In_unfilter (λ d. not (has_claim cs d)) cs i in
    both_ways (has_claim cs c) (not-true (has_claim cs c) u.1) (In_has cs c u.0))

module _ (built : BuiltSite) where
  abbrev site : Site
  site = site_of built

  -- the claims of a cell's crossings
  abbrev crossed : CellNo → List ClaimNo
  crossed a = claims_from built.cells built.crossings a

  -- the claim of the cell itself
  abbrev own_claim : CellNo → ClaimNo
  own_claim b = record { 0 = b.0 }

  -- another cell's footprint hasn't the claim of this cell
  own_missing : (a b : CellNo) → a.0 < built.cells → b.0 < built.cells → a.0 ≢ b.0 → has_claim (footprint_of site a) (own_claim b) ≡ false
  own_missing a b ka kb apart =
      ap (λ cs. has_claim cs (own_claim b)) (footprint_at built a ka)
      ∙ or_from (a.0 == b.0) (list_any (λ (d : ClaimNo). d.0 == b.0) (crossed a)) (ne_eqb a.0 b.0 apart)
      (any_none (λ (d : ClaimNo). d.0 == b.0) (crossed a) (λ d i. ne_eqb d.0 b.0 (λ e. let l = claims_low built.cells built.crossings a d i in omega arith)))

  -- a step to another cell first acquires that cell's own claim
  acquired_first : (a b : CellNo) → a.0 < built.cells → b.0 < built.cells → a.0 ≢ b.0
      → without (footprint_of site b) (footprint_of site a) ≡ own_claim b ∷ without (crossed b) (footprint_of site a)
  acquired_first a b ka kb apart =
      ap (λ cs. without cs (footprint_of site a)) (footprint_at built b kb)
      ∙ filter_in (λ (c : ClaimNo). not (has_claim (footprint_of site a) c)) (own_claim b) (crossed b) (not_from_false (has_claim (footprint_of site a) (own_claim b)) (own_missing a b ka kb apart))

  -- the kinds of a step to another cell, behind the first
  abbrev inner : CellNo → CellNo → List Kind
  inner a b = acquires (without (crossed b) (footprint_of site a)) ++ (Move a b ∷ releases (without (footprint_of site a) (footprint_of site b)))

  step_apart : (a b : CellNo) → a.0 < built.cells → b.0 < built.cells → a.0 ≢ b.0 → step site a b ≡ Acquire (own_claim b) ∷ inner a b
  step_apart a b ka kb apart = ap (λ cs. acquires cs ++ (Move a b ∷ releases (without (footprint_of site a) (footprint_of site b)))) (acquired_first a b ka kb apart)

  -- a step that stays in its cell is the move alone
  step_same : (a b : CellNo) → a.0 ≡ b.0 → step site a b ≡ Move a b ∷ []
  step_same a b e = subst (λ c. step site a c ≡ Move a c ∷ []) (same_cell a b e) (ap (λ cs. acquires cs ++ (Move a a ∷ releases cs)) (without-self (footprint_of site a)))

  -- a step begins with none of the kinds behind its first
  inner_kind : (a b : CellNo) → a.0 ≢ b.0 → (k : Kind) → In k (inner a b) → begins_step built.cells k ≡ false
  inner_kind a b apart k i =
      elim (In-append_cases (acquires (without (crossed b) (footprint_of site a))) (Move a b ∷ releases (without (footprint_of site a) (footprint_of site b))) i) [
        | inl j ↦
            let u = In_unmap (λ c. Acquire c) (without (crossed b) (footprint_of site a)) j in
            let l = claims_low built.cells built.crossings b u.0 (In_unfilter (λ (c : ClaimNo). not (has_claim (footprint_of site a) c)) (crossed b) u.1).0 in
            ap (begins_step built.cells) u.2 ∙ le-ltb u.0.0 built.cells l
        | inr j ↦ In_either j (λ e. ap (begins_step built.cells) e ∙ ne_eqb a.0 b.0 apart)
            (λ n. let u = In_unmap (λ c. Release c) (without (footprint_of site a) (footprint_of site b)) n in ap (begins_step built.cells) u.2)
      ]

  -- so a step begins with its first kind alone
  step_begins : (a b : CellNo) → a.0 < built.cells → b.0 < built.cells → (n : ℕ) (k : Kind) → slice_get (step site a b) n ≡ Some k → begins_step built.cells k ≡ (n == 0)
  step_begins a b ka kb n k at = elim (cases_eq a.0 b.0) [
    | inl e ↦ alone n (ap (λ ks. slice_get ks n) (sym (step_same a b e)) ∙ at) e
    | inr apart ↦ whole n (ap (λ ks. slice_get ks n) (sym (step_apart a b ka kb apart)) ∙ at) apart
  ]
    where
      alone : (n : ℕ) → slice_get (Move a b ∷ []) n ≡ Some k → a.0 ≡ b.0 → begins_step built.cells k ≡ (n == 0)
      alone zero h e = ap (begins_step built.cells) (sym (same_Some (Move a b) k h)) ∙ eq-eqb a.0 b.0 e
      alone (suc n) h e = absurd (cc)

      whole : (n : ℕ) → slice_get (Acquire (own_claim b) ∷ inner a b) n ≡ Some k → a.0 ≢ b.0 → begins_step built.cells k ≡ (n == 0)
      whole zero h apart = ap (begins_step built.cells) (sym (same_Some (Acquire (own_claim b)) k h)) ∙ lt-ltb b.0 built.cells kb
      whole (suc n) h apart = inner_kind a b apart k (get_In (inner a b) n k h) ∙ sym (ne_eqb (suc n) 0 (λ e. omega arith))

  module _ (is_site : IsSite site) where
    -- the cells of a link are cells of the site
    linked_known : (a b : CellNo) → is_linked site a b ≡ true → (a.0 < built.cells) × (b.0 < built.cells)
    linked_known a b h = go (link_cost site a b) refl h
      where
        go : (o : Option ℕ) → link_cost site a b ≡ o → is_some o ≡ true → (a.0 < built.cells) × (b.0 < built.cells)
        go None e t = absurd (both_ways false refl t)
        go (Some cost) e t = let f = is_site.links a b cost e in let n = cell_count-site_of built in (let l = f.1 in omega arith, let l = f.2 in omega arith)

    -- a part of a walk's steps in front of which whole steps stand begins with a step
    pub walk_begins : (a : CellNo) (cells : List CellNo) → IsWalkFrom site a cells → (k : Kind) → slice_get (steps_from site a cells) 0 ≡ Some k → begins_step built.cells k ≡ true
    walk_begins a [] walk k h = absurd (cc)
    walk_begins a (b ∷ bs) walk k h =
        let known = linked_known a b walk.0 in
        step_begins a b known.0 known.1 0 k (sym (slice_get_left (step site a b) (steps_from site b bs) 0 (omega (arith, step_some a b))) ∙ h)
      where
        step_some : (a b : CellNo) → 0 < length (step site a b)
        step_some a b = omega (arith, length-append (acquires (without (footprint_of site b) (footprint_of site a))) (Move a b ∷ releases (without (footprint_of site a) (footprint_of site b))))

    -- a place of a walk's steps with which a step begins, or their end, has whole steps in front of it
    pub walk_cut : (a : CellNo) (cells : List CellNo) → IsWalkFrom site a cells → (n : ℕ) → n ≤ length (steps_from site a cells)
        → ((k : Kind) → slice_get (steps_from site a cells) n ≡ Some k → begins_step built.cells k ≡ true)
        → (front : List CellNo) × (back : List CellNo) × (cells ≡ front ++ back) × (n ≡ length (steps_from site a front))
    walk_cut a [] walk n l begins = ([], [], refl, omega arith)
    walk_cut a (b ∷ bs) walk n l begins = elim (cases_lt n (length (step site a b))) [
      | inl inside ↦ at_front n inside begins
      | inr behind ↦
          let both = length-append (step site a b) (steps_from site b bs) in
          let m = n - length (step site a b) in
          let later = walk_cut b bs walk.1 m (omega arith) (λ k h. begins k (get-append_right (step site a b) (steps_from site b bs) n behind ∙ h)) in
          (b ∷ later.0, later.1, ap (λ cs. b ∷ cs) later.2, (let e = later.3 in let f = length-append (step site a b) (steps_from site b later.0) in omega arith))
    ]
      where
        known : (a.0 < built.cells) × (b.0 < built.cells)
        known = linked_known a b walk.0

        at_front : (n : ℕ) → n < length (step site a b) → ((k : Kind) → slice_get (steps_from site a (b ∷ bs)) n ≡ Some k → begins_step built.cells k ≡ true)
            → (front : List CellNo) × (back : List CellNo) × (b ∷ bs ≡ front ++ back) × (n ≡ length (steps_from site a front))
        at_front zero h f = ([], b ∷ bs, refl, refl)
        at_front (suc n) h f = go (slice_get (step site a b) (suc n)) refl
          where
            go : (o : Option Kind) → slice_get (step site a b) (suc n) ≡ o → (front : List CellNo) × (back : List CellNo) × (b ∷ bs ≡ front ++ back) × (suc n ≡ length (steps_from site a front))
            go None e = absurd (get_within (step site a b) (suc n) h e)
            go (Some k) e =
                absurd (both_ways (begins_step built.cells k) (step_begins a b known.0 known.1 (suc n) k e ∙ ne_eqb (suc n) 0 (λ z. omega arith)) (f k (slice_get_left (step site a b) (steps_from site b bs) (suc n) h ∙ e)))

    -- behind whole steps of a robot's walk a step begins
    pub tail_begins : (o : Option CellNo) (front tail : List Kind) → AreSteps site o (front ++ tail) → AreSteps site o front → (k : Kind) → slice_get tail 0 ≡ Some k → begins_step built.cells k ≡ true
    tail_begins None [] tail whole steps k h = let none : tail ≡ [] = whole in absurd (cc)
    tail_begins None (j ∷ js) tail whole steps k h = absurd (cc)
    tail_begins (Some a) front tail whole steps k h =
        let cells_are : steps.0 ++ moved_to tail ≡ whole.0 =
        ap (λ cs. cs ++ moved_to tail) (sym (ap moved_to steps.2 ∙ moved_to-steps site a steps.0)) ∙ (sym (moved_to-append front tail) ∙ (ap moved_to whole.2 ∙ moved_to-steps site a whole.0))
        in
        let walk = subst (λ cs. IsWalkFrom site a cs) (sym cells_are) whole.1 in
        let all : front ++ tail ≡ front ++ steps_from site (last_cell a steps.0) (moved_to tail) =
        whole.2 ∙ (ap (steps_from site a) (sym cells_are) ∙ (steps-append site a steps.0 (moved_to tail) ∙ ap (λ ks. ks ++ steps_from site (last_cell a steps.0) (moved_to tail)) (sym steps.2)))
        in
        walk_begins (last_cell a steps.0) (moved_to tail) (walk_back site a steps.0 (moved_to tail) walk) k (ap (λ ks. slice_get ks 0) (sym (same_front front tail (steps_from site (last_cell a steps.0) (moved_to tail)) all)) ∙ h)

    -- in front of a place with which a step begins, or of the end, a robot has done whole steps
    pub front_steps : (o : Option CellNo) (ks : List Kind) (n : ℕ) → AreSteps site o ks → n ≤ length ks → ((k : Kind) → slice_get ks n ≡ Some k → begins_step built.cells k ≡ true) → AreSteps site o (take n ks)
    front_steps None ks n steps l begins = ap (take n) steps ∙ take-nil n
    front_steps (Some a) ks n steps l begins =
        let cut = walk_cut a steps.0 steps.1 n (subst (λ js. n ≤ length js) steps.2 l) (subst (λ js. (k : Kind) → slice_get js n ≡ Some k → begins_step built.cells k ≡ true) steps.2 begins) in (
          cut.0,
          walk_front site a cut.0 cut.1 (subst (λ cs. IsWalkFrom site a cs) cut.2 steps.1),
          ap (take n) steps.2 ∙ (ap (λ cs. take n (steps_from site a cs)) cut.2 ∙ (ap (take n) (steps-append site a cut.0 cut.1)
              ∙ (ap (λ k. take k (steps_from site a cut.0 ++ steps_from site (last_cell a cut.0) cut.1)) cut.3 ∙ take-append_seam (steps_from site a cut.0) (steps_from site (last_cell a cut.0) cut.1)))),
        )
