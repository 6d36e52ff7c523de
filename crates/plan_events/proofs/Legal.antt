-- An order has no clash exactly where it is legal.
use Rattle.std.proofs.Common.{◌≡◌, ℕ, ◌<◌, ◌≤◌, Bool, true, false, cond, not, ◌&&◌, ◌==◌, inl, inr, refl, sym, ap, ◌∙◌, subst, List, [], ◌∷◌, ◌++◌, length, arith, eq-eqb, Option, Some, None}
use Rattle.std.proofs.lemmas.Bool.{both_ways, and_parts, and_from, cases_Bool, cases_lt, eqb-true, eqb-false, ne_eqb, not-true, not-false, not_from_false, not_from_true, false_from_ne_true}
use Rattle.std.proofs.lemmas.Option.{slice_get_past}
use Rattle.std.specs.Prelude.{nat_le, slice_get}
use Rattle.std.specs.List.{filter}
use Rattle.std.specs.Option.{is_some, option_map}
use Rattle.fleet_base.specs.declared.numbers.CellNo.{CellNo}
use Rattle.fleet_base.specs.declared.numbers.ClaimGroup.{ClaimGroup}
use Rattle.fleet_base.specs.declared.numbers.ClaimNo.{ClaimNo}
use Rattle.fleet_base.specs.declared.numbers.Event.{Event}
use Rattle.fleet_base.specs.declared.numbers.EventNo.{EventNo}
use Rattle.fleet_base.specs.declared.numbers.Kind.{Kind}
use Rattle.fleet_base.specs.declared.numbers.Kind.TheVariants.{Acquire, Move, Release}
use Rattle.fleet_model.specs.Lists.{In, first_some, here, least, numbers_below, there, when}
use Rattle.fleet_model.specs.Sites.{Site, exclude, footprint_of, in_conflict}
use Rattle.fleet_model.specs.Replays.{CanDo, IsFree, IsLegal, Spots, after_event, after_kind, opening, start_at}
use Rattle.fleet_model.proofs.Blockers.{has_In, In_has}
use Rattle.fleet_model.proofs.Filters.{filter_none}
use Rattle.fleet_model.proofs.Leasts.{least_none}
use Rattle.fleet_model.proofs.Lists.{In-append_cases, In-append_left, In-append_right, In-filter, In_below}
use Rattle.fleet_model.proofs.Options.{map_none, when_none}
use Rattle.fleet_model.proofs.SameNumbers.{same_cell}
use Rattle.fleet_model.proofs.Tests.{any_In, In_found}
use Rattle.plan_events.specs.declared.refused.ReplayClash.TheVariants.{Held, Twice, NotAt, NotHeld}
use Rattle.plan_events.specs.Clashes.{acquire_causes, claims_of, event_causes, event_clash, holds_against, least_holder, least_missing, move_causes, order_clash}
use Rattle.plan_events.proofs.Finding.{against_some, is_against, none_below}

-- where the first of two values is none, both are
two_none : {A : Type 0} (o p : Option A) → first_some (o ∷ p ∷ []) ≡ None → (o ≡ None) × (p ≡ None)
two_none None None h = (refl, refl)
two_none None (Some x) h = absurd (cc)
two_none (Some x) p h = absurd (cc)

none_two : {A : Type 0} (o p : Option A) → o ≡ None → p ≡ None → first_some (o ∷ p ∷ []) ≡ None
none_two o p e f = ap (λ x. first_some (x ∷ p ∷ [])) e ∙ ap (λ x. first_some (None ∷ x ∷ [])) f

one_none : {A : Type 0} (o : Option A) → first_some (o ∷ []) ≡ None → o ≡ None
one_none None h = refl
one_none (Some x) h = absurd (cc)

none_when : {A : Type 0} (b : Bool) (x : A) → b ≡ false → when b x ≡ None
none_when b x e = ap (λ t. when t x) e

-- a claim that conflicts is one of the site
conflict_known : (groups : List ClaimGroup) (c d : ClaimNo) → in_conflict groups c d ≡ true → d.0 < length groups
unfolding in_conflict
conflict_known groups c d t = elim (cases_lt d.0 (length groups)) [
  | inl within ↦ within
  | inr past ↦ absurd (go (slice_get groups c.0) (ap (λ o. exclude (slice_get groups c.0) o (c.0 == d.0)) (sym (slice_get_past groups d.0 past)) ∙ t))
]
  where
    go : (o : Option ClaimGroup) → exclude o None (c.0 == d.0) ≡ true → ⊥
    go None h = both_ways false refl h
    go (Some g) h = both_ways false refl h

module _ (site : Site) (robots : ℕ) where
  -- only these robots hold claims
  abbrev pub HoldWithin : Spots → Type 0
  HoldWithin spots = (q : ℕ) (d : ClaimNo) → robots ≤ q → (spots q).holds d ≡ false

  module _ (spots : Spots) (within : HoldWithin spots) (n : EventNo) (r : ℕ) where
    abbrev apart : ClaimNo → ℕ → Bool
    apart c q = not (q == r) && holds_against site (spots q) c

    -- an acquire without a cause is legal
    acquire_legal : (c : ClaimNo) → first_some (acquire_causes site robots spots n r c) ≡ None → CanDo site (spots r) (Acquire c) × IsFree site spots r (Acquire c)
    acquire_legal c h =
        let p = two_none (option_map (λ q. Held n c (record { 0 = q })) (least_holder site robots spots r c)) (when ((spots r).holds c) (Twice n c)) h in
        let none = map_none (λ q. Held n c (record { 0 = q })) (least_holder site robots spots r c) p.0 in (
          when_none ((spots r).holds c) (Twice n c) p.1,
          λ q d other held conflict.
              let known = conflict_known site.groups c d conflict in
              let below : q < robots = elim (cases_lt q robots) [ inl l ↦ l | inr l ↦ absurd (both_ways ((spots q).holds d) (within q d l) held) ] in
              let against = against_some site (spots q) c d.0 known (and_from ((spots q).holds d) (in_conflict site.groups c d) held conflict) in
              let found = In_found (apart c) (numbers_below robots) (In_below robots q below) (and_from (not (q == r)) (holds_against site (spots q) c) (not_from_false (q == r) (ne_eqb q r other)) against) in
              both_ways false refl (ap is_some (sym none) ∙ found),
        )

    legal_acquire : (c : ClaimNo) → CanDo site (spots r) (Acquire c) → IsFree site spots r (Acquire c) → first_some (acquire_causes site robots spots n r c) ≡ None
    legal_acquire c free alone =
        none_two (option_map (λ q. Held n c (record { 0 = q })) (least_holder site robots spots r c)) (when ((spots r).holds c) (Twice n c))
        (ap (option_map (λ q. Held n c (record { 0 = q }))) (none_below (apart c) robots (λ q l. false_from_ne_true (apart c q) (λ t.
        let p = and_parts (not (q == r)) (holds_against site (spots q) c) t in
        let d = any_In (is_against site (spots q) c) (claims_of site) p.1 in
        let both = and_parts ((spots q).holds d.0) (in_conflict site.groups c d.0) d.2 in
        alone q d.0 (eqb-false q r (not-true (q == r) p.0)) both.0 both.1))))
        (none_when ((spots r).holds c) (Twice n c) free)

    abbrev needed : CellNo → CellNo → List ClaimNo
    needed a b = footprint_of site a ++ footprint_of site b

    -- a move without a cause is legal
    move_legal : (a b : CellNo) → first_some (move_causes site (spots r) n a b) ≡ None → CanDo site (spots r) (Move a b)
    move_legal a b h =
        let p = two_none (when (not ((spots r).cell.0 == a.0)) (NotAt n (spots r).cell)) (option_map (λ c. NotHeld n c) (least_missing (spots r) (needed a b))) h in
        let at = when_none (not ((spots r).cell.0 == a.0)) (NotAt n (spots r).cell) p.0 in
        let none = least_none (λ (c d : ClaimNo). nat_le c.0 d.0) (filter (λ c. not ((spots r).holds c)) (needed a b)) (map_none (λ c. NotHeld n c) (least_missing (spots r) (needed a b)) p.1) in
        let held : (c : ClaimNo) → In c (needed a b) → (spots r).holds c ≡ true = λ c i. elim (cases_Bool ((spots r).holds c)) [
          | inl t ↦ t
          | inr f ↦ (let j : In c [] = subst (λ cs. In c cs) none (In-filter (λ d. not ((spots r).holds d)) (needed a b) i (not_from_false ((spots r).holds c) f)) in elim j [ ])
        ] in (
          same_cell (spots r).cell a (eqb-true (spots r).cell.0 a.0 (not-false ((spots r).cell.0 == a.0) at)),
          λ c t. held c (In-append_left (footprint_of site a) (footprint_of site b) (has_In (footprint_of site a) c t)),
          λ c t. held c (In-append_right (footprint_of site a) (footprint_of site b) (has_In (footprint_of site b) c t)),
        )

    legal_move : (a b : CellNo) → CanDo site (spots r) (Move a b) → first_some (move_causes site (spots r) n a b) ≡ None
    legal_move a b can =
        none_two (when (not ((spots r).cell.0 == a.0)) (NotAt n (spots r).cell)) (option_map (λ c. NotHeld n c) (least_missing (spots r) (needed a b)))
        (none_when (not ((spots r).cell.0 == a.0)) (NotAt n (spots r).cell) (not_from_true ((spots r).cell.0 == a.0) (eq-eqb (spots r).cell.0 a.0 (ap (λ (x : CellNo). x.0) can.0))))
        (ap (λ cs. option_map (λ c. NotHeld n c) (least (λ (c d : ClaimNo). nat_le c.0 d.0) cs)) (filter_none (λ c. not ((spots r).holds c)) (needed a b) (λ c i. not_from_true ((spots r).holds c) (elim (In-append_cases (footprint_of site a) (footprint_of site b) i) [
          | inl j ↦ can.1 c (In_has (footprint_of site a) c j)
          | inr j ↦ can.2 c (In_has (footprint_of site b) c j)
        ]))))

    legal_by : (k : Kind) → first_some (event_causes site robots spots n r k) ≡ None → CanDo site (spots r) k × IsFree site spots r k
    legal_by (Acquire c) h = acquire_legal c h
    legal_by (Move a b) h = (move_legal a b h, tt)
    legal_by (Release c) h = (not-false ((spots r).holds c) (when_none (not ((spots r).holds c)) (NotHeld n c) (one_none (when (not ((spots r).holds c)) (NotHeld n c)) h)), tt)

    by_legal : (k : Kind) → CanDo site (spots r) k → IsFree site spots r k → first_some (event_causes site robots spots n r k) ≡ None
    by_legal (Acquire c) can free = legal_acquire c can free
    by_legal (Move a b) can free = legal_move a b can
    by_legal (Release c) can free = ap (λ t. first_some (when t (NotHeld n c) ∷ [])) (not_from_true ((spots r).holds c) can)

  -- an event of one of these robots leaves the others with nothing
  kept_within : (spots : Spots) (e : Event) → e.robot.0 < robots → HoldWithin spots → HoldWithin (after_event e spots)
  kept_within spots e known within q d l =
      ap (λ b. (cond b (after_kind e.kind (spots q)) (spots q)).holds d) (ne_eqb e.robot.0 q (λ k. omega arith)) ∙ within q d l

  -- an order without a clash is legal
  pub order_legal : (spots : Spots) (es : List Event) → HoldWithin spots → ((e : Event) → In e es → e.robot.0 < robots) → order_clash site robots spots es ≡ None → IsLegal site spots es
  order_legal spots [] within known h = tt
  order_legal spots (e ∷ es) within known h =
      let p = two_none (event_clash site robots spots e) (order_clash site robots (after_event e spots) es) h in
      let l = legal_by spots within e.no e.robot.0 e.kind p.0 in
      (l.0, l.1, order_legal (after_event e spots) es (kept_within spots e (known e (here refl)) within) (λ f i. known f (there i)) p.1)

  -- a legal order has no clash
  pub legal_order : (spots : Spots) (es : List Event) → HoldWithin spots → ((e : Event) → In e es → e.robot.0 < robots) → IsLegal site spots es → order_clash site robots spots es ≡ None
  legal_order spots [] within known h = refl
  legal_order spots (e ∷ es) within known h =
      none_two (event_clash site robots spots e) (order_clash site robots (after_event e spots) es)
      (by_legal spots within e.no e.robot.0 e.kind h.0 h.1)
      (legal_order (after_event e spots) es (kept_within spots e (known e (here refl)) within) (λ f i. known f (there i)) h.2)

-- robots without a start hold nothing
pub starts_within : (site : Site) (starts : List CellNo) → HoldWithin site (length starts) (opening site starts)
starts_within site starts q d l = ap (λ o. (start_at site o).holds d) (slice_get_past starts q l)
