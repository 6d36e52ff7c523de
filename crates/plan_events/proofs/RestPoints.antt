-- A rest point of a walk is a place of its expansion behind no acquire and before no release.
use Rattle.std.proofs.Common.{◌≡◌, ℕ, zero, suc, ◌+◌, ◌-◌, ◌<◌, ◌≤◌, Bool, true, false, ◌==◌, ◌&&◌, ◌||◌, refl, sym, ap, ◌∙◌, subst, inl, inr, List, [], ◌∷◌, ◌++◌, map, length, append_assoc, map-id, Option, Some, None, eq-eqb, arith}
use Rattle.std.proofs.lemmas.Bool.{and_right, cases_eq, ne_eqb, or_from}
use Rattle.std.specs.Prelude.{slice_get}
use Rattle.std.specs.List.{list_any}
use Rattle.fleet_base.specs.declared.numbers.CellNo.{CellNo}
use Rattle.fleet_base.specs.declared.numbers.ClaimNo.{ClaimNo}
use Rattle.fleet_base.specs.declared.numbers.Kind.{Kind}
use Rattle.fleet_base.specs.declared.numbers.Kind.TheVariants.{Acquire, Move, Release}
use Rattle.fleet_model.specs.Sites.{Site, footprint_of, rest_points, step, steps_from, without}
use Rattle.fleet_model.proofs.StepCounts.{length-step}
use Rattle.plan_events.specs.Kinds.{kind_before, may_begin_step, may_end_step}

-- whether a step can begin at this place, behind a kind and these
abbrev rests_at : Option Kind → List Kind → ℕ → Bool
rests_at last ks zero = may_end_step last && may_begin_step (slice_get ks 0)
rests_at last [] (suc n) = true
rests_at last (k ∷ ks) (suc n) = rests_at (Some k) ks n

abbrev acquires : List ClaimNo → List Kind
acquires cs = map (λ c. Acquire c) cs

abbrev releases : List ClaimNo → List Kind
releases cs = map (λ c. Release c) cs

-- these places are those at which a step can begin
abbrev Rests : Option Kind → List Kind → List ℕ → Type 0
Rests last ks places = (n : ℕ) → n ≤ length ks → rests_at last ks n ≡ list_any (λ m. m == n) places

eqb_more : (a n : ℕ) → (1 + a == suc n) ≡ (a == n)
eqb_more a n = elim (cases_eq a n) [ inl e ↦ eq-eqb (1 + a) (suc n) (omega arith) ∙ sym (eq-eqb a n e) | inr ne ↦ ne_eqb (1 + a) (suc n) (λ e. ne (omega arith)) ∙ sym (ne_eqb a n ne) ]

module _ (f : ℕ → ℕ) where
  none_at_front : (places : List ℕ) → list_any (λ m. m == 0) (map (λ m. 1 + f m) places) ≡ false
  none_at_front [] = refl
  none_at_front (p ∷ ps) = or_from (1 + f p == 0) (list_any (λ m. m == 0) (map (λ m. 1 + f m) ps)) (ne_eqb (1 + f p) 0 (λ e. omega arith)) (none_at_front ps)

  one_on : (n : ℕ) (places : List ℕ) → list_any (λ m. m == suc n) (map (λ m. 1 + f m) places) ≡ list_any (λ m. m == n) (map f places)
  one_on n [] = refl
  one_on n (p ∷ ps) =
      ap (λ t. t || list_any (λ m. m == suc n) (map (λ m. 1 + f m) ps)) (eqb_more (f p) n)
      ∙ ap (λ t. (f p == n) || t) (one_on n ps)

  -- one kind more in front, before which no step can begin
  Rests_behind : (last : Option Kind) (k : Kind) (ks : List Kind) (places : List ℕ) → rests_at last (k ∷ ks) 0 ≡ false → Rests (Some k) ks (map f places) → Rests last (k ∷ ks) (map (λ m. 1 + f m) places)
  Rests_behind last k ks places e rests zero h = e ∙ sym (none_at_front places)
  Rests_behind last k ks places e rests (suc n) h = rests n (omega arith) ∙ sym (one_on n places)

  -- one kind more in front, before which a step begins
  Rests_begin : (k : Kind) (ks : List Kind) (places : List ℕ) → may_begin_step (Some k) ≡ true → Rests (Some k) ks (map f places) → Rests None (k ∷ ks) (0 ∷ map (λ m. 1 + f m) places)
  Rests_begin k ks places e rests zero h = e
  Rests_begin k ks places e rests (suc n) h = rests n (omega arith) ∙ sym (one_on n places) ∙ ap (λ t. t || list_any (λ m. m == suc n) (map (λ m. 1 + f m) places)) (sym (ne_eqb 0 (suc n) (λ e. omega arith)))

-- a number of ones, and m
abbrev adds : ℕ → ℕ → ℕ
adds zero m = m
adds (suc j) m = 1 + adds j m

adds_is : (j m : ℕ) → adds j m ≡ j + m
adds_is zero m = omega arith
adds_is (suc j) m = let ih = adds_is j m in omega arith

map_same : (f g : ℕ → ℕ) → ((m : ℕ) → f m ≡ g m) → (ms : List ℕ) → map f ms ≡ map g ms
map_same f g e [] = refl
map_same f g e (m ∷ ms) = ap (λ n. n ∷ map f ms) (e m) ∙ ap (λ ns. g m ∷ ns) (map_same f g e ms)

-- where a step can end, it doesn't matter with which kind
same_end : (last : Option Kind) (ks : List Kind) (n : ℕ) → may_end_step last ≡ true → rests_at last ks n ≡ rests_at None ks n
same_end last ks zero e = ap (λ t. t && may_begin_step (slice_get ks 0)) e
same_end last [] (suc n) e = refl
same_end last (k ∷ ks) (suc n) e = refl

module _ (a b : CellNo) (ds : List ClaimNo) (behind : List Kind) (places : List ℕ) (rests : Rests None behind places) where
  released : (cs : List ClaimNo) (last : Option Kind) → may_end_step last ≡ true → Rests last (releases cs ++ behind) (map (adds (length cs)) places)
  released [] last e = λ n h. same_end last behind n e ∙ rests n h ∙ ap (λ ms. list_any (λ m. m == n) ms) (sym (map-id places))
  released (c ∷ cs) last e = Rests_behind (adds (length cs)) last (Release c) (releases cs ++ behind) places (and_right (may_end_step last) false refl) (released cs (Some (Release c)) refl)

  abbrev along : List ClaimNo → ℕ
  along [] = suc (length ds)
  along (c ∷ cs) = suc (along cs)

  along_is : (cs : List ClaimNo) → along cs ≡ length cs + (1 + length ds)
  along_is [] = omega arith
  along_is (c ∷ cs) = let ih = along_is cs in omega arith

  acquired : (c : ClaimNo) (cs : List ClaimNo) → Rests (Some (Acquire c)) (acquires cs ++ (Move a b ∷ (releases ds ++ behind))) (map (adds (along cs)) places)
  acquired c [] = Rests_behind (adds (length ds)) (Some (Acquire c)) (Move a b) (releases ds ++ behind) places refl (released ds (Some (Move a b)) refl)
  acquired c (d ∷ cs) = Rests_behind (adds (along cs)) (Some (Acquire c)) (Acquire d) (acquires cs ++ (Move a b ∷ (releases ds ++ behind))) places refl (acquired d cs)

  begun : (cs : List ClaimNo) → Rests None (acquires cs ++ (Move a b ∷ (releases ds ++ behind))) (0 ∷ map (adds (along cs)) places)
  begun [] = Rests_begin (adds (length ds)) (Move a b) (releases ds ++ behind) places refl (released ds (Some (Move a b)) refl)
  begun (c ∷ cs) = Rests_begin (adds (along cs)) (Acquire c) (acquires cs ++ (Move a b ∷ (releases ds ++ behind))) places refl (acquired c cs)

  whole : (cs : List ClaimNo) → Rests None ((acquires cs ++ (Move a b ∷ releases ds)) ++ behind) (0 ∷ map (λ m. (length cs + (1 + length ds)) + m) places)
  whole cs =
      let kinds : acquires cs ++ (Move a b ∷ (releases ds ++ behind)) ≡ (acquires cs ++ (Move a b ∷ releases ds)) ++ behind = sym (append_assoc (acquires cs) (Move a b ∷ releases ds) behind) in
      let same : map (adds (along cs)) places ≡ map (λ m. (length cs + (1 + length ds)) + m) places =
      map_same (adds (along cs)) (λ m. (length cs + (1 + length ds)) + m) (λ m. adds_is (along cs) m ∙ ap (λ j. j + m) (along_is cs)) places
      in
      let with_kinds : Rests None ((acquires cs ++ (Move a b ∷ releases ds)) ++ behind) (0 ∷ map (adds (along cs)) places) = subst (λ ks. Rests None ks (0 ∷ map (adds (along cs)) places)) kinds (begun cs) in
      subst (λ ms. Rests None ((acquires cs ++ (Move a b ∷ releases ds)) ++ behind) (0 ∷ ms)) same with_kinds

Rests_end : Rests None [] (0 ∷ [])
Rests_end zero h = refl
Rests_end (suc n) h = absurd (omega arith)

Rests_walk : (site : Site) (a : CellNo) (cells : List CellNo) → Rests None (steps_from site a cells) (rest_points site a cells)
Rests_walk site a [] = Rests_end
Rests_walk site a (b ∷ bs) =
    let new : List ClaimNo = without (footprint_of site b) (footprint_of site a) in
    let old : List ClaimNo = without (footprint_of site a) (footprint_of site b) in
    let long : length new + (1 + length old) ≡ length (step site a b) = sym (length-step site a b) in
    subst (λ j. Rests None (steps_from site a (b ∷ bs)) (0 ∷ map (λ m. j + m) (rest_points site b bs))) long (whole a b old (steps_from site b bs) (rest_points site b bs) (Rests_walk site b bs) new)

-- the test by places is that by the kinds before and at the place
rests_at_is : (last : Option Kind) (ks : List Kind) (n : ℕ) → suc n ≤ length ks → rests_at last ks (suc n) ≡ (may_end_step (slice_get ks n) && may_begin_step (slice_get ks (suc n)))
rests_at_is last [] n h = absurd (omega arith)
rests_at_is last (k ∷ ks) zero h = refl
rests_at_is last (k ∷ ks) (suc n) h = rests_at_is (Some k) ks n (omega arith)

-- the rest points of a walk, by the kinds before and at a place
pub rest_point-test : (site : Site) (a : CellNo) (cells : List CellNo) (ks : List Kind) (n : ℕ) → n ≤ length ks → ks ≡ steps_from site a cells
    → (may_end_step (kind_before ks n) && may_begin_step (slice_get ks n)) ≡ list_any (λ m. m == n) (rest_points site a cells)
rest_point-test site a cells ks zero h e = subst (λ js. Rests None js (rest_points site a cells)) (sym e) (Rests_walk site a cells) zero h
rest_point-test site a cells ks (suc n) h e = sym (rests_at_is None ks n h) ∙ subst (λ js. Rests None js (rest_points site a cells)) (sym e) (Rests_walk site a cells) (suc n) h

-- the kind before a place behind the front
pub kind_before-at : (ks : List Kind) (n : ℕ) (k : Kind) → 0 < n → n ≤ length ks → slice_get ks (n - 1) ≡ Some k → kind_before ks n ≡ Some k
kind_before-at ks zero k low h e = absurd (omega arith)
kind_before-at ks (suc n) k low h e = let same : n ≡ suc n - 1 = omega arith in ap (slice_get ks) same ∙ e
