-- The places of pending routes: what is there once one is set, and how many are taken.
use Rattle.std.proofs.Common.{zero, suc, ◌≡◌, ℕ, ◌+◌, ◌≤◌, refl, sym, ap, List, [], ◌∷◌, length, arith, Option, Some, None, set, get_or, ◌⊎◌, inl, inr}
use Rattle.std.specs.List.{filter}
use Rattle.std.specs.Option.{is_some}
use Rattle.std.proofs.lemmas.List.{get_or-set_other}
use Rattle.fleet_base.specs.declared.numbers.CellNo.{CellNo}

module _ {A : Type 0} where
  -- a place that is emptied leaves at most as many
  pub emptied_le : (ps : List (Option A)) (r : ℕ) → length (filter is_some (set ps r None)) ≤ length (filter is_some ps)
  emptied_le [] r = omega arith
  emptied_le (None ∷ ps) zero = omega arith
  emptied_le (Some x ∷ ps) zero = omega arith
  emptied_le (None ∷ ps) (suc r) = let h = emptied_le ps r in omega arith
  emptied_le (Some x ∷ ps) (suc r) = let h = emptied_le ps r in omega arith

  -- a place that is taken and emptied leaves one less
  pub emptied_less : (ps : List (Option A)) (r : ℕ) (x : A) → get_or ps r None ≡ Some x → length (filter is_some (set ps r None)) + 1 ≡ length (filter is_some ps)
  emptied_less [] r x h = absurd (cc)
  emptied_less (None ∷ ps) zero x h = absurd (cc)
  emptied_less (Some y ∷ ps) zero x h = omega arith
  emptied_less (None ∷ ps) (suc r) x h = let k = emptied_less ps r x h in omega arith
  emptied_less (Some y ∷ ps) (suc r) x h = let k = emptied_less ps r x h in omega arith

  -- a place that is filled adds at most one
  pub filled_le : (ps : List (Option A)) (r : ℕ) (x : A) → length (filter is_some (set ps r (Some x))) ≤ length (filter is_some ps) + 1
  filled_le [] r x = omega arith
  filled_le (None ∷ ps) zero x = omega arith
  filled_le (Some y ∷ ps) zero x = omega arith
  filled_le (None ∷ ps) (suc r) x = let k = filled_le ps r x in omega arith
  filled_le (Some y ∷ ps) (suc r) x = let k = filled_le ps r x in omega arith

-- what is there once a place is set is the new one in that place, or an old one in another
pub pending_cases : (ps : List (Option (List CellNo))) (s r : ℕ) (x : Option (List CellNo)) (y : List CellNo) → get_or (set ps s x) r None ≡ Some y → ((s ≡ r) × (x ≡ Some y)) ⊎ ((s ≡ r → ⊥) × (get_or ps r None ≡ Some y))
pending_cases [] s r x y h = absurd (cc)
pending_cases (p ∷ ps) zero zero x y h = inl (refl, h)
pending_cases (p ∷ ps) zero (suc r) x y h = inr (λ e. omega arith, h)
pending_cases (p ∷ ps) (suc s) zero x y h = inr (λ e. omega arith, h)
pending_cases (p ∷ ps) (suc s) (suc r) x y h = elim (pending_cases ps s r x y h) [ inl a ↦ inl (ap (λ n. suc n) a.0, a.1) | inr a ↦ inr (λ e. a.0 (omega arith), a.1) ]

-- a place that is set for robot t is another's as it was
pub other_place : (ps : List (Option (List CellNo))) (t r : ℕ) (x : Option (List CellNo)) → (t ≡ r → ⊥) → get_or (set ps t x) r None ≡ get_or ps r None
other_place ps t r x apart = get_or-set_other ps t r x None (λ e. apart (sym e))

-- a member whose pending route was dropped or merged isn't deferred any more
pub now_none : (ps : List (Option (List CellNo))) (t : ℕ) (route : List CellNo) → get_or (set ps t None) t None ≡ Some route → ⊥
now_none ps t route p = elim (pending_cases ps t t None route p) [ inl a ↦ (let n = a.1 in cc) | inr a ↦ a.0 refl ]
