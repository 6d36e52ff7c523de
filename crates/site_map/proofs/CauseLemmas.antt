-- Which cause of a refusal comes first.
use Rattle.std.proofs.Common.{◌≡◌, ℕ, ◌<◌, Bool, true, false, not, ◌&&◌, ◌||◌, if◌then◌else◌, leb, List, [], ◌∷◌, length, Option, Some, None, refl, ap, ◌∙◌}
use Rattle.std.specs.List.{list_any, list_all}
use Rattle.std.proofs.lemmas.Bool.{true≢false, false≢true, lt-leb, not_from_true}
use Rattle.fleet_base.specs.declared.numbers.CellNo.{CellNo}
use Rattle.fleet_model.specs.Lists.{has_cell, when, first_some}
use Rattle.site_map.specs.Built.{BuiltSite, crossing_at, with_flow}
use Rattle.site_map.specs.Cells.{are_known, has_repeat}
use Rattle.site_map.specs.Crossings.{in_flow}
use Rattle.site_map.specs.Refusals.{flow_cause, has_too_many_claims}
use Rattle.site_map.specs.declared.refused.BuildRefused.{BuildRefused}
use Rattle.site_map.specs.declared.refused.BuildRefused.TheVariants.{UnknownCell, UnknownCrossing, Repeated, Full, TooManyCrossings, Foreign}

abbrev pub crossing_causes : Bool → Bool → Bool → Bool → Option BuildRefused
crossing_causes a b c d = first_some (when a UnknownCell ∷ when b Repeated ∷ when c Full ∷ when d TooManyCrossings ∷ [])

pub crossing_is_full : (a b c d : Bool) → a ≡ false → b ≡ false → c ≡ true → crossing_causes a b c d ≡ Some Full
crossing_is_full true b c d p q r = absurd (true≢false p)
crossing_is_full false true c d p q r = absurd (true≢false q)
crossing_is_full false false true d p q r = refl
crossing_is_full false false false d p q r = absurd (false≢true r)

pub crossing_is_crowded : (a b c d : Bool) → a ≡ false → b ≡ false → c ≡ false → d ≡ true → crossing_causes a b c d ≡ Some TooManyCrossings
crossing_is_crowded true b c d p q r s = absurd (true≢false p)
crossing_is_crowded false true c d p q r s = absurd (true≢false q)
crossing_is_crowded false false true d p q r s = absurd (true≢false r)
crossing_is_crowded false false false true p q r s = refl
crossing_is_crowded false false false false p q r s = absurd (false≢true s)

pub crossing_is_fine : (a b c d : Bool) → a ≡ false → b ≡ false → c ≡ false → d ≡ false → crossing_causes a b c d ≡ None
crossing_is_fine true b c d p q r s = absurd (true≢false p)
crossing_is_fine false true c d p q r s = absurd (true≢false q)
crossing_is_fine false false true d p q r s = absurd (true≢false r)
crossing_is_fine false false false true p q r s = absurd (true≢false s)
crossing_is_fine false false false false p q r s = refl

abbrev pub flow_causes : Bool → Bool → Bool → Bool → Bool → Option BuildRefused
flow_causes a b c d e = first_some (when a UnknownCell ∷ when b UnknownCrossing ∷ when c Repeated ∷ when d Full ∷ when e Foreign ∷ [])

-- the first cause of a flow line behind the tests that its cells are known, its crossing too, and none is repeated
flow_is : (a b c d e full free : Bool) → a ≡ false → b ≡ false → c ≡ false → d ≡ full → e ≡ not free → flow_causes a b c d e ≡ (if full then Some Full else (if free then None else Some Foreign))
flow_is a b c d e full free p q r s t = rw p (rw q (rw r (rw s (rw t (by_tests full free)))))
  where
    by_tests : (full free : Bool) → flow_causes false false false full (not free) ≡ (if full then Some Full else (if free then None else Some Foreign))
    by_tests true free = refl
    by_tests false true = refl
    by_tests false false = refl

-- a cell is foreign where it isn't free
pub any_foreign : {A : Type 0} (has is_taken : A → Bool) (xs : List A) → list_any (λ x. not (has x) || is_taken x) xs ≡ not (list_all (λ x. has x && not (is_taken x)) xs)
any_foreign has is_taken [] = refl
any_foreign has is_taken (x ∷ xs) = ap (λ b. (not (has x) || is_taken x) || b) (any_foreign has is_taken xs) ∙ one (has x) (is_taken x) (list_all (λ y. has y && not (is_taken y)) xs)
  where
    one : (h t r : Bool) → ((not h || t) || not r) ≡ not ((h && not t) && r)
    one true true r = refl
    one true false r = refl
    one false t r = refl

pub flow_cause_is : (s : BuiltSite) (k : ℕ) (cells : List CellNo) (full free : Bool) → are_known s.cells cells ≡ true → k < length s.crossings → has_repeat cells ≡ false → has_too_many_claims (with_flow s k cells) ≡ full
    → list_all (λ d. has_cell (crossing_at s k).cells d && not (in_flow (crossing_at s k).flows d)) cells ≡ free → flow_cause s k cells ≡ (if full then Some Full else (if free then None else Some Foreign))
flow_cause_is s k cells full free known within distinct full_is free_is =
    flow_is (not (are_known s.cells cells)) (leb (length s.crossings) k) (has_repeat cells) (has_too_many_claims (with_flow s k cells)) (list_any (λ c. not (has_cell (crossing_at s k).cells c) || in_flow (crossing_at s k).flows c) cells) full free
    (not_from_true (are_known s.cells cells) known) (lt-leb (length s.crossings) k within) distinct full_is
    (any_foreign (has_cell (crossing_at s k).cells) (in_flow (crossing_at s k).flows) cells ∙ ap not free_is)

-- a crossing or a flow without a cause has none of the causes
pub crossing_has_none : (a b c d : Bool) → crossing_causes a b c d ≡ None → (a ≡ false) × (b ≡ false) × (c ≡ false) × (d ≡ false)
crossing_has_none true b c d none = cc
crossing_has_none false true c d none = cc
crossing_has_none false false true d none = cc
crossing_has_none false false false true none = cc
crossing_has_none false false false false none = (refl, refl, refl, refl)

pub flow_has_none : (a b c d e : Bool) → flow_causes a b c d e ≡ None → (a ≡ false) × (b ≡ false) × (c ≡ false) × (d ≡ false) × (e ≡ false)
flow_has_none true b c d e none = cc
flow_has_none false true c d e none = cc
flow_has_none false false true d e none = cc
flow_has_none false false false true e none = cc
flow_has_none false false false false true none = cc
flow_has_none false false false false false none = (refl, refl, refl, refl, refl)
