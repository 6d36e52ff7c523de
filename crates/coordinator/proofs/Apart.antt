-- Without a clash the starts may open a run.
use Rattle.std.proofs.Common.{◌≡◌, ℕ, zero, suc, ◌+◌, ◌<◌, ◌≤◌, ◌≢◌, inl, inr, Bool, true, false, List, [], ◌∷◌, map, Option, Some, None, ap, subst, refl, arith}
use Rattle.std.proofs.lemmas.Bool.{both_ways, cases_lt, false_from_ne_true}
use Rattle.std.proofs.lemmas.List.{length-map}
use Rattle.std.proofs.lemmas.Option.{same_Some}
use Rattle.std.specs.Prelude.{slice_get}
use Rattle.std.specs.List.{find}
use Rattle.std.specs.Option.{is_some, option_map}
use Rattle.fleet_base.specs.declared.numbers.CellNo.{CellNo}
use Rattle.fleet_base.specs.declared.numbers.ClaimNo.{ClaimNo}
use Rattle.fleet_model.specs.Lists.{In}
use Rattle.fleet_model.specs.Sites.{Site, footprint_of, has_claim, in_conflict, is_kept_from}
use Rattle.fleet_model.specs.Replays.{opening, start_at}
use Rattle.fleet_model.specs.Plans.{IsRoute}
use Rattle.fleet_model.specs.States.{pending_of, start_state}
use Rattle.fleet_model.specs.Good.{IsOpening}
use Rattle.fleet_model.proofs.Blockers.{has_In}
use Rattle.fleet_model.proofs.Claims.{conflict_symmetric}
use Rattle.fleet_model.proofs.Options.{map_none}
use Rattle.fleet_model.proofs.Tests.{In_any, In_found}
use Rattle.coordinator.specs.Openings.{clash_by, clash_from, clash_with, kept_claim}
use Rattle.coordinator.proofs.OpeningShown.{none_owed, none_pending}
use Rattle.coordinator.proofs.Proposed.{first_parts}

find_none_of : {A : Type 0} (p : A → Bool) (xs : List A) (x : A) → find p xs ≡ None → In x xs → p x ≡ false
find_none_of p xs x none m = false_from_ne_true (p x) (λ found. both_ways (is_some (find p xs)) (ap is_some none) (In_found p xs m found))

pub with_apart : (site : Site) (one : ℕ) (a : CellNo) (other : ℕ) (others : List CellNo) (k : ℕ) (b : CellNo) → clash_with site one a other others ≡ None → slice_get others k ≡ Some b → kept_claim site a b ≡ None
with_apart site one a other [] k b none at = absurd (cc)
with_apart site one a other (y ∷ ys) zero b none at =
    let parts = first_parts (option_map (clash_by one other) (kept_claim site a y)) (clash_with site one a (other + 1) ys ∷ []) none in
    subst (λ z. kept_claim site a z ≡ None) (same_Some y b at) (map_none (clash_by one other) (kept_claim site a y) parts.0)
with_apart site one a other (y ∷ ys) (suc k) b none at =
    let parts = first_parts (option_map (clash_by one other) (kept_claim site a y)) (clash_with site one a (other + 1) ys ∷ []) none in
    with_apart site one a (other + 1) ys k b (first_parts (clash_with site one a (other + 1) ys) [] parts.1).0 at

from_apart : (site : Site) (n : ℕ) (starts : List CellNo) (i j : ℕ) (a b : CellNo) → clash_from site n starts ≡ None → i < j → slice_get starts i ≡ Some a → slice_get starts j ≡ Some b → kept_claim site a b ≡ None
from_apart site n [] i j a b none less ai bj = absurd (cc)
from_apart site n (x ∷ xs) i zero a b none less ai bj = absurd (omega arith)
from_apart site n (x ∷ xs) zero (suc j) a b none less ai bj =
    let parts = first_parts (clash_with site n x (n + 1) xs) (clash_from site (n + 1) xs ∷ []) none in
    subst (λ z. kept_claim site z b ≡ None) (same_Some x a ai) (with_apart site n x (n + 1) xs j b parts.0 bj)
from_apart site n (x ∷ xs) (suc i) (suc j) a b none less ai bj =
    let parts = first_parts (clash_with site n x (n + 1) xs) (clash_from site (n + 1) xs ∷ []) none in
    from_apart site (n + 1) xs i j a b (first_parts (clash_from site (n + 1) xs) [] parts.1).0 (omega arith) ai bj

-- claims of two cells without such a claim don't conflict
pub kept_apart : (site : Site) (a b : CellNo) (c d : ClaimNo) → kept_claim site a b ≡ None → has_claim (footprint_of site a) c ≡ true → has_claim (footprint_of site b) d ≡ true → in_conflict site.groups c d ≡ true → ⊥
kept_apart site a b c d none hc hd conflict =
    both_ways (is_kept_from site c b)
    (find_none_of (λ x. is_kept_from site x b) (footprint_of site a) c none (has_In (footprint_of site a) c hc))
    (In_any (λ x. in_conflict site.groups c x) (footprint_of site b) (has_In (footprint_of site b) d hd) conflict)

-- what a robot that has a start holds there
pub holds_at : (site : Site) (starts : List CellNo) (r : ℕ) (c : ClaimNo) → (opening site starts r).holds c ≡ true → (a : CellNo) × (slice_get starts r ≡ Some a) × (has_claim (footprint_of site a) c ≡ true)
holds_at site starts r c holds = go (slice_get starts r) refl holds
  where
    go : (o : Option CellNo) → slice_get starts r ≡ o → (start_at site o).holds c ≡ true → (a : CellNo) × (slice_get starts r ≡ Some a) × (has_claim (footprint_of site a) c ≡ true)
    go None is h = absurd (both_ways false refl h)
    go (Some a) is h = (a, is, h)

module _ (site : Site) (starts : List CellNo) (cap : ℕ) (none : clash_from site 0 starts ≡ None) where
  pub apart : (r q : ℕ) (c d : ClaimNo) → r ≢ q → in_conflict site.groups c d ≡ true → (opening site starts r).holds c ≡ true → (opening site starts q).holds d ≡ true → ⊥
  apart r q c d other conflict hc hd =
      let a = holds_at site starts r c hc in
      let b = holds_at site starts q d hd in
      elim (cases_lt r q) [
        | inl less ↦ kept_apart site a.0 b.0 c d (from_apart site 0 starts r q a.0 b.0 none less a.1 b.1) a.2 b.2 conflict
        | inr more ↦ kept_apart site b.0 a.0 d c (from_apart site 0 starts q r b.0 a.0 none (below r q other more) b.1 a.1) b.2 a.2 (conflict_symmetric site.groups c d conflict)
      ]
    where
      below : (r q : ℕ) → r ≢ q → q ≤ r → q < r
      below r q other more = elim (cases_lt q r) [ inl less ↦ less | inr same ↦ absurd (other (omega arith)) ]

  no_route : (r : ℕ) (route : List CellNo) → pending_of (start_state site starts cap) r ≡ Some route → IsRoute (start_state site starts cap).fleet r route
  no_route r route some = (let none_is = none_pending starts r in absurd (cc))

  pub opens : IsOpening site starts (map (λ a. None) starts) 1 cap
  opens = record {
    first = omega arith;
    bounded = omega arith;
    apart = apart;
    places = length-map starts (λ a. None);
    routes = no_route;
    room = omega (arith, none_owed starts);
    total = omega (arith, none_owed starts);
  }
