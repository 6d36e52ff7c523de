-- A run may open with the starts of a scenario.
use Rattle.std.proofs.Common.{◌≡◌, ◌≢◌, ℕ, ◌<◌, ◌≤◌, zero, suc, true, false, ◌⊎◌, inl, inr, List, [], ◌∷◌, Option, Some, None, length, map, get_or, refl, subst, arith}
use Rattle.std.proofs.lemmas.List.{length-map}
use Rattle.std.specs.Prelude.{slice_get, AllPairs}
use Rattle.std.specs.List.{filter}
use Rattle.std.specs.Option.{is_some}
use Rattle.std.proofs.lemmas.Bool.{both_ways, false≢true, cases_lt}
use Rattle.std.proofs.lemmas.Option.{slice_get_within, get_or_from_slice_get}
use Rattle.fleet_base.specs.declared.numbers.CellNo.{CellNo}
use Rattle.fleet_base.specs.declared.numbers.ClaimNo.{ClaimNo}
use Rattle.fleet_model.specs.Good.{IsOpening}
use Rattle.fleet_model.specs.Replays.{start_at}
use Rattle.fleet_model.specs.Sites.{Site, footprint_of, has_claim, in_conflict, is_kept_from}
use Rattle.fleet_model.proofs.Blockers.{has_In}
use Rattle.fleet_model.proofs.Claims.{conflict_symmetric}
use Rattle.fleet_model.proofs.Tests.{In_any}
use Rattle.site_map.specs.Built.{BuiltSite}
use Rattle.site_map.specs.Claims.{site_of}
use Rattle.scenario.specs.Scenarios.{ScenarioValue, IsScenario, do_conflict}

-- no route is pending
none_pending : (starts : List CellNo) (r : ℕ) (route : List CellNo) → get_or (map (λ (a : CellNo). let o : Option (List CellNo) = None in o) starts) r None ≡ Some route → ⊥
none_pending [] r route e = cc
none_pending (a ∷ rest) zero route e = cc
none_pending (a ∷ rest) (suc r) route e = none_pending rest r route e

none_counted : (starts : List CellNo) → length (filter is_some (map (λ (a : CellNo). let o : Option (List CellNo) = None in o) starts)) ≡ 0
none_counted [] = refl
none_counted (a ∷ rest) = none_counted rest

-- a robot that holds a claim at its start starts in a cell whose footprint has it
held_at : (site : Site) (o : Option CellNo) (c : ClaimNo) → (start_at site o).holds c ≡ true → (a : CellNo) × (o ≡ Some a) × (has_claim (footprint_of site a) c ≡ true)
held_at site None c h = absurd (false≢true h)
held_at site (Some a) c h = (a, refl, h)

-- cells with claims that conflict are in conflict
found : (site : BuiltSite) (a b : CellNo) (c d : ClaimNo) → has_claim (footprint_of (site_of site) a) c ≡ true → has_claim (footprint_of (site_of site) b) d ≡ true → in_conflict (site_of site).groups c d ≡ true → do_conflict site a b ≡ true
found site a b c d one other conflict =
    In_any (λ (x : ClaimNo). is_kept_from (site_of site) x b) (footprint_of (site_of site) a) (has_In (footprint_of (site_of site) a) c one)
    (In_any (λ (y : ClaimNo). in_conflict (site_of site).groups c y) (footprint_of (site_of site) b) (has_In (footprint_of (site_of site) b) d other) conflict)

-- of two starts the earlier one doesn't conflict with the later
free : (site : BuiltSite) (starts : List CellNo) (r q : ℕ) (a b : CellNo) → AllPairs (λ x y. do_conflict site x y ≡ false) starts → r < q → slice_get starts r ≡ Some a → slice_get starts q ≡ Some b → do_conflict site a b ≡ false
free site starts r q a b apart before one other =
    let h = apart r q a before (slice_get_within starts q b other) in
    let x : get_or starts r a ≡ a = get_or_from_slice_get starts r a a one in
    let y : get_or starts q a ≡ b = get_or_from_slice_get starts q b a other in
    subst (λ z. do_conflict site z b ≡ false) x (subst (λ z. do_conflict site (get_or starts r a) z ≡ false) y h)

clash : (s : ScenarioValue) → IsScenario s → (r q : ℕ) (c d : ClaimNo) (a b : CellNo) → r ≢ q → in_conflict (site_of s.site).groups c d ≡ true
    → slice_get s.starts r ≡ Some a → slice_get s.starts q ≡ Some b → has_claim (footprint_of (site_of s.site) a) c ≡ true → has_claim (footprint_of (site_of s.site) b) d ≡ true → ⊥
clash s is r q c d a b differ conflict one other held taken = by_order (cases_lt r q)
  where
    by_order : (r < q) ⊎ (q ≤ r) → ⊥
    by_order (inl before) = both_ways (do_conflict s.site a b) (free s.site s.starts r q a b is.apart before one other) (found s.site a b c d held taken conflict)
    by_order (inr behind) =
        let before : q < r = omega arith in
        both_ways (do_conflict s.site b a) (free s.site s.starts q r b a is.apart before other one) (found s.site b a d c taken held (conflict_symmetric (site_of s.site).groups c d conflict))

pub may_open : (s : ScenarioValue) → IsScenario s → (cap : ℕ) → IsOpening (site_of s.site) s.starts (map (λ a. None) s.starts) 1 cap
may_open s is cap = record {
  first = omega arith;
  bounded = omega arith;
  apart = λ r q c d differ conflict one other.
      let held = held_at (site_of s.site) (slice_get s.starts r) c one in
      let taken = held_at (site_of s.site) (slice_get s.starts q) d other in
      clash s is r q c d held.0 taken.0 differ conflict held.1 taken.1 held.2 taken.2;
  places = length-map s.starts (λ a. None);
  routes = λ r route e. absurd (none_pending s.starts r route e);
  room = omega (arith, none_counted s.starts);
  total = omega (arith, none_counted s.starts);
}
