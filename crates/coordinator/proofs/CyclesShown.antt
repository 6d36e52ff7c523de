-- The cycle that is found over the tables is the state's.
use Rattle.std.proofs.Common.{◌≡◌, ℕ, ◌<◌, true, List, [], ◌∷◌, length, sym, ap, ◌∙◌, refl}
use Rattle.fleet_base.specs.EdgeSets.{leads}
use Rattle.fleet_base.specs.Lists.{numbers_of, robots_of}
use Rattle.fleet_base.specs.declared.numbers.RobotNo.{RobotNo}
use Rattle.std.specs.Ordering.{nat_cmp}
use Rattle.std.specs.FinSet as set
use Rattle.fleet_model.specs.Cycles.{cycle_through}
use Rattle.fleet_model.specs.States.{State, cycle_of}
use Rattle.fleet_model.specs.States as model
use Rattle.fleet_model.specs.Good.{IsGood}
use Rattle.fleet_model.proofs.Deferrals.{deferred_below, deferred_true}
use Rattle.deferral.specs.Backlogs.{is_deferred_on}
use Rattle.deferral.proofs.FleetStates.{deferred_shown}
use Rattle.coordinator.specs.declared.tables.Tables.{Tables}
use Rattle.coordinator.specs.Kept.{Shows}

robots_of-numbers_of : (robots : List RobotNo) → robots_of (numbers_of robots) ≡ robots
robots_of-numbers_of [] = refl
robots_of-numbers_of (r ∷ rs) = ap (λ xs. r ∷ xs) (robots_of-numbers_of rs)

module _ (t : Tables) (s : State) (shows : Shows t s) (good : IsGood s) (edges : set.FinSet nat_cmp) (edges_are : (r q : ℕ) → leads edges r q ≡ is_deferred_on t.deferrals r q) where
  same : (r q : ℕ) → leads edges r q ≡ model.is_deferred_on s r q
  same r q = edges_are r q ∙ deferred_shown t.deferrals s shows.deferrals r q

  below : (r q : ℕ) → leads edges r q ≡ true → q < length s.fleet.starts
  below r q there = (deferred_below s r q good.places (deferred_true s r q (sym (same r q) ∙ there))).1

  pub cycle_shown : (r : ℕ) (cycle : List RobotNo) → ((n : ℕ) → ((x y : ℕ) → leads edges x y ≡ true → y < n) → numbers_of cycle ≡ cycle_through n (leads edges) r) → cycle ≡ robots_of (cycle_of s r)
  cycle_shown r cycle found =
      sym (robots_of-numbers_of cycle)
      ∙ ap robots_of (found (length s.fleet.starts) below ∙ ap (λ edge. cycle_through (length s.fleet.starts) edge r) (λ i x y. same x y i))
