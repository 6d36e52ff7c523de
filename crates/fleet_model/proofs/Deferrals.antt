-- The test of deferral says what the relation says, and the cycle of a state is the least.
use Rattle.std.proofs.Common.{◌≡◌, ℕ, ◌<◌, ◌≤◌, true, not, ◌==◌, ◌⊎◌, inl, inr, refl, sym, ap, subst, List, [], length, Option, Some, None, unwrap_or, arith}
use Rattle.std.proofs.lemmas.Bool.{and_parts, and_from, not-true, not_from_false, ne_eqb, cases_lt}
use Rattle.std.proofs.lemmas.List.{get_or_past}
use Rattle.std.specs.Prelude.{slice_get}
use Rattle.std.specs.List.{list_any}
use Rattle.fleet_base.specs.declared.numbers.CellNo.{CellNo}
use Rattle.fleet_base.specs.declared.numbers.ClaimNo.{ClaimNo}
use Rattle.fleet_model.specs.Lists.{In}
use Rattle.fleet_model.specs.Sites.{Site, steps, needs}
use Rattle.fleet_model.specs.Plans.{IsBlocker}
use Rattle.fleet_model.specs.Cycles.{IsLeastCycle}
use Rattle.fleet_model.specs.Deferral.{ends, is_kept_by}
use Rattle.fleet_model.specs.States.{State, pending_of, pending_route, is_deferred_on, IsDeferredOn, cycle_of}
use Rattle.fleet_model.proofs.Tests.{any_In, In_any}
use Rattle.fleet_model.proofs.Cycles.{cycle_through_least}
use Rattle.fleet_model.proofs.Blockers.{kept_blocker, blocker_kept, blocker_below}
use Rattle.fleet_model.proofs.Steps.{In_acquired}

pub pending_is : (s : State) (r : ℕ) (route : List CellNo) → pending_of s r ≡ Some route → pending_route s r ≡ route
pending_is s r route h = ap (λ o. unwrap_or o []) h

-- what needs a claim is a route
route_of_need : (site : Site) (o : Option (List CellNo)) (c : ClaimNo) → In c (needs site (unwrap_or o [])) → (route : List CellNo) × (o ≡ Some route)
route_of_need site None c m = elim m [ ]
route_of_need site (Some route) c m = (route, refl)

-- where the test holds, the relation does
pub deferred_true : (s : State) (r q : ℕ) → is_deferred_on s r q ≡ true → IsDeferredOn s r q
deferred_true s r q h =
    let a = and_parts (not (q == r)) (list_any (λ (c : ClaimNo). is_kept_by s.fleet.site c (slice_get (ends s.fleet) q)) (needs s.fleet.site (pending_route s r))) h in
    let c = any_In (λ (c : ClaimNo). is_kept_by s.fleet.site c (slice_get (ends s.fleet) q)) (needs s.fleet.site (pending_route s r)) a.1 in
    let pends = route_of_need s.fleet.site (pending_of s r) c.0 c.1 in
    record {
      route = pends.0;
      pending = pends.1;
      claim = c.0;
      blocker = subst (λ x. IsBlocker s.fleet r x c.0 q) (pending_is s r pends.0 pends.1) (kept_blocker s.fleet r (pending_route s r) c.0 q c.1 (not-true (q == r) a.0) c.2);
    }

-- where the relation holds, the test does
pub true_deferred : (s : State) (r q : ℕ) → IsDeferredOn s r q → is_deferred_on s r q ≡ true
true_deferred s r q h =
    let need : In h.claim (needs s.fleet.site (pending_route s r)) =
    subst (λ x. In h.claim (needs s.fleet.site x)) (sym (pending_is s r h.route h.pending)) (In_acquired (steps s.fleet.site h.route) h.claim h.blocker.needed)
    in
    and_from (not (q == r)) (list_any (λ (c : ClaimNo). is_kept_by s.fleet.site c (slice_get (ends s.fleet) q)) (needs s.fleet.site (pending_route s r))) (not_from_false (q == r) (ne_eqb q r h.blocker.other))
    (In_any (λ (c : ClaimNo). is_kept_by s.fleet.site c (slice_get (ends s.fleet) q)) (needs s.fleet.site (pending_route s r)) need (blocker_kept s.fleet r h.route h.claim q h.blocker))

-- a robot with a route pending has a place
pub pending_below : (s : State) (r : ℕ) (route : List CellNo) → pending_of s r ≡ Some route → r < length s.pending
pending_below s r route h = go (cases_lt r (length s.pending))
  where
    go : (r < length s.pending) ⊎ (length s.pending ≤ r) → r < length s.pending
    go (inl l) = l
    go (inr l) = let e = get_or_past s.pending r None l in absurd (cc)

-- both robots of a deferral are robots
pub deferred_below : (s : State) (r q : ℕ) → length s.pending ≡ length s.fleet.starts → IsDeferredOn s r q → (r < length s.fleet.starts) × (q < length s.fleet.starts)
deferred_below s r q e h = let l = pending_below s r h.route h.pending in (omega arith, blocker_below s.fleet r h.route h.claim q h.blocker)

-- the cycle of a state is the least of its deferrals
pub cycle_of_least : (s : State) (r : ℕ) → length s.pending ≡ length s.fleet.starts → IsLeastCycle (is_deferred_on s) r (cycle_of s r)
cycle_of_least s r e = cycle_through_least (length s.fleet.starts) (is_deferred_on s) r (λ a b h. deferred_below s a b e (deferred_true s a b h))
