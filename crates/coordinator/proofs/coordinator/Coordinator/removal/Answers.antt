use Rattle.std.proofs.Common.{◌≡◌, ◌≤◌, length, sym, subst, arith}
use Rattle.fleet_model.specs.Plans.{own, removable_tail, unfinished}
use Rattle.coordinator.specs.Books.{Book, state_of}
use Rattle.coordinator.proofs.KeptNext.{good, state}
use Rattle.coordinator.proofs.Withdrawing.{above_zero, enough}
use Rattle.coordinator.proofs.coordinator.Coordinator.removal.Goals as goal

pub end_before-end-requires-clause-few : goal.end_before-end-requires-clause-few
end_before-end-requires-clause-few c =
    let i = c.self.inside in
    let k = c.self.invariant in
    let r = c.args.robot.0 in
    let removed = c.removable-removed.result in
    let is : removed ≡ length (removable_tail (state i k).fleet r) = c.removable-removed.ensures (state i k).fleet (good i k).plan k.state.site (sym k.tables.events) in
    subst (λ (b : Book). removed ≤ length (own r (unfinished (state_of b).fleet))) c.self.view_is (enough i k r removed is)

pub returns-clause-found : goal.returns-clause-found
returns-clause-found c =
    let i = c.self.inside in
    let k = c.self.invariant in
    let r = c.args.robot.0 in
    let removed = c.removable-removed.result in
    let is : removed ≡ length (removable_tail (state i k).fleet r) = c.removable-removed.ensures (state i k).fleet (good i k).plan k.state.site (sym k.tables.events) in
    record {
      known = omega (arith, c.if-robot-robots.false, c.robots.ensures.starts);
      some = above_zero removed c.if-removed-eq0.false;
      tail = subst (λ (b : Book). removed ≡ length (removable_tail (state_of b).fleet r)) c.self.view_is is;
      end = c.end_before-end.ensures;
    }
