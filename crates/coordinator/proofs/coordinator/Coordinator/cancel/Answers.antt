use Rattle.std.proofs.Common.{◌<◌, length, ap, sym, subst, arith}
use Rattle.fleet_base.specs.declared.entries.Act.TheVariants.{Canceled}
use Rattle.fleet_model.specs.Calls.{Cancel}
use Rattle.fleet_model.proofs.Room.{drop_owes}
use Rattle.coordinator.specs.Books.{Book}
use Rattle.coordinator.specs.Kept.{Shows}
use Rattle.coordinator.proofs.Cancels.{canceled}
use Rattle.coordinator.proofs.KeptNext.{good, kept_on, pending_route, robot_is, route_owed, state}
use Rattle.coordinator.proofs.Transitions.{dropped_shown}
use Rattle.coordinator.proofs.coordinator.Coordinator.cancel.Goals as goal

pub drop_pending-requires-clause-owed : goal.drop_pending-requires-clause-owed
drop_pending-requires-clause-owed c = route_owed c.self.inside c.self.invariant c.args.robot.0

pub invariant_of-self : goal.invariant_of-self
invariant_of-self c =
    let i = c.self.inside in
    let k = c.self.invariant in
    let r = c.args.robot.0 in
    let known : r < length i.from.at.items = omega (arith, c.if-robot-robots.false, c.robots.ensures.starts, ap (λ (b : Book). length b.starts) c.self.view_is) in
    let some = pending_route i k r c.is_waiting.result c.is_waiting.ensures c.if-not-is_waiting.false in
    let done = canceled (state i k) r some.0 (robot_is i k r known) some.1 in
    let shows = dropped_shown i.tables c.drop_pending.new.self (state i k) r k.tables (good i k) (robot_is i k r known) some.0 some.1 c.drop_pending.ensures.dropped in
    kept_on i k c.push_reserved.new.self c.drop_pending.new.self r Cancel (record { robot = c.args.robot; act = Canceled })
    (ap (λ t. t.entry) done) c.push_reserved.ensures.items
    (subst (λ t. Shows c.drop_pending.new.self t) (sym (ap (λ t. t.after) done)) shows)
    (omega (arith, c.push_reserved.ensures.len, c.push_reserved.ensures.capacity, k.room, shows.owed, k.tables.owed, drop_owes (state i k) r some.0 some.1)) (ap (λ t. t.after.base) done)
