use Rattle.std.proofs.Common.{◌≡◌, ◌+◌, ◌<◌, ◌≤◌, suc, length, get_or, None, ap, sym, subst, ◌∙◌, arith}
use Rattle.std.specs.Option.{is_some}
use Rattle.fleet_model.specs.States.{opening_state}
use Rattle.fleet_model.proofs.Filters.{length-filter-le}
use Rattle.fleet_model.proofs.Options.{map_none}
use Rattle.deferral.specs.declared.pending.Pending.{Pending}
use Rattle.deferral.specs.Backlogs.{pending_of}
use Rattle.site_map.specs.Claims.{site_of}
use Rattle.coordinator.specs.Kept.{Shows}
use Rattle.coordinator.proofs.Resumed.{any_default, first_all, first_free, first_routes, length-first, none_same, route_put, shaped}
use Rattle.coordinator.proofs.resuming.resumed_tables.Goals as goal

pub loop-robot-init : goal.loop-robot-init
loop-robot-init c =
    let at_is = c.deref.ensures.value in
    let same = none_same c.deref.result.now c.args.from.now.pending.items (ap length at_is ∙ sym c.requires.places) in
    subst (λ o. o) (λ j. Shows c.in_ok-tables.tables (opening_state (site_of c.args.site.now) (at_is j) (same j) c.args.from.now.next.0 0)) (c.in_ok-tables.ensures.tables 0)

pub put_route-requires-clause-free : goal.put_route-requires-clause-free
put_route-requires-clause-free c =
    map_none (λ (p : Pending). p.route) (pending_of c.loop-robot.tables.deferrals c.loop-robot.robot)
    (c.loop-robot.invariant.deferrals.routes c.loop-robot.robot ∙ first_free c.loop-robot.robot c.args.from.now.pending.items)

pub put_route-requires-clause-small : goal.put_route-requires-clause-small
put_route-requires-clause-small c =
    let ps = first_routes c.loop-robot.robot c.args.from.now.pending.items in
    let few = length-filter-le is_some ps in
    omega (arith, c.loop-robot.invariant.owed, few, length-first c.loop-robot.robot c.args.from.now.pending.items, c.requires.places, c.requires.few)

pub put_route-requires-clause-shape : goal.put_route-requires-clause-shape
put_route-requires-clause-shape c =
    let listed = c.deref-route-items.ensures.value in
    let within : c.loop-robot.robot < length c.args.from.now.pending.items = omega (arith, c.loop-robot-test.true, ap length listed) in
    let there : get_or c.args.from.now.pending.items c.loop-robot.robot None ≡ c.route-item.result =
    any_default c.args.from.now.pending.items c.loop-robot.robot None c.route-item.result within ∙ (ap (λ xs. get_or xs c.loop-robot.robot c.route-item.result) (sym listed) ∙ sym c.route-item.is) in
    shaped (site_of c.args.site.now) c.args.from.now.at.items c.args.from.now.pending.items c.loop-robot.robot c.route-item.result c.requires.places c.requires.legal there

pub loop-robot-preserved : goal.loop-robot-preserved
loop-robot-preserved c =
    let listed = c.deref-route-items.ensures.value in
    let within : c.loop-robot.robot < length c.args.from.now.pending.items = omega (arith, c.loop-robot-test.true, ap length listed) in
    let there : get_or c.args.from.now.pending.items c.loop-robot.robot None ≡ c.route-item.result =
    any_default c.args.from.now.pending.items c.loop-robot.robot None c.route-item.result within ∙ (ap (λ xs. get_or xs c.loop-robot.robot c.route-item.result) (sym listed) ∙ sym c.route-item.is) in
    let more : suc c.loop-robot.robot ≡ c.loop-robot.robot + 1 = omega arith in
    subst (λ n. Shows c.put_route.new.tables (opening_state (site_of c.args.site.now) c.args.from.now.at.items (first_routes n c.args.from.now.pending.items) c.args.from.now.next.0 0)) more
    (route_put (site_of c.args.site.now) c.args.from.now.at.items c.args.from.now.pending.items c.args.from.now.next.0 c.loop-robot.robot c.loop-robot.tables c.put_route.new.tables c.route-item.result within c.requires.places there c.in_ok-put_route.ensures c.loop-robot.invariant)

pub returns-clause-tables : goal.returns-clause-tables
returns-clause-tables c =
    let past : length c.args.from.now.pending.items ≤ c.loop-robot.robot = omega (arith, c.loop-robot-test.false, ap length c.deref-route-items.ensures.value) in
    subst (λ ps. Shows c.loop-robot.tables (opening_state (site_of c.args.site.now) c.args.from.now.at.items ps c.args.from.now.next.0 0)) (first_all c.loop-robot.robot c.args.from.now.pending.items past) c.loop-robot.invariant
