use Rattle.std.proofs.Common.{◌-◌, refl, sym, ◌∙◌, arith}
use Rattle.fleet_model.specs.Plans.{own}
use Rattle.merge_op.proofs.FirstFree.{answered, own_at, scan_ends, scan_goes_on, scan_rests}
use Rattle.merge_op.proofs.withdrawal.first_free.Goals as goal

pub awaited-requires : goal.awaited-requires
awaited-requires c = (c.in-Some.event, own_at c.args.robot.0 c.args.graph.now.events (c.loop-place.place - 1) c.in-Some.event (sym c.in-Some.ensures), refl)

pub returns-then-awaited : goal.returns-then-awaited
returns-then-awaited c =
    let graph = c.args.graph.now in
    let place = c.loop-place.place - 1 in
    scan_ends c.args.cells graph.groups graph.events (own c.args.robot.0 graph.events) c.loop-place.place place c.in-Some.event (omega arith) (sym c.in-Some.ensures) c.loop-place.first
    (answered graph.groups c.args.robot.0 graph.events place c.in-Some.event c.awaited.result _ (sym c.in-Some.ensures) c.awaited.ensures c.if-awaited.true) c.loop-place.invariant

pub loop-place-preserved-then-begins_step : goal.loop-place-preserved-then-begins_step
loop-place-preserved-then-begins_step c =
    let graph = c.args.graph.now in
    let place = c.loop-place.place - 1 in
    scan_rests c.args.cells graph.groups graph.events (own c.args.robot.0 graph.events) c.loop-place.place place c.in-Some.event (omega arith) (sym c.in-Some.ensures) c.loop-place.first
    (answered graph.groups c.args.robot.0 graph.events place c.in-Some.event c.awaited.result _ (sym c.in-Some.ensures) c.awaited.ensures c.if-awaited.false) (sym c.begins_step.ensures ∙ c.if-begins_step.true) c.loop-place.invariant

pub loop-place-preserved : goal.loop-place-preserved
loop-place-preserved c =
    let graph = c.args.graph.now in
    let place = c.loop-place.place - 1 in
    scan_goes_on c.args.cells graph.groups graph.events (own c.args.robot.0 graph.events) c.loop-place.place place c.in-Some.event (omega arith) (sym c.in-Some.ensures) c.loop-place.first
    (answered graph.groups c.args.robot.0 graph.events place c.in-Some.event c.awaited.result _ (sym c.in-Some.ensures) c.awaited.ensures c.if-awaited.false) (sym c.begins_step.ensures ∙ c.if-begins_step.false) c.loop-place.invariant
