use Rattle.std.proofs.Common.{◌≡◌, ◌-◌, ap, zero-add, length, arith}
use Rattle.fleet_model.specs.Sites.{steps}
use Rattle.site_map.specs.Claims.{site_of}
use Rattle.plan_events.proofs.Causes.{known_at, no_cell}
use Rattle.plan_events.proofs.Walked.{length-steps_on, step_at, steps_on, steps_on_end}
use Rattle.plan_events.proofs.shape.event_count.Goals as goal

pub loop-at-init : goal.loop-at-init
loop-at-init c = record {
  counted = zero-add (length (steps (site_of c.args.site.now) c.args.cells.now));
  few = omega arith;
}

pub step_count-count-requires-clause-from_known : goal.step_count-count-requires-clause-from_known
step_count-count-requires-clause-from_known c = known_at c.args.site.now c.args.cells.now c.requires.known (c.loop-at.at - 1) no_cell (omega arith)

pub step_count-count-requires-clause-to_known : goal.step_count-count-requires-clause-to_known
step_count-count-requires-clause-to_known c = known_at c.args.site.now c.args.cells.now c.requires.known c.loop-at.at no_cell (omega arith)

pub loop-at-preserved : goal.loop-at-preserved
loop-at-preserved c =
    let site = site_of c.args.site.now in
    let cells = c.args.cells.now in
    let at = c.loop-at.at in
    let step : c.step_count-count.result ≡ length (step_at site cells at) = c.step_count-count.ensures.count in
    let more = length-steps_on site cells at (omega arith) (omega arith) in
    record { counted = omega arith; few = omega arith }

pub returns : goal.returns
returns c =
    let site = site_of c.args.site.now in
    let cells = c.args.cells.now in
    let none : length (steps_on site cells c.loop-at.at) ≡ 0 = ap length (steps_on_end site cells c.loop-at.at (omega arith) (omega arith)) in
    omega arith
