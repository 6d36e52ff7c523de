use Rattle.std.proofs.Common.{◌≡◌, ◌+◌, ◌*◌, ◌≤◌, length}
use Rattle.fleet_model.specs.Sites.{steps}
use Rattle.site_map.specs.Claims.{site_of}
use Rattle.plan_events.proofs.Walked.{steps_on}
use Rattle.plan_events.proofs.shape.event_count.Given as goal

abbrev pub invariant-loop-at : goal.invariant-loop-at
invariant-loop-at l = record {
  counted : l.count + length (steps_on (site_of l.site) l.cells l.at) ≡ length (steps (site_of l.site) l.cells);
  few : l.count ≤ 7 * l.at;
}
