use Rattle.std.proofs.Common.{◌≡◌, ◌++◌}
use Rattle.fleet_model.specs.Sites.{steps}
use Rattle.site_map.specs.Claims.{site_of}
use Rattle.plan_events.proofs.Walked.{steps_on}
use Rattle.plan_events.proofs.expansion.expand.Given as goal

abbrev pub invariant-loop-at : goal.invariant-loop-at
invariant-loop-at l = l.kinds.items ++ steps_on (site_of l.site) l.cells l.at ≡ steps (site_of l.site) l.cells
