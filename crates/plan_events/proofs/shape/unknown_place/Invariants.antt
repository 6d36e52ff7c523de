use Rattle.std.proofs.Common.{◌≡◌}
use Rattle.fleet_model.specs.Calls.{unknown_at}
use Rattle.site_map.specs.Claims.{site_of}
use Rattle.plan_events.proofs.Causes.{unknown_on}
use Rattle.plan_events.proofs.shape.unknown_place.Given as goal

abbrev pub invariant-loop-at : goal.invariant-loop-at
invariant-loop-at l = unknown_at (site_of l.site) l.cells ≡ unknown_on (site_of l.site) l.cells l.at
