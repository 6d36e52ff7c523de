use Rattle.std.proofs.Common.{◌≡◌}
use Rattle.fleet_model.specs.Calls.{unlinked_at}
use Rattle.site_map.specs.Claims.{site_of}
use Rattle.plan_events.proofs.Causes.{unlinked_on}
use Rattle.plan_events.proofs.shape.unlinked_place.Given as goal

abbrev pub invariant-loop-at : goal.invariant-loop-at
invariant-loop-at l = unlinked_at (site_of l.site) l.cells ≡ unlinked_on (site_of l.site) l.cells l.at
