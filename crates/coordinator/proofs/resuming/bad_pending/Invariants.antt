use Rattle.std.proofs.Common.{◌≡◌, drop}
use Rattle.site_map.specs.Claims.{site_of}
use Rattle.coordinator.specs.Openings.{bad_pending}
use Rattle.coordinator.proofs.resuming.bad_pending.Given as goal

abbrev pub invariant-loop-robot : goal.invariant-loop-robot
invariant-loop-robot l = bad_pending (site_of l.site) 0 l.at l.pending ≡ bad_pending (site_of l.site) l.robot (drop l.robot l.at) (drop l.robot l.pending)
