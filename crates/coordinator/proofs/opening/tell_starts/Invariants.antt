use Rattle.std.proofs.Common.{◌≡◌, []}
use Rattle.site_map.specs.Claims.{site_of}
use Rattle.coordinator.proofs.Told.{AreTold}
use Rattle.coordinator.proofs.opening.tell_starts.Given as goal

abbrev pub invariant-loop-robot : goal.invariant-loop-robot
invariant-loop-robot l = AreTold (site_of l.site) l.starts l.fn.deferrals l.deferrals l.robot × (l.nothing ≡ [])
