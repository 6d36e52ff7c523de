use Rattle.fleet_base.specs.EdgeSets.{leads}
use Rattle.cycle_cert.proofs.Levels.{IsUnderway}
use Rattle.cycle_cert.proofs.search.way_back.Given as goal

abbrev pub invariant-loop-left : goal.invariant-loop-left
invariant-loop-left l = IsUnderway (leads l.edges) l.fn.robot.0 l.between l.cycle l.at.0 l.left

abbrev pub decreases-loop-left : goal.decreases-loop-left
decreases-loop-left l = l.left
