use Rattle.std.proofs.Common.{◌-◌}
use Rattle.fleet_base.specs.EdgeSets.{leads}
use Rattle.cycle_cert.proofs.Bits.{IsBefore}
use Rattle.cycle_cert.proofs.rows.before.Given as goal

abbrev pub invariant-loop-robot : goal.invariant-loop-robot
invariant-loop-robot l = IsBefore (leads l.edges) l.set l.found l.bound

abbrev pub decreases-loop-robot : goal.decreases-loop-robot
decreases-loop-robot l = 64 - l.bound
