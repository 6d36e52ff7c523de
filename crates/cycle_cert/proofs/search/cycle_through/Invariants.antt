use Rattle.std.proofs.Common.{◌≡◌, length}
use Rattle.fleet_base.specs.EdgeSets.{leads}
use Rattle.cycle_cert.proofs.Levels.{IsSearched}
use Rattle.cycle_cert.proofs.search.cycle_through.Given as goal

abbrev pub invariant-loop-between : goal.invariant-loop-between
invariant-loop-between l = (length l.levels ≡ 64) × IsSearched (leads l.edges) l.robot.0 l.levels l.level l.seen l.between
