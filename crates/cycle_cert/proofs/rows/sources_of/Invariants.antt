use Rattle.std.proofs.Common.{◌≡◌, ℕ, ◌<◌, true}
use Rattle.fleet_base.specs.EdgeSets.{leads}
use Rattle.bit_set.specs.Words.{is_in}
use Rattle.cycle_cert.proofs.rows.sources_of.Given as goal

abbrev pub invariant-loop-robot : goal.invariant-loop-robot
invariant-loop-robot l = (v q : ℕ) → v < l.robot → leads l.edges v q ≡ true → is_in l.found v ≡ true
