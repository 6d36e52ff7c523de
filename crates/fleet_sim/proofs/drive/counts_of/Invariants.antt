use Rattle.std.proofs.Common.{◌≡◌, ℕ, ◌<◌, get_or, vec_len}
use Rattle.fleet_sim.specs.Drives.{served_in}
use Rattle.fleet_sim.proofs.drive.counts_of.Given as goal

abbrev pub invariant-loop-robot : goal.invariant-loop-robot
invariant-loop-robot l = record {
  long : vec_len l.counts ≡ l.robot;
  each : (r : ℕ) → r < l.robot → get_or l.counts.items r 0 ≡ served_in l.fleet l.missions r;
}
