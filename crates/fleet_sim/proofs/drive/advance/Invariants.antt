use Rattle.std.proofs.Common.{◌≡◌, ℕ, ◌<◌, false}
use Rattle.fleet_sim.specs.Drives.{goes_in}
use Rattle.fleet_sim.proofs.drive.advance.Given as goal

abbrev pub invariant-loop-number : goal.invariant-loop-number
invariant-loop-number l = record {
  same : l.fleet ≡ l.fn.fleet;
  counts : l.counts.items ≡ l.fn.counts.items;
  passed : (q : ℕ) → q < l.number → goes_in l.fn.fleet l.missions q ≡ false;
}
