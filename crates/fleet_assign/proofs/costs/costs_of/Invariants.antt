use Rattle.std.proofs.Common.{◌≡◌, ℕ, ◌<◌, ◌≤◌, length}
use Rattle.task_assign.specs.Squares.{cost_at}
use Rattle.fleet_assign.specs.Tasks.{cost_of}
use Rattle.fleet_assign.proofs.costs.costs_of.Given as goal

abbrev pub invariant-loop-column : goal.invariant-loop-column
invariant-loop-column l = record {
  sized : l.costs.size ≡ length l.scenario.starts;
  done : (i j : ℕ) → i < length l.scenario.starts → j < l.column → cost_at l.costs i j ≡ cost_of l.scenario i j;
  left : (i j : ℕ) → i < length l.scenario.starts → l.column ≤ j → j < length l.scenario.starts → cost_at l.costs i j ≡ 0;
}
