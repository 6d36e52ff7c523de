use Rattle.std.proofs.Common.{◌≡◌, ℕ, ◌<◌, length}
use Rattle.route_plan.specs.Labels.{label_at}
use Rattle.task_assign.specs.Squares.{cost_at}
use Rattle.fleet_assign.specs.Tasks.{cost_or_most, start_of}
use Rattle.fleet_assign.proofs.costs.set_column.Given as goal

abbrev pub invariant-loop-row : goal.invariant-loop-row
invariant-loop-row l = record {
  sized : l.costs.size ≡ l.initial.costs.size;
  done : (i : ℕ) → i < l.row → cost_at l.costs i l.column ≡ cost_or_most (label_at l.labels (start_of l.starts i));
  others : (i j : ℕ) → i < length l.starts → j < length l.starts → (j ≡ l.column → ⊥) → cost_at l.costs i j ≡ cost_at l.initial.costs i j;
}
