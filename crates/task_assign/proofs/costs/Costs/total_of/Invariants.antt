use Rattle.std.proofs.Common.{◌≡◌, ◌*◌, ◌≤◌, slice_index}
use Rattle.task_assign.specs.Sums.{sum_below}
use Rattle.task_assign.specs.Squares.{cost_at}
use Rattle.task_assign.proofs.costs.Costs.total_of.Given as goal

abbrev pub invariant-loop-row : goal.invariant-loop-row
invariant-loop-row l = (l.row-end ≡ l.self.size) × (l.row-end ≤ 64) × (l.sum ≤ l.row * 1000000000000) × (l.sum ≡ sum_below l.row (λ i. cost_at l.self i (slice_index l.columns i)))
