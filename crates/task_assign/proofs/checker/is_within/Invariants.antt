use Rattle.std.proofs.Common.{◌≡◌, ℕ, ◌<◌, ◌+ℤ◌, ◌≤ℤ◌, pos}
use Rattle.task_assign.specs.Squares.{cost_at}
use Rattle.task_assign.specs.Assignments.{row_number_at, column_number_at}
use Rattle.task_assign.proofs.checker.is_within.Given as goal

abbrev pub invariant-loop-column : goal.invariant-loop-column
invariant-loop-column l = (l.column-end ≡ l.costs.size) × ((j : ℕ) → j < l.column → (row_number_at l.found l.row +ℤ column_number_at l.found j) ≤ℤ pos (cost_at l.costs l.row j))
