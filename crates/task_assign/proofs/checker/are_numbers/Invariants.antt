use Rattle.std.proofs.Common.{◌≡◌}
use Rattle.task_assign.specs.Squares.{cost_at}
use Rattle.task_assign.specs.Assignments.{column_at, row_number_at, column_number_at}
use Rattle.task_assign.proofs.Checks.{AreNumbersUpto}
use Rattle.task_assign.proofs.checker.are_numbers.Given as goal

abbrev pub invariant-loop-row : goal.invariant-loop-row
invariant-loop-row l = (l.row-end ≡ l.costs.size) × AreNumbersUpto l.row l.costs.size (cost_at l.costs) (column_at l.found) (row_number_at l.found) (column_number_at l.found)
