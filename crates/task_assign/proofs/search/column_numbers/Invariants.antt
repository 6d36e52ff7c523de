use Rattle.std.proofs.Common.{◌≡◌, length, ◌≤◌}
use Rattle.task_assign.specs.Bounds.{column_in}
use Rattle.task_assign.specs.Finished.{AreLeftOver}
use Rattle.task_assign.proofs.search.column_numbers.Given as goal

abbrev pub invariant-loop-row : goal.invariant-loop-row
invariant-loop-row l = (l.row-end ≡ l.costs.size) × (l.row-end ≤ 64) × (length l.columns ≡ 64) × AreLeftOver l.costs (column_in l.pairing) l.rows l.columns l.row
