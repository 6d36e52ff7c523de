use Rattle.std.proofs.Common.{◌≡◌}
use Rattle.task_assign.specs.Bounds.{column_in}
use Rattle.task_assign.proofs.Settling.{IsFrom}
use Rattle.task_assign.proofs.least_list.settle.Given as goal

abbrev pub invariant-loop-column : goal.invariant-loop-column
invariant-loop-column l = (l.column-end ≡ l.costs.size) × (l.pairing ≡ l.fn.pairing) × IsFrom l.costs l.numbers (column_in l.fn.pairing) l.row l.column
