use Rattle.std.proofs.Common.{◌≡◌, length}
use Rattle.task_assign.specs.Assignments.{column_at}
use Rattle.task_assign.proofs.PairingLemmas.{AreApart}
use Rattle.task_assign.proofs.checker.are_paired.Given as goal

abbrev pub invariant-loop-row : goal.invariant-loop-row
invariant-loop-row l = (l.row-end ≡ length l.found.columns) × AreApart l.row (length l.found.columns) (column_at l.found)
