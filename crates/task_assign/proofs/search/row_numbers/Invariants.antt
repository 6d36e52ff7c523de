use Rattle.std.proofs.Common.{◌≡◌, length}
use Rattle.task_assign.specs.Finished.{AreLessFirst}
use Rattle.task_assign.proofs.search.row_numbers.Given as goal

abbrev pub invariant-loop-row : goal.invariant-loop-row
invariant-loop-row l = (length l.rows ≡ 64) × AreLessFirst l.row l.values l.rows
