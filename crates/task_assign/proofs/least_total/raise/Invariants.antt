use Rattle.std.proofs.Common.{◌≡◌}
use Rattle.task_assign.specs.Bounds.{column_in}
use Rattle.task_assign.proofs.Lifting.{IsRaising}
use Rattle.task_assign.proofs.least_total.raise.Given as goal

abbrev pub invariant-loop-row : goal.invariant-loop-row
invariant-loop-row l = (l.row-end ≡ l.tree.size) × IsRaising (column_in l.pairing) l.tree l.by l.fn.numbers l.numbers l.row
