use Rattle.std.proofs.Common.{◌≡◌}
use Rattle.task_assign.specs.Bounds.{column_in, meets}
use Rattle.task_assign.specs.Trees.{row_in}
use Rattle.task_assign.proofs.Exploring.{IsExploring}
use Rattle.task_assign.proofs.tree.Tree.explore.Given as goal

abbrev pub invariant-loop-row : goal.invariant-loop-row
invariant-loop-row l = (l.row-end ≡ l.fn.self.size) × IsExploring (meets l.costs l.numbers) (column_in l.pairing) l.fn.self l.self (row_in l.fn.self l.place) l.row
