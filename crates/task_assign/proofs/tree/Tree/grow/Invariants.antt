use Rattle.task_assign.specs.Bounds.{column_in, meets}
use Rattle.task_assign.proofs.Exploring.{IsGrowing}
use Rattle.task_assign.proofs.tree.Tree.grow.Given as goal

abbrev pub invariant-loop-place : goal.invariant-loop-place
invariant-loop-place l = IsGrowing (meets l.costs l.numbers) (column_in l.pairing) l.fn.self l.self l.place
