use Rattle.std.proofs.Common.{◌+◌, ◌-◌}
use Rattle.task_assign.specs.Bounds.{column_in, raised_in, AreSound, ArePlaced}
use Rattle.task_assign.proofs.least_total.place.Given as goal

abbrev pub invariant-loop-end : goal.invariant-loop-end
invariant-loop-end l = AreSound l.costs l.numbers × ArePlaced l.costs l.numbers (column_in l.pairing) (l.row + 1)

abbrev pub decreases-loop-end : goal.decreases-loop-end
decreases-loop-end l = 1000000000000 - raised_in l.numbers l.row
