use Rattle.std.proofs.Common.{◌≤◌}
use Rattle.task_assign.specs.Bounds.{column_in, AreSound, ArePlaced}
use Rattle.task_assign.proofs.least_total.place_all.Given as goal

abbrev pub invariant-loop-row : goal.invariant-loop-row
invariant-loop-row l = (l.row ≤ l.costs.size) × AreSound l.costs l.numbers × ArePlaced l.costs l.numbers (column_in l.pairing) l.row

abbrev pub decreases-loop-row : goal.decreases-loop-row
decreases-loop-row l = l.row
