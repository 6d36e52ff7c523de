use Rattle.std.proofs.Common.{slice_index}
use Rattle.task_assign.specs.Sums.{sum_below}
use Rattle.task_assign.specs.Bounds.{column_in}
use Rattle.task_assign.specs.Limits.{AreLimits}
use Rattle.task_assign.proofs.greatest.greatest_rows.Given as goal

abbrev pub invariant-loop : goal.invariant-loop
invariant-loop l = AreLimits l.costs l.numbers (column_in l.pairing) (slice_index l.values)

abbrev pub decreases-loop : goal.decreases-loop
decreases-loop l = sum_below l.costs.size (slice_index l.values)
