use Rattle.std.proofs.Common.{◌≡◌, ℕ, ◌+◌, ◌<◌, length, slice_index}
use Rattle.task_assign.specs.Squares.{cost_at}
use Rattle.task_assign.specs.Bounds.{column_in, lowered_in}
use Rattle.task_assign.proofs.greatest.first_values.Given as goal

abbrev pub invariant-loop-row : goal.invariant-loop-row
invariant-loop-row l =
    (length l.values ≡ 64) × ((i : ℕ) → i < l.row → slice_index l.values i ≡ cost_at l.costs i (column_in l.pairing 0) + lowered_in l.numbers (column_in l.pairing 0))
