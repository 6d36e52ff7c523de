use Rattle.std.proofs.Common.{◌≡◌, ◌≤◌, length, slice_index}
use Rattle.task_assign.specs.Bounds.{column_in}
use Rattle.task_assign.proofs.Limiting.{IsLowering}
use Rattle.task_assign.proofs.greatest.lowers.Given as goal

abbrev pub invariant-loop-row : goal.invariant-loop-row
invariant-loop-row l = (l.row-end ≡ l.costs.size) × (l.row-end ≤ 64) × (length l.values ≡ 64) × IsLowering l.costs l.numbers (column_in l.pairing) (slice_index l.fn.values) (slice_index l.values) l.changed l.row
