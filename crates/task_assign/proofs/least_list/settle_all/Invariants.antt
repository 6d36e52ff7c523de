use Rattle.std.proofs.Common.{◌≡◌, ℕ, ◌<◌}
use Rattle.task_assign.specs.Bounds.{column_in, ArePlaced, IsLeastAt}
use Rattle.task_assign.proofs.least_list.settle_all.Given as goal

abbrev pub invariant-loop-row : goal.invariant-loop-row
invariant-loop-row l = (l.row-end ≡ l.costs.size) × ArePlaced l.costs l.numbers (column_in l.pairing) 0 × ((i : ℕ) → i < l.row → IsLeastAt l.costs l.numbers (column_in l.pairing) i)
