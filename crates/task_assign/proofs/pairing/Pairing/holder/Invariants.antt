use Rattle.std.proofs.Common.{◌≢◌, ℕ, ◌<◌}
use Rattle.task_assign.specs.Bounds.{column_in}
use Rattle.task_assign.proofs.pairing.Pairing.holder.Given as goal

abbrev pub invariant-loop-row : goal.invariant-loop-row
invariant-loop-row l = (k : ℕ) → k < l.row → column_in l.self k ≢ l.column
