use Rattle.std.proofs.Common.{◌≢◌, ℕ, ◌<◌}
use Rattle.task_assign.specs.Assignments.{column_at}
use Rattle.task_assign.proofs.checker.is_apart.Given as goal

abbrev pub invariant-loop-earlier : goal.invariant-loop-earlier
invariant-loop-earlier l = (k : ℕ) → k < l.earlier → column_at l.found k ≢ column_at l.found l.row
