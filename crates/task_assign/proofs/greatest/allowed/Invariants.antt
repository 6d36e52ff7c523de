use Rattle.std.proofs.Common.{slice_index}
use Rattle.task_assign.specs.Bounds.{column_in}
use Rattle.task_assign.proofs.Limiting.{IsAllowed}
use Rattle.task_assign.proofs.greatest.allowed.Given as goal

abbrev pub invariant-loop-other : goal.invariant-loop-other
invariant-loop-other l = IsAllowed l.costs l.numbers (column_in l.pairing) (slice_index l.values) l.row l.least l.other
