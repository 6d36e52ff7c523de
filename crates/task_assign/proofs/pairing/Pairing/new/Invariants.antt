use Rattle.std.proofs.Common.{◌≡◌, ℕ, ◌<◌, get_or, length}
use Rattle.task_assign.proofs.pairing.Pairing.new.Given as goal

abbrev pub invariant-loop-row : goal.invariant-loop-row
invariant-loop-row l = (length l.columns ≡ 64) × ((k : ℕ) → k < l.row → get_or l.columns k 0 ≡ k)
