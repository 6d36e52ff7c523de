use Rattle.std.proofs.Common.{◌≡◌, ℕ, ◌+◌, ◌-◌, ◌≤◌, ◌==◌, ◌&&◌}
use Rattle.std.specs.Prelude.{nat_lt}
use Rattle.bit_set.specs.Words.{is_in}
use Rattle.deferral.specs.Matrices.{count_at, one_if}
use Rattle.deferral.proofs.matrix.Matrix.lower_row.Given as goal

abbrev pub invariant-loop-robot : goal.invariant-loop-robot
invariant-loop-robot l = (l.bound ≤ 64) × ((r q : ℕ) → count_at l.self r q + one_if ((r == l.from.0) && (nat_lt q l.bound && is_in l.to q)) ≡ count_at l.fn.self r q)

abbrev pub decreases-loop-robot : goal.decreases-loop-robot
decreases-loop-robot l = 64 - l.bound
