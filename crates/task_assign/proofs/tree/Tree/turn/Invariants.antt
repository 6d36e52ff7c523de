use Rattle.std.proofs.Common.{◌≡◌, ℕ, ◌<◌, Bool, true}
use Rattle.task_assign.specs.Pairings.{IsPairing}
use Rattle.task_assign.specs.Bounds.{column_in}
use Rattle.task_assign.specs.Trees.{row_in, AreLinked}
use Rattle.task_assign.proofs.Turns.{IsTurning}
use Rattle.task_assign.proofs.tree.Tree.turn.Given as goal

abbrev pub invariant-loop-place : goal.invariant-loop-place
invariant-loop-place l =
    (l.place < l.self.count)
    × (IsPairing l.self.size (column_in l.fn.pairing) → IsPairing l.self.size (column_in l.pairing))
    × ((tight : ℕ → ℕ → Bool) → AreLinked tight (column_in l.fn.pairing) l.self
    → tight (row_in l.self l.fn.end.place) (column_in l.fn.pairing l.end.row) ≡ true
    → IsTurning tight l.self l.end.row l.place (column_in l.fn.pairing) (column_in l.pairing))

abbrev pub decreases-loop-place : goal.decreases-loop-place
decreases-loop-place l = l.place
