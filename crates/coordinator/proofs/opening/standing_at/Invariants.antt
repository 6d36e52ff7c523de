use Rattle.std.proofs.Common.{◌≡◌, ◌≤◌, length, map, take, None}
use Rattle.std.specs.Prelude.{vec_len}
use Rattle.std.specs.Vec.{vec_capacity}
use Rattle.coordinator.proofs.opening.standing_at.Given as goal

abbrev pub invariant-loop-start : goal.invariant-loop-start
invariant-loop-start l = (l.pending.items ≡ map (λ a. None) (take l._start-index l.starts)) × (vec_len l.pending ≡ l._start-index) × (length l.starts ≤ vec_capacity l.pending)
