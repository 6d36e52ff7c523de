use Rattle.std.proofs.Common.{◌≡◌, ◌≤◌, length, take}
use Rattle.std.specs.Prelude.{vec_len}
use Rattle.std.specs.Vec.{vec_capacity}
use Rattle.coordinator.proofs.resuming.copy_of.Given as goal

abbrev pub invariant-loop-route : goal.invariant-loop-route
invariant-loop-route l = (l.pending.items ≡ take l.route-index l.route-items) × (vec_len l.pending ≡ l.route-index) × (length l.route-items ≤ vec_capacity l.pending)
