use Rattle.std.proofs.Common.{◌≡◌, ◌-◌, ◌+◌, ◌≤◌, map, vec_len}
use Rattle.std.specs.List.{range_with_len}
use Rattle.std.specs.Vec.{vec_capacity}
use Rattle.shared_fleet.proofs.Passes.{fresh, started}
use Rattle.shared_fleet.proofs.shared.hand_out.Given as goal

abbrev pub invariant-loop-robot : goal.invariant-loop-robot
invariant-loop-robot l = record {
  first : l.first ≡ started l.lock (l._robot - 1);
  items : l.passes.items ≡ map (fresh l.lock) (range_with_len 1 (l._robot - 1));
  count : vec_len l.passes + 1 ≡ l._robot;
  room : l.fn.robots ≤ vec_capacity l.passes;
}
