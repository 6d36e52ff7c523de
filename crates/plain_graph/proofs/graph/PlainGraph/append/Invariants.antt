use Rattle.std.proofs.Common.{◌≡◌, ◌+◌, ◌++◌, take, vec_len}
use Rattle.std.specs.Vec.{vec_capacity}
use Rattle.fleet_model.specs.Plans.{numbered}
use Rattle.plain_graph.proofs.graph.PlainGraph.append.Given as goal

abbrev pub invariant-loop-kind : goal.invariant-loop-kind
invariant-loop-kind l = record {
  robots : l.self-inside.robots ≡ l.initial.self-inside.robots;
  groups : l.self-inside.groups ≡ l.initial.self-inside.groups;
  items : l.self-inside.kept.items ≡ l.initial.self-inside.kept.items ++ numbered l.initial.self-inside.next_no l.robot.0 (take l.kind-index l.kinds);
  number : l.self-inside.next_no ≡ l.initial.self-inside.next_no + l.kind-index;
  room : vec_capacity l.self-inside.kept ≡ vec_capacity l.initial.self-inside.kept;
  len : vec_len l.self-inside.kept ≡ vec_len l.initial.self-inside.kept + l.kind-index;
}
