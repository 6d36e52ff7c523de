use Rattle.std.proofs.Common.{◌≡◌, ◌+◌, ◌++◌, length, take, vec_len}
use Rattle.std.specs.Vec.{vec_capacity}
use Rattle.fleet_model.specs.Plans.{numbered}
use Rattle.event_graph.specs.Stores.{events_of, AreKeyed, AreNumbered}
use Rattle.event_graph.proofs.graph.EventGraph.append.Given as goal

abbrev pub invariant-loop-kind : goal.invariant-loop-kind
invariant-loop-kind l = record {
  groups : l.self-inside.groups ≡ l.initial.self-inside.groups;
  reaches : l.self-inside.reaches ≡ l.initial.self-inside.reaches;
  keyed : AreKeyed l.self-inside.slots.items l.self-inside.robots l.self-inside.claims;
  placed : AreNumbered l.self-inside.slots.items l.self-inside.next_no;
  events : events_of l.self-inside.slots.items ≡ events_of l.initial.self-inside.slots.items ++ numbered l.initial.self-inside.next_no l.robot.0 (take l.kind-index l.kinds);
  robots : length l.self-inside.robots.queues ≡ length l.initial.self-inside.robots.queues;
  claims : l.self-inside.claims.chains ≡ l.initial.self-inside.claims.chains;
  kept : l.self-inside.kept ≡ l.initial.self-inside.kept;
  number : l.self-inside.next_no ≡ l.initial.self-inside.next_no + l.kind-index;
  room : vec_capacity l.self-inside.slots ≡ vec_capacity l.initial.self-inside.slots;
  len : vec_len l.self-inside.slots ≡ vec_len l.initial.self-inside.slots + l.kind-index;
  robots_spare : l.self-inside.robots.spare + l.kind-index ≡ l.initial.self-inside.robots.spare;
  claims_spare : l.self-inside.claims.spare + l.kind-index ≡ l.initial.self-inside.claims.spare;
}
