use Rattle.std.proofs.Common.{◌≡◌, ◌-◌, take, length}
use Rattle.fleet_model.specs.Plans.{own}
use Rattle.event_graph.specs.Graphs.{without_events, tail_of}
use Rattle.event_graph.specs.Stores.{events_of, AreKeyed, AreNumbered}
use Rattle.event_graph.proofs.graph.EventGraph.cut_tail.Given as goal

abbrev pub invariant-loop-gone : goal.invariant-loop-gone
invariant-loop-gone l = record {
  groups : l.self-inside.groups ≡ l.initial.self-inside.groups;
  reaches : l.self-inside.reaches ≡ l.initial.self-inside.reaches;
  number : l.self-inside.next_no ≡ l.initial.self-inside.next_no;
  keyed : AreKeyed l.self-inside.slots.items l.self-inside.robots l.self-inside.claims;
  numbered : AreNumbered l.self-inside.slots.items l.self-inside.next_no;
  robots : length l.self-inside.robots.queues ≡ length l.initial.self-inside.robots.queues;
  claims : l.self-inside.claims.chains ≡ l.initial.self-inside.claims.chains;
  counted : l.self-inside.kept ≡ length (events_of l.self-inside.slots.items);
  events : events_of l.self-inside.slots.items ≡ without_events (events_of l.initial.self-inside.slots.items) (tail_of l.robot.0 l._gone (events_of l.initial.self-inside.slots.items));
  owns : own l.robot.0 (events_of l.self-inside.slots.items) ≡ take (length (own l.robot.0 (events_of l.initial.self-inside.slots.items)) - l._gone) (own l.robot.0 (events_of l.initial.self-inside.slots.items));
}
