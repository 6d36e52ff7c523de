use Rattle.event_graph.specs.Stores.{events_of, HasNone, IsBehindIn}
use Rattle.event_graph.proofs.store.is_free.Given as goal

abbrev pub invariant-loop-claim : goal.invariant-loop-claim
invariant-loop-claim l = HasNone (IsBehindIn l.groups l.initial.claim l.claim l.event) (events_of l.slots)
