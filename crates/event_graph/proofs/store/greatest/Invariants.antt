use Rattle.event_graph.specs.Stores.{events_of, IsGreatest, IsBehindIn}
use Rattle.event_graph.proofs.store.greatest.Given as goal

abbrev pub invariant-loop-claim : goal.invariant-loop-claim
invariant-loop-claim l = IsGreatest (IsBehindIn l.groups l.initial.claim l.claim l.event) (events_of l.slots) l.last
