use Rattle.event_graph.specs.Stores.{events_of, HasNone, IsInFrontIn}
use Rattle.event_graph.proofs.store.is_waited_for.Given as goal

abbrev pub invariant-loop-claim : goal.invariant-loop-claim
invariant-loop-claim l = HasNone (IsInFrontIn l.groups l.initial.claim l.claim l.event) (events_of l.slots)
