use Rattle.event_graph.specs.Stores.{AreEmptyBelow}
use Rattle.event_graph.proofs.store.empty_in_front.Given as goal

abbrev pub invariant-loop-slot : goal.invariant-loop-slot
invariant-loop-slot l = AreEmptyBelow l.slots l.slot
