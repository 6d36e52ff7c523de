use Rattle.std.proofs.Common.{ℕ, ◌+◌}
use Rattle.event_graph.specs.Stores.{IsInFrontIn}
use Rattle.event_graph.proofs.Walks.{back, IsPassedBack}
use Rattle.slot_chains.specs.Slots.{IsLast}
use Rattle.event_graph.proofs.store.is_before_acquire.Given as goal

abbrev pub invariant-loop-at : goal.invariant-loop-at
invariant-loop-at l = record {
  high : ℕ;
  last : IsLast l.claims.keys l.claim high l.at;
  passed : IsPassedBack l.slots (IsInFrontIn l.groups l.claim (l.claim + 1) l.event) high;
}

abbrev pub decreases-loop-at : goal.decreases-loop-at
decreases-loop-at l = back l.at
