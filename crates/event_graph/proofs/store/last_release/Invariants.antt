use Rattle.std.proofs.Common.{ℕ, ◌+◌, length}
use Rattle.event_graph.specs.Stores.{IsBehindIn}
use Rattle.event_graph.proofs.Walks.{ahead, IsBest}
use Rattle.slot_chains.specs.Slots.{IsFirst}
use Rattle.event_graph.proofs.store.last_release.Given as goal

abbrev pub invariant-loop-at : goal.invariant-loop-at
invariant-loop-at l = record {
  low : ℕ;
  first : IsFirst l.claims.keys l.claim low l.at;
  best : IsBest l.slots (IsBehindIn l.groups l.claim (l.claim + 1) l.event) low l.last;
}

abbrev pub decreases-loop-at : goal.decreases-loop-at
decreases-loop-at l = ahead (length l.slots) l.at
