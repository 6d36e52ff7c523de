use Rattle.std.proofs.Common.{ℕ, ◌+◌, length}
use Rattle.event_graph.specs.Stores.{IsBehindIn}
use Rattle.event_graph.proofs.Walks.{ahead, IsPassed}
use Rattle.slot_chains.specs.Slots.{IsFirst}
use Rattle.event_graph.proofs.store.is_behind_release.Given as goal

abbrev pub invariant-loop-at : goal.invariant-loop-at
invariant-loop-at l = record {
  low : ℕ;
  first : IsFirst l.claims.keys l.claim low l.at;
  passed : IsPassed l.slots (IsBehindIn l.groups l.claim (l.claim + 1) l.event) low;
}

abbrev pub decreases-loop-at : goal.decreases-loop-at
decreases-loop-at l = ahead (length l.slots) l.at
