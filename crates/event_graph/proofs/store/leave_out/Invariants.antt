use Rattle.std.proofs.Common.{◌≡◌, ◌+◌, take, map}
use Rattle.event_graph.specs.Stores.{claim_key}
use Rattle.event_graph.proofs.store.leave_out.Given as goal

abbrev pub invariant-loop-slot : goal.invariant-loop-slot
invariant-loop-slot l = record {
  keyed : l.claims.keys ≡ map claim_key (take l.slot-index l.slot-items);
  chains : l.claims.chains ≡ l.initial.claims.chains;
  spare : l.claims.spare + l.slot-index ≡ l.initial.claims.spare;
}
