use Rattle.std.proofs.Common.{◌≡◌}
use Rattle.fleet_base.specs.declared.numbers.Event.{Event}
use Rattle.event_graph.specs.Graphs.{greatest_after}
use Rattle.event_graph.specs.Stores.{events_of}
use Rattle.event_graph.proofs.Scanning.{at_one}
use Rattle.event_graph.proofs.Slotted.{slot_In}
use Rattle.event_graph.proofs.graph.EventGraph.greatest_before.Goals as goal

pub returns : goal.returns
returns c =
    let slot = rw c.deref.ensures.value at c.find.ensures.slot in
    let answer = rw (c.deref-2.ensures.value, c.deref-4.ensures.value) at c.greatest.ensures in
    rw (← c.self.view_is) (at_one (λ (e : Event). c.greatest.result ≡ greatest_after c.self.inside.groups.items (events_of c.self.inside.slots.items) e) 0 (events_of c.self.inside.slots.items) c.args.event c.find.result.1 c.self.invariant.graph.ascends (slot_In c.self.inside.slots.items c.find.result.0 c.find.result.1 slot) c.find.ensures.number answer)
