use Rattle.std.proofs.Common.{◌↔◌, IsTrue}
use Rattle.fleet_base.specs.declared.numbers.Event.{Event}
use Rattle.event_graph.specs.Graphs.{IsReadyAmong}
use Rattle.event_graph.specs.Stores.{events_of}
use Rattle.event_graph.proofs.Scanning.{at_one}
use Rattle.event_graph.proofs.Slotted.{slot_In}
use Rattle.event_graph.proofs.graph.EventGraph.ready.Goals as goal

pub is_ready-requires-clause-event : goal.is_ready-requires-clause-event
is_ready-requires-clause-event c = rw c.deref-4.ensures.value (slot_In c.self.inside.slots.items c.find.result.0 c.find.result.1 (rw c.deref.ensures.value at c.find.ensures.slot))

pub is_ready-requires-clause-robot : goal.is_ready-requires-clause-robot
is_ready-requires-clause-robot c = c.self.invariant.graph.robot c.find.result.1 (slot_In c.self.inside.slots.items c.find.result.0 c.find.result.1 (rw c.deref.ensures.value at c.find.ensures.slot))

pub returns : goal.returns
returns c =
    let slot = rw c.deref.ensures.value at c.find.ensures.slot in
    let answer = rw (c.deref-2.ensures.value, c.deref-4.ensures.value) at c.is_ready.ensures in
    rw (← c.self.view_is) (at_one (λ (e : Event). IsTrue c.is_ready.result ↔ IsReadyAmong c.self.inside.groups.items (events_of c.self.inside.slots.items) e) 0 (events_of c.self.inside.slots.items) c.args.event c.find.result.1 c.self.invariant.graph.ascends (slot_In c.self.inside.slots.items c.find.result.0 c.find.result.1 slot) c.find.ensures.number answer)
