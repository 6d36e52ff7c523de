use Rattle.std.proofs.Common.{◌∙◌, ap, length}
use Rattle.std.proofs.lemmas.List.{length-set}
use Rattle.fleet_base.specs.declared.numbers.EventNo.{EventNo}
use Rattle.event_graph.proofs.Slotted.{emptied, slot_In}
use Rattle.event_graph.proofs.Storing.{finished}
use Rattle.event_graph.proofs.graph.EventGraph.finish.Goals as goal

pub pop_front-requires : goal.pop_front-requires
pop_front-requires c =
    let slot = rw c.deref.ensures.value at c.find-slot.ensures.slot in
    c.self.invariant.graph.robot c.find-slot.result.1 (slot_In c.self.inside.slots.items c.find-slot.result.0 c.find-slot.result.1 slot)

pub invariant_of-self : goal.invariant_of-self
invariant_of-self c =
    let slot = rw c.deref.ensures.value at c.find-slot.ensures.slot in
    finished _ _ _ c.self.inside.robots c.pop_front.new.self c.self.inside.claims c.remove.new.self _ _ c.self.invariant (ap length c.pop_front.ensures.queues ∙ length-set _ _ _) c.remove.ensures.chains c.args.event c.find-slot.result.0 c.find-slot.result.1 slot c.find-slot.ensures.number (rw (← c.self.view_is) at c.requires) c.pop_front.ensures.queues c.remove.ensures.keys

pub returns-clause-events : goal.returns-clause-events
returns-clause-events c =
    let slot = rw c.deref.ensures.value at c.find-slot.ensures.slot in
    rw (← c.self.view_is) (emptied c.self.inside.slots.items 0 c.self.invariant.graph.ascends c.find-slot.result.0 c.find-slot.result.1 c.args.event slot (ap (λ (x : EventNo). x.0) c.find-slot.ensures.number))
