use Rattle.std.proofs.Common.{◌≡◌, ◌≤◌, ◌∙◌, List, Option, length, refl, sym, ap, subst}
use Rattle.fleet_base.specs.declared.numbers.Event.{Event}
use Rattle.event_graph.specs.Stores.{events_of, AreEmptyBelow, AreNumbered, AreQueued}
use Rattle.event_graph.proofs.Slotted.{events_dropped, numbered_dropped}
use Rattle.event_graph.proofs.Storing.{restored}
use Rattle.event_graph.proofs.graph.EventGraph.leave_out_empty.Goals as goal

pub invariant_of-self : goal.invariant_of-self
invariant_of-self c =
    let i = c.self.inside in
    let k = c.self.invariant in
    let count = c.empty_in_front-empty.result in
    let empty : AreEmptyBelow i.slots.items count = rw c.deref.ensures.value at c.empty_in_front-empty.ensures.empty in
    let within : count ≤ length i.slots.items = rw c.deref.ensures.value at c.empty_in_front-empty.ensures.within in
    let same : events_of c.leave_out.new.slots.items ≡ events_of i.slots.items = ap events_of c.leave_out.ensures.slots ∙ events_dropped i.slots.items count empty in
    restored i.groups.items i.reaches.items i.slots.items i.robots i.claims i.kept i.next_no k
    c.leave_out.new.slots.items i.robots c.leave_out.new.claims
    (record { by_robot = subst (λ (es : List Event). AreQueued es i.robots.queues) (sym same) k.keyed.by_robot; by_claim = c.leave_out.ensures.keyed })
    (subst (λ (slots : List (Option Event)). AreNumbered slots i.next_no) (sym c.leave_out.ensures.slots) (numbered_dropped i.slots.items i.next_no k.numbered count within))
    same refl c.leave_out.ensures.chains

pub returns-then-slots-empty : goal.returns-then-slots-empty
returns-then-slots-empty c =
    let i = c.self.inside in
    let empty : AreEmptyBelow i.slots.items c.empty_in_front-empty.result = rw c.deref.ensures.value at c.empty_in_front-empty.ensures.empty in
    rw (← c.self.view_is) (record {
      robots = refl;
      groups = refl;
      events = ap events_of c.leave_out.ensures.slots ∙ events_dropped i.slots.items c.empty_in_front-empty.result empty;
      next = refl;
    })
