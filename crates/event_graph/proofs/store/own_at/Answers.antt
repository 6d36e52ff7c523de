use Rattle.std.proofs.Common.{Some, sym, ap, ◌∙◌}
use Rattle.fleet_base.specs.declared.numbers.Event.{Event}
use Rattle.fleet_base.specs.declared.numbers.EventNo.{EventNo}
use Rattle.fleet_model.specs.Plans.{own}
use Rattle.fleet_model.proofs.Numbers.{own_In, one_event}
use Rattle.event_graph.specs.Stores.{events_of}
use Rattle.event_graph.proofs.Owns.{queued_at, queued_none, In_at}
use Rattle.event_graph.proofs.Slotted.{slot_In}
use Rattle.event_graph.proofs.store.own_at.Goals as goal

pub returns-in_default : goal.returns-in_default
returns-in_default c = queued_none (own c.args.robot (events_of c.args.slots.now)) _ c.args.index (c.requires.keyed.by_robot c.args.robot c.requires.robot) (sym c.get.ensures ∙ c.in_default.is)

pub find-requires-clause-has : goal.find-requires-clause-has
find-requires-clause-has c =
    let e = queued_at (own c.args.robot (events_of c.args.slots.now)) _ c.args.index c.in-Some.number (c.requires.keyed.by_robot c.args.robot c.requires.robot) (sym c.get.ensures ∙ c.in-Some.is) in
    (e.0, (own_In c.args.robot (events_of c.args.slots.now) (In_at (own c.args.robot (events_of c.args.slots.now)) c.args.index e.0 e.1)).0, ap (λ k. let n : EventNo = record { 0 = k } in n) e.2)

pub returns : goal.returns
returns c =
    let e = queued_at (own c.args.robot (events_of c.args.slots.now)) _ c.args.index c.in-Some.number (c.requires.keyed.by_robot c.args.robot c.requires.robot) (sym c.get.ensures ∙ c.in-Some.is) in
    ap (λ (x : Event). Some x) (one_event 0 (events_of c.args.slots.now) c.requires.rises (slot_In c.args.slots.now c.find.result.0 c.find.result.1 c.find.ensures.slot) (own_In c.args.robot (events_of c.args.slots.now) (In_at (own c.args.robot (events_of c.args.slots.now)) c.args.index e.0 e.1)).0
    (ap (λ (x : EventNo). x.0) c.find.ensures.number ∙ sym e.2)) ∙ sym e.1
