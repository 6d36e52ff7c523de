use Rattle.std.proofs.Common.{◌≡◌, ◌+◌, ◌-◌, ◌<◌, ◌≤◌, ℕ, map, sym, ap, ◌∙◌, length, List, Option, Some, None, slice_index_or, arith}
use Rattle.std.proofs.lemmas.List.{length-map}
use Rattle.std.proofs.lemmas.Option.{none-some, same_Some}
use Rattle.fleet_base.specs.declared.numbers.Event.{Event}
use Rattle.fleet_base.specs.declared.numbers.EventNo.{EventNo}
use Rattle.slot_chains.specs.Slots.{Slots}
use Rattle.event_graph.specs.Graphs.{HasNumber}
use Rattle.event_graph.specs.Stores.{AreNumbered, HasEvent, claim_key, events_of}
use Rattle.event_graph.proofs.Slotted.{slot_of}
use Rattle.event_graph.proofs.store.find.Goals as goal

-- the slot of a number
module _ (slots : List (Option Event)) (claims : Slots) (next : ℕ) (number : EventNo) (keyed : claims.keys ≡ map claim_key slots) (numbered : AreNumbered slots next) (has : HasNumber (events_of slots) number) where
  at : (i : ℕ) × HasEvent slots i has.0 × (has.0.no.0 + length slots ≡ next + i) × (i < length slots)
  at = slot_of slots next numbered has.0 has.1

  number_is : has.0.no.0 ≡ number.0
  number_is = ap (λ (x : EventNo). x.0) has.2

  long : length claims.keys ≡ length slots
  long = ap length keyed ∙ length-map slots claim_key

  below_next : number.0 ≤ next
  below_next = omega (arith, at.2, at.3, number_is)

  -- its place, by the length that the chains tell
  module _ (count : ℕ) (counted : count ≡ length claims.keys) where
    enough : next - number.0 ≤ count
    enough = omega (arith, at.2, at.3, number_is, long, counted)

    place : count - (next - number.0) ≡ at.0
    place = omega (arith, at.2, at.3, number_is, long, counted)

    there : slice_index_or slots (count - (next - number.0)) None ≡ Some has.0
    there = ap (λ k. slice_index_or slots k None) place ∙ at.1

    inside : count - (next - number.0) < length slots
    inside = omega (arith, place, at.3)

pub overflow_sub-back : goal.overflow_sub-back
overflow_sub-back c = below_next c.args.slots.now c.args.claims.now c.args.next c.args.number c.requires.keyed c.requires.numbered c.requires.has

pub overflow_sub-slot : goal.overflow_sub-slot
overflow_sub-slot c = enough c.args.slots.now c.args.claims.now c.args.next c.args.number c.requires.keyed c.requires.numbered c.requires.has c.from.result (c.from.ensures ∙ c.len.ensures.count)

pub bounds : goal.bounds
bounds c = inside c.args.slots.now c.args.claims.now c.args.next c.args.number c.requires.keyed c.requires.numbered c.requires.has c.from.result (c.from.ensures ∙ c.len.ensures.count)

pub unreachable-requires : goal.unreachable-requires
unreachable-requires c =
    none-some c.requires.has.0 (sym c.in_default.is ∙ there c.args.slots.now c.args.claims.now c.args.next c.args.number c.requires.keyed c.requires.numbered c.requires.has c.from.result (c.from.ensures ∙ c.len.ensures.count))

pub returns-clause-number : goal.returns-clause-number
returns-clause-number c =
    let found = there c.args.slots.now c.args.claims.now c.args.next c.args.number c.requires.keyed c.requires.numbered c.requires.has c.from.result (c.from.ensures ∙ c.len.ensures.count) in
    ap (λ (e : Event). e.no) (same_Some c.in-Some.event c.requires.has.0 (sym c.in-Some.is ∙ found)) ∙ c.requires.has.2
