use Rattle.std.proofs.Common.{◌≡◌, ◌-◌, ◌++◌, ◌∙◌, ℕ, List, Option, take, drop, length, ap, subst, arith}
use Rattle.std.proofs.lemmas.List.{length-drop, take-append-le, take_all}
use Rattle.fleet_base.specs.declared.numbers.Event.{Event}
use Rattle.fleet_model.specs.Lists.{In}
use Rattle.event_graph.specs.Stores.{events_of}
use Rattle.event_graph.proofs.Slotted.{claim_within, events_dropped}
use Rattle.event_graph.proofs.store.leave_out.Goals as goal

-- the slots behind the first ones, which were moved to the end and cut off
left : (slots : List (Option Event)) (count n : ℕ) → n ≡ length slots - count → take n (drop count slots ++ take count slots) ≡ drop count slots
left slots count n is =
    take-append-le n (drop count slots) (take count slots) (omega (arith, is, length-drop count slots))
    ∙ take_all n (drop count slots) (omega (arith, is, length-drop count slots))

pub push-requires-clause-chain : goal.push-requires-clause-chain
push-requires-clause-chain c =
    let slots = c.args.slots.now.items in
    let count = c.args.count in
    let cut : c.truncate.new.self.items ≡ drop count slots =
    c.truncate.ensures.items
    ∙ ap (take (c.len.result - count)) c.rotate_left.ensures.items
    ∙ left slots count (c.len.result - count) (omega (arith, c.len.ensures, c.rotate_left.ensures.len)) in
    let same : events_of c.truncate.new.self.items ≡ events_of slots = ap events_of cut ∙ events_dropped slots count c.requires.empty in
    rw (c.claim_key.ensures, c.deref-slot-items.ensures.value, c.loop-slot.invariant.chains, c.clear.ensures.chains)
    (claim_within c.args.claims.now.chains c.truncate.new.self.items c.loop-slot.slot-index (λ e m. c.requires.known e (subst (λ (es : List Event). In e es) same m)))
