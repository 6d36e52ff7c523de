use Rattle.std.proofs.Common.{◌+◌, refl, sym, ap, ◌∙◌, subst, map, length, arith, Some, None}
use Rattle.std.proofs.lemmas.Bool.{both_ways}
use Rattle.std.proofs.lemmas.List.{length-map}
use Rattle.event_graph.specs.Stores.{claim_key, IsInFrontIn}
use Rattle.event_graph.proofs.Awaits.{front_key, front_above, front_at}
use Rattle.event_graph.proofs.Slotted.{slot_In, slot_within}
use Rattle.event_graph.proofs.Walks.{event_at, back_more, back_end, back_beyond}
use Rattle.slot_chains.specs.Slots.{IsIn, IsLast}
use Rattle.event_graph.proofs.store.is_before_acquire.Goals as goal
use Rattle.event_graph.proofs.store.is_before_acquire.Goals.{In-Some-slots}

last_is : (c : In-Some-slots) → IsLast (map claim_key c.args.slots.now) c.args.claim c.loop-at.invariant.high (Some c.in-Some.slot)
last_is c = subst (λ keys. IsLast keys c.args.claim c.loop-at.invariant.high (Some c.in-Some.slot)) c.requires.keyed (subst (λ s. IsLast c.args.claims.now.keys c.args.claim c.loop-at.invariant.high s) c.in-Some.is c.loop-at.invariant.last)

pub loop-at-init : goal.loop-at-init
loop-at-init c = record {
  high = length c.args.claims.now.keys;
  last = c.last-at.ensures;
  passed = λ i e l h p. let w = slot_within c.args.slots.now i e h in absurd (omega (arith, ap length c.requires.keyed, length-map c.args.slots.now claim_key));
}

pub returns-then-later-event-clause-none : goal.returns-then-later-event-clause-none
returns-then-later-event-clause-none c = λ _.
    back_beyond claim_key refl c.args.slots.now (IsInFrontIn c.args.groups.now c.args.claim (c.args.claim + 1) c.args.event) c.args.claim (front_key c.args.groups.now c.args.claim c.args.event)
    0 c.args.event.no.0 c.requires.rises (front_above c.args.groups.now c.args.claim c.args.event) c.loop-at.invariant.high c.in-Some.slot c.in-Some-slots.later c.in-Some-slots.is c.if-later-event.true
    (last_is (goal.at.returns-then-later-event-clause-none c).In-Some-slots) c.loop-at.invariant.passed

pub returns-then-is_awaited-clause-some : goal.returns-then-is_awaited-clause-some
returns-then-is_awaited-clause-some c = λ _.
    let last = last_is (goal.at.returns-then-is_awaited-clause-some c).In-Some-slots in (
      c.in-Some-slots.later,
      slot_In c.args.slots.now c.in-Some.slot c.in-Some-slots.later c.in-Some-slots.is,
      front_at c.args.groups.now c.args.claim c.args.event c.in-Some-slots.later (sym c.is_awaited.ensures ∙ c.if-is_awaited.true) (event_at claim_key refl c.args.slots.now c.args.claim c.in-Some.slot c.in-Some-slots.later last.1 c.in-Some-slots.is),
    )

pub loop-at-preserved : goal.loop-at-preserved
loop-at-preserved c =
    let last = last_is (goal.at.loop-at-preserved c).In-Some-slots in
    record {
      high = c.in-Some.slot;
      last = c.before-at.ensures c.args.claim (subst (λ keys. IsIn keys c.args.claim c.in-Some.slot) (sym c.requires.keyed) last.1);
      passed = back_more claim_key refl c.args.slots.now (IsInFrontIn c.args.groups.now c.args.claim (c.args.claim + 1) c.args.event) c.args.claim (front_key c.args.groups.now c.args.claim c.args.event)
          c.loop-at.invariant.high c.in-Some.slot c.in-Some-slots.later c.loop-at.invariant.passed last c.in-Some-slots.is (λ h. both_ways c.is_awaited.result c.if-is_awaited.false (c.is_awaited.ensures ∙ h.awaited));
    }

pub returns-clause-none : goal.returns-clause-none
returns-clause-none c = λ _.
    back_end claim_key refl c.args.slots.now (IsInFrontIn c.args.groups.now c.args.claim (c.args.claim + 1) c.args.event) c.args.claim (front_key c.args.groups.now c.args.claim c.args.event)
    c.loop-at.invariant.high c.loop-at.invariant.passed
    (subst (λ keys. IsLast keys c.args.claim c.loop-at.invariant.high None) c.requires.keyed (subst (λ s. IsLast c.args.claims.now.keys c.args.claim c.loop-at.invariant.high s) c.in_default-at.is c.loop-at.invariant.last))
