use Rattle.std.proofs.Common.{◌+◌, refl, sym, ◌∙◌, subst, map, Some, None}
use Rattle.std.proofs.lemmas.Bool.{both_ways}
use Rattle.event_graph.specs.Stores.{claim_key, IsBehindIn}
use Rattle.event_graph.proofs.Awaits.{behind_key, behind_below, behind_at}
use Rattle.event_graph.proofs.Slotted.{slot_In}
use Rattle.event_graph.proofs.Walks.{event_at, passed_more, passed_end, passed_beyond}
use Rattle.slot_chains.specs.Slots.{IsIn, IsFirst}
use Rattle.event_graph.proofs.store.is_behind_release.Goals as goal
use Rattle.event_graph.proofs.store.is_behind_release.Goals.{In-Some-slots}

first_is : (c : In-Some-slots) → IsFirst (map claim_key c.args.slots.now) c.args.claim c.loop-at.invariant.low (Some c.in-Some.slot)
first_is c = subst (λ keys. IsFirst keys c.args.claim c.loop-at.invariant.low (Some c.in-Some.slot)) c.requires.keyed (subst (λ s. IsFirst c.args.claims.now.keys c.args.claim c.loop-at.invariant.low s) c.in-Some.is c.loop-at.invariant.first)

pub returns-then-event-earlier-clause-none : goal.returns-then-event-earlier-clause-none
returns-then-event-earlier-clause-none c = λ _.
    passed_beyond claim_key refl c.args.slots.now (IsBehindIn c.args.groups.now c.args.claim (c.args.claim + 1) c.args.event) c.args.claim (behind_key c.args.groups.now c.args.claim c.args.event)
    0 c.requires.rises c.args.event.no.0 (behind_below c.args.groups.now c.args.claim c.args.event) c.loop-at.invariant.low c.in-Some.slot c.in-Some-slots.earlier c.in-Some-slots.is c.if-event-earlier.true
    (first_is (goal.at.returns-then-event-earlier-clause-none c).In-Some-slots) c.loop-at.invariant.passed

pub returns-then-is_awaited-clause-some : goal.returns-then-is_awaited-clause-some
returns-then-is_awaited-clause-some c = λ _.
    let first = first_is (goal.at.returns-then-is_awaited-clause-some c).In-Some-slots in (
      c.in-Some-slots.earlier,
      slot_In c.args.slots.now c.in-Some.slot c.in-Some-slots.earlier c.in-Some-slots.is,
      behind_at c.args.groups.now c.args.claim c.args.event c.in-Some-slots.earlier (sym c.is_awaited.ensures ∙ c.if-is_awaited.true) (event_at claim_key refl c.args.slots.now c.args.claim c.in-Some.slot c.in-Some-slots.earlier first.1 c.in-Some-slots.is),
    )

pub loop-at-preserved : goal.loop-at-preserved
loop-at-preserved c =
    let first = first_is (goal.at.loop-at-preserved c).In-Some-slots in
    record {
      low = c.in-Some.slot + 1;
      first = c.behind-at.ensures c.args.claim (subst (λ keys. IsIn keys c.args.claim c.in-Some.slot) (sym c.requires.keyed) first.1);
      passed = passed_more claim_key refl c.args.slots.now (IsBehindIn c.args.groups.now c.args.claim (c.args.claim + 1) c.args.event) c.args.claim (behind_key c.args.groups.now c.args.claim c.args.event)
          c.loop-at.invariant.low c.in-Some.slot c.in-Some-slots.earlier c.loop-at.invariant.passed first c.in-Some-slots.is (λ h. both_ways c.is_awaited.result c.if-is_awaited.false (c.is_awaited.ensures ∙ h.awaited));
    }

pub returns-clause-none : goal.returns-clause-none
returns-clause-none c = λ _.
    passed_end claim_key refl c.args.slots.now (IsBehindIn c.args.groups.now c.args.claim (c.args.claim + 1) c.args.event) c.args.claim (behind_key c.args.groups.now c.args.claim c.args.event)
    c.loop-at.invariant.low c.loop-at.invariant.passed
    (subst (λ keys. IsFirst keys c.args.claim c.loop-at.invariant.low None) c.requires.keyed (subst (λ s. IsFirst c.args.claims.now.keys c.args.claim c.loop-at.invariant.low s) c.in_default-at.is c.loop-at.invariant.first))
