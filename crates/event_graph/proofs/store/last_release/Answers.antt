use Rattle.std.proofs.Common.{◌+◌, refl, sym, ◌∙◌, subst, map, Some, None}
use Rattle.std.proofs.lemmas.Bool.{both_ways}
use Rattle.event_graph.specs.Stores.{claim_key, IsBehindIn}
use Rattle.event_graph.proofs.Awaits.{behind_key, behind_below, behind_at}
use Rattle.event_graph.proofs.Walks.{event_at, best_more, best_new, best_end, best_beyond}
use Rattle.slot_chains.specs.Slots.{IsIn, IsFirst}
use Rattle.event_graph.proofs.store.last_release.Goals as goal
use Rattle.event_graph.proofs.store.last_release.Goals.{In-Some-slots, then-is_awaited, else-is_awaited}

first_is : (c : In-Some-slots) → IsFirst (map claim_key c.args.slots.now) c.args.claim c.loop-at.invariant.low (Some c.in-Some.slot)
first_is c = subst (λ keys. IsFirst keys c.args.claim c.loop-at.invariant.low (Some c.in-Some.slot)) c.requires.keyed (subst (λ s. IsFirst c.args.claims.now.keys c.args.claim c.loop-at.invariant.low s) c.in-Some.is c.loop-at.invariant.first)

pub returns-then-event-earlier : goal.returns-then-event-earlier
returns-then-event-earlier c =
    best_beyond claim_key refl c.args.slots.now (IsBehindIn c.args.groups.now c.args.claim (c.args.claim + 1) c.args.event) c.args.claim (behind_key c.args.groups.now c.args.claim c.args.event)
    0 c.requires.rises c.args.event.no.0 (behind_below c.args.groups.now c.args.claim c.args.event) c.loop-at.invariant.low c.in-Some.slot c.in-Some-slots.earlier c.in-Some-slots.is c.if-event-earlier.true
    (first_is (goal.at.returns-then-event-earlier c).In-Some-slots) c.loop-at.last c.loop-at.invariant.best

pub loop-at-preserved : goal.loop-at-preserved
loop-at-preserved c =
    let first = first_is (goal.at.loop-at-preserved c).In-Some-slots in
    record {
      low = c.in-Some.slot + 1;
      first = c.behind-at.ensures c.args.claim (subst (λ keys. IsIn keys c.args.claim c.in-Some.slot) (sym c.requires.keyed) first.1);
      best = elim c.if-is_awaited.branch [
        | then-is_awaited w ↦ rw w.last-is (best_new claim_key refl c.args.slots.now (IsBehindIn c.args.groups.now c.args.claim (c.args.claim + 1) c.args.event) c.args.claim (behind_key c.args.groups.now c.args.claim c.args.event)
            0 c.requires.rises c.loop-at.invariant.low c.in-Some.slot c.in-Some-slots.earlier c.in-Some-slots.is
            (behind_at c.args.groups.now c.args.claim c.args.event c.in-Some-slots.earlier (sym c.is_awaited.ensures ∙ w.if-is_awaited.true) (event_at claim_key refl c.args.slots.now c.args.claim c.in-Some.slot c.in-Some-slots.earlier first.1 c.in-Some-slots.is)))
        | else-is_awaited w ↦ rw w.last-is (best_more claim_key refl c.args.slots.now (IsBehindIn c.args.groups.now c.args.claim (c.args.claim + 1) c.args.event) c.args.claim (behind_key c.args.groups.now c.args.claim c.args.event)
            c.loop-at.invariant.low c.in-Some.slot c.in-Some-slots.earlier c.loop-at.last c.loop-at.invariant.best first c.in-Some-slots.is (λ h. both_ways c.is_awaited.result w.if-is_awaited.false (c.is_awaited.ensures ∙ h.awaited)))
      ];
    }

pub returns : goal.returns
returns c =
    best_end claim_key refl c.args.slots.now (IsBehindIn c.args.groups.now c.args.claim (c.args.claim + 1) c.args.event) c.args.claim (behind_key c.args.groups.now c.args.claim c.args.event)
    c.loop-at.invariant.low c.loop-at.last c.loop-at.invariant.best
    (subst (λ keys. IsFirst keys c.args.claim c.loop-at.invariant.low None) c.requires.keyed (subst (λ s. IsFirst c.args.claims.now.keys c.args.claim c.loop-at.invariant.low s) c.in_default-at.is c.loop-at.invariant.first))
