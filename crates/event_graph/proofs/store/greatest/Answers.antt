use Rattle.std.proofs.Common.{sym, ◌∙◌, arith}
use Rattle.event_graph.specs.Stores.{events_of, IsBehindIn}
use Rattle.event_graph.proofs.Awaits.{reach_end, behind_reach, behind_unreached, behind_wide, behind_empty, only_acquires, greatest_more, greatest_is, greatest_none}
use Rattle.event_graph.proofs.store.greatest.Goals as goal

pub returns-in_default : goal.returns-in_default
returns-in_default c = greatest_none c.args.groups.now c.args.event (events_of c.args.slots.now) (λ f. only_acquires c.args.groups.now c.args.event f c.in_default.not-Acquire)

pub returns-in_default-reach_at : goal.returns-in_default-reach_at
returns-in_default-reach_at c = greatest_none c.args.groups.now c.args.event (events_of c.args.slots.now) (λ f. behind_unreached c.args.groups.now c.args.reaches.now c.requires.reached c.args.event f c.in-Acquire.taken c.in-Acquire.is (sym c.reach_at.ensures ∙ c.in_default-reach_at.is))

pub loop-claim-init : goal.loop-claim-init
loop-claim-init c = λ f m h. behind_empty c.args.groups.now c.in-Some.reach.first c.args.event f h

pub last_release-requires-clause-claim : goal.last_release-requires-clause-claim
last_release-requires-clause-claim c =
    let end = reach_end c.args.groups.now c.args.reaches.now c.requires.reached c.in-Acquire.taken c.in-Some.reach (sym c.reach_at.ensures ∙ c.in-Some.is) in
    let claims = c.requires.claims in
    let below = c.loop-claim-test.true in
    omega arith

pub loop-claim-preserved : goal.loop-claim-preserved
loop-claim-preserved c = greatest_more c.args.groups.now c.args.event (events_of c.args.slots.now) c.in-Some.reach.first c.loop-claim.claim c.loop-claim.auto.claim c.loop-claim.last c.last_release.result c.later-last.result c.loop-claim.invariant c.last_release.ensures c.later-last.ensures

pub returns : goal.returns
returns c =
    greatest_is c.args.groups.now c.args.event (events_of c.args.slots.now) (IsBehindIn c.args.groups.now c.in-Some.reach.first c.loop-claim.claim c.args.event) c.loop-claim.last
    (λ f h. h.awaited)
    (λ f h. behind_wide c.args.groups.now c.in-Some.reach.first c.in-Some.reach.end c.loop-claim.claim c.args.event f c.loop-claim-test.false (behind_reach c.args.groups.now c.args.reaches.now c.requires.reached c.args.event f c.in-Acquire.taken c.in-Some.reach c.in-Acquire.is (sym c.reach_at.ensures ∙ c.in-Some.is) h))
    c.loop-claim.invariant
