use Rattle.std.proofs.Common.{sym, ◌∙◌, arith}
use Rattle.event_graph.proofs.Awaits.{reach_end, behind_reach, behind_unreached, behind_wide}
use Rattle.event_graph.proofs.store.is_free.Goals as goal

pub returns-in_default-reach_at-clause-none : goal.returns-in_default-reach_at-clause-none
returns-in_default-reach_at-clause-none c = λ _ f m. behind_unreached c.args.groups.now c.args.reaches.now c.requires.reached c.args.event f c.in-Acquire.taken c.in-Acquire.is (sym c.reach_at.ensures ∙ c.in_default-reach_at.is)

pub is_behind_release-requires-clause-claim : goal.is_behind_release-requires-clause-claim
is_behind_release-requires-clause-claim c =
    let end = reach_end c.args.groups.now c.args.reaches.now c.requires.reached c.in-Acquire.taken c.in-Some.reach (sym c.reach_at.ensures ∙ c.in-Some.is) in
    let claims = c.requires.claims in
    let below = c.loop-claim-test.true in
    omega arith

pub returns-clause-none : goal.returns-clause-none
returns-clause-none c = λ _ f m h. c.loop-claim.invariant f m
    (behind_wide c.args.groups.now c.in-Some.reach.first c.in-Some.reach.end c.loop-claim.claim c.args.event f c.loop-claim-test.false (behind_reach c.args.groups.now c.args.reaches.now c.requires.reached c.args.event f c.in-Acquire.taken c.in-Some.reach c.in-Acquire.is (sym c.reach_at.ensures ∙ c.in-Some.is) h))
