use Rattle.std.proofs.Common.{sym, ◌∙◌, arith}
use Rattle.event_graph.specs.Stores.{events_of}
use Rattle.event_graph.proofs.Awaits.{reach_end, front_reach, front_unreached, front_wide, only_releases, waiting_from, waiting_none}
use Rattle.event_graph.proofs.store.is_waited_for.Goals as goal

pub returns-in_default : goal.returns-in_default
returns-in_default c = waiting_none c.args.groups.now c.args.event (events_of c.args.slots.now) (λ e m. only_releases c.args.groups.now e c.args.event c.in_default.not-Release)

pub returns-in_default-reach_at : goal.returns-in_default-reach_at
returns-in_default-reach_at c = waiting_none c.args.groups.now c.args.event (events_of c.args.slots.now) (λ e m. front_unreached c.args.groups.now c.args.reaches.now c.requires.reached e c.args.event c.in-Release.given c.in-Release.is (sym c.reach_at.ensures ∙ c.in_default-reach_at.is))

pub is_before_acquire-requires-clause-claim : goal.is_before_acquire-requires-clause-claim
is_before_acquire-requires-clause-claim c =
    let end = reach_end c.args.groups.now c.args.reaches.now c.requires.reached c.in-Release.given c.in-Some.reach (sym c.reach_at.ensures ∙ c.in-Some.is) in
    let claims = c.requires.claims in
    let below = c.loop-claim-test.true in
    omega arith

pub returns-then-is_before_acquire : goal.returns-then-is_before_acquire
returns-then-is_before_acquire c =
    let one = c.is_before_acquire.ensures.some c.if-is_before_acquire.true in
    waiting_from c.args.groups.now c.args.event (events_of c.args.slots.now) (one.0, one.1, one.2.awaited)

pub returns : goal.returns
returns c = waiting_none c.args.groups.now c.args.event (events_of c.args.slots.now)
    (λ e m h. c.loop-claim.invariant e m
    (front_wide c.args.groups.now c.in-Some.reach.first c.in-Some.reach.end c.loop-claim.claim c.args.event e c.loop-claim-test.false (front_reach c.args.groups.now c.args.reaches.now c.requires.reached e c.args.event c.in-Release.given c.in-Some.reach c.in-Release.is (sym c.reach_at.ensures ∙ c.in-Some.is) h)))
