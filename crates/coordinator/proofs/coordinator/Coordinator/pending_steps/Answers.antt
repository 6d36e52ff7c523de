use Rattle.std.proofs.Common.{◌≡◌, ◌<◌, false, length, get_or, ◌-◌, Some, None, ap, sym, subst, ◌∙◌, arith}
use Rattle.fleet_base.specs.declared.answers.RetryRefused.{RetryRefused}
use Rattle.fleet_base.specs.declared.entries.Act.TheVariants as act
use Rattle.fleet_base.specs.declared.numbers.Span.{Span}
use Rattle.fleet_model.specs.Sites.{steps}
use Rattle.fleet_model.specs.States.{block_of, is_full, pending_of}
use Rattle.fleet_model.specs.Calls.{Retry, Step, first_of}
use Rattle.coordinator.specs.Books.{Book, state_of}
use Rattle.coordinator.specs.Merging.{WouldMerge}
use Rattle.coordinator.proofs.KeptNext.{robot_is, state}
use Rattle.coordinator.proofs.PendingRoutes.{legal, shape_is, waits}
use Rattle.coordinator.proofs.Retries.{retried, unknown, would_merge}
use Rattle.coordinator.proofs.coordinator.Coordinator.pending_steps.Goals as goal

pub returns-then-robot-robots-clause-refused : goal.returns-then-robot-robots-clause-refused
returns-then-robot-robots-clause-refused c =
    unknown (state_of c.args.self.now) c.args.robot.0 (omega (arith, c.if-robot-robots.true, c.robots.ensures.state))

pub event_count-requires : goal.event_count-requires
event_count-requires c =
    let i = c.self.inside in
    let k = c.self.invariant in
    let r = c.args.robot.0 in
    let cells = c.in-Some.cells.now in
    shape_is i k r cells (legal i k r cells (waits i k r cells c.in-Some.ensures))

pub returns-in-Ok-clause-merges : goal.returns-in-Ok-clause-merges
returns-in-Ok-clause-merges c =
    let i = c.self.inside in
    let k = c.self.invariant in
    let s = state i k in
    let r = c.args.robot.0 in
    let cells = c.in-Some.cells.now in
    let known : r < length i.from.at.items = omega (arith, c.if-robot-robots.false, c.robots.ensures.starts, ap (λ (b : Book). length b.starts) c.self.view_is) in
    let pending = waits i k r cells c.in-Some.ensures in
    let free : block_of s r cells ≡ None =
    sym (subst (λ (b : Book). pending_of (state_of b) r ≡ Some cells → c.pending_block.result ≡ block_of (state_of b) r cells) (sym c.self.view_is) (c.pending_block.ensures cells) pending) ∙ c.in_default-pending_block.is in
    let count : c.event_count.result ≡ length (steps s.fleet.site cells) = c.event_count.ensures.count ∙ ap (λ z. length (steps z cells)) (sym k.state.site) in
    let room : is_full s (length (steps s.fleet.site cells)) ≡ false =
    ap (λ n. is_full s n) (sym count) ∙ subst (λ (b : Book). is_full (state_of b) c.event_count.result ≡ false) (sym c.self.view_is) (sym c.is_full.ensures ∙ c.if-is_full.false) in
    let done = retried s r cells (robot_is i k r known) pending free room in
    let are = c.in-Ok.ensures.steps ∙ ap (λ z. steps z cells) (sym k.state.site) in
    subst (λ (b : Book). WouldMerge (state_of b) r c.in-Ok.kinds.items (get_or cells (length cells - 1) (record { 0 = 0 })) (act.Retried (first_of (state_of b)))) c.self.view_is
    (would_merge s r cells c.in-Ok.kinds.items (act.Retried (first_of s)) Retry (length (steps s.fleet.site cells)) (record { 0 = 0 }) (robot_is i k r known) (legal i k r cells pending) are
    (ap (λ (t : Step Span RetryRefused). t.entry) done) (ap length are) room (ap (λ (t : Step Span RetryRefused). t.after) done))
