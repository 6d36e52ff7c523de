use Rattle.std.proofs.Common.{◌≡◌, true, false, ◌&&◌, sym, ap, ◌∙◌}
use Rattle.std.specs.Prelude.{slice_get}
use Rattle.plan_events.specs.Kinds.{kind_before, may_begin_step, may_end_step}
use Rattle.plan_events.proofs.RestPoints.{rest_point-test}
use Rattle.plan_events.proofs.rests.rest_before.Goals as goal

pub returns-then-may_end_step : goal.returns-then-may_end_step
returns-then-may_end_step c = λ site from cells e.
    let kinds = c.args.kinds.now in
    let place = c.args.place in
    let ends : may_end_step (kind_before kinds place) ≡ true = sym (c.may_end_step.ensures ∙ ap may_end_step c.kind_before.ensures) ∙ c.if-may_end_step.true in
    c.may_begin_step.ensures
    ∙ ap may_begin_step c.kind_at.ensures
    ∙ ap (λ b. b && may_begin_step (slice_get kinds place)) (sym ends)
    ∙ rest_point-test site from cells kinds place c.requires e

pub returns-else-may_end_step : goal.returns-else-may_end_step
returns-else-may_end_step c = λ site from cells e.
    let kinds = c.args.kinds.now in
    let place = c.args.place in
    let ends : may_end_step (kind_before kinds place) ≡ false = sym (c.may_end_step.ensures ∙ ap may_end_step c.kind_before.ensures) ∙ c.if-may_end_step.false in
    c.if-may_end_step.false
    ∙ ap (λ b. b && may_begin_step (slice_get kinds place)) (sym ends)
    ∙ rest_point-test site from cells kinds place c.requires e
