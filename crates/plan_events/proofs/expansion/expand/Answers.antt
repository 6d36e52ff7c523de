use Rattle.std.proofs.Common.{◌≡◌, ◌+◌, ◌-◌, ◌++◌, sym, ap, ◌∙◌, append_assoc, append-nil, None, arith}
use Rattle.site_map.specs.Claims.{site_of}
use Rattle.plan_events.specs.Shapes.{shape_cause}
use Rattle.plan_events.proofs.Causes.{accepted_known, known_at, no_cell}
use Rattle.plan_events.proofs.Walked.{step_at, steps_on, steps_on_end, steps_on_more}
use Rattle.plan_events.proofs.expansion.expand.Goals as goal

pub push_step-requires-clause-from_known : goal.push_step-requires-clause-from_known
push_step-requires-clause-from_known c =
    let site = site_of c.args.site.now in
    let cells = c.args.cells.now in
    let accepted : shape_cause site cells ≡ None = c.in_ok-count.ensures.accepted in
    known_at c.args.site.now cells (accepted_known site cells accepted) (c.loop-at.at - 1) no_cell (omega arith)

pub push_step-requires-clause-to_known : goal.push_step-requires-clause-to_known
push_step-requires-clause-to_known c =
    let site = site_of c.args.site.now in
    let cells = c.args.cells.now in
    let accepted : shape_cause site cells ≡ None = c.in_ok-count.ensures.accepted in
    known_at c.args.site.now cells (accepted_known site cells accepted) c.loop-at.at no_cell (omega arith)

pub loop-at-preserved : goal.loop-at-preserved
loop-at-preserved c =
    let site = site_of c.args.site.now in
    let cells = c.args.cells.now in
    let at = c.loop-at.at in
    ap (λ ks. ks ++ steps_on site cells (at + 1)) c.in_ok-push_step.ensures
    ∙ append_assoc c.loop-at.kinds.items (step_at site cells at) (steps_on site cells (at + 1))
    ∙ ap (λ ks. c.loop-at.kinds.items ++ ks) (sym (steps_on_more site cells at (omega arith) (omega arith)))
    ∙ c.loop-at.invariant

pub returns-clause-steps : goal.returns-clause-steps
returns-clause-steps c =
    sym (append-nil c.loop-at.kinds.items)
    ∙ ap (λ ks. c.loop-at.kinds.items ++ ks) (sym (steps_on_end (site_of c.args.site.now) c.args.cells.now c.loop-at.at (omega arith) (omega arith)))
    ∙ c.loop-at.invariant
