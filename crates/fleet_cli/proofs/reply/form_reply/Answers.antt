-- For any form, so these stay as they are when a form is added.
use Rattle.std.proofs.Common.{Err, false, ap, subst, sym}
use Rattle.form_base.specs.Forms.{due_view}
use Rattle.form_base.specs.Runs.{IsTaken}
use Rattle.form_base.proofs.Ready.{answer_ready, big_ready}
use Rattle.fleet_cli.specs.Forms.{form_view, spec_of}
use Rattle.fleet_cli.proofs.reply.form_reply.Goals as goal

pub returns-in_ok-reply_to-in-Ok-clause-due : goal.returns-in_ok-reply_to-in-Ok-clause-due
returns-in_ok-reply_to-in-Ok-clause-due g c =
    let taken = subst (λ bytes. IsTaken false c.limit.result (g.S.Source.left c.args.source.now) (g.S.Source.left c.read_input.new.source) bytes) (sym c.deref.ensures.value) c.in-Ok.ensures.seen in
    answer_ready (spec_of (form_view c.args.form)) (due_view c.in_ok-reply_to-in-Ok.field-0) c.deref.result.now c.output.result c.limit.ensures.is taken c.output.ensures c.in_ok-reply_to-in-Ok.ensures

pub returns-in_ok-too_big-in-Err-TooBig-clause-due : goal.returns-in_ok-too_big-in-Err-TooBig-clause-due
returns-in_ok-too_big-in-Err-TooBig-clause-due g c =
    big_ready (spec_of (form_view c.args.form)) (due_view c.in_ok-too_big-in-Err-TooBig.field-0) c.limit.ensures.is (c.in-Err-TooBig.ensures.big (ap Err c.in-Err-TooBig.field-0-is)) c.in_ok-too_big-in-Err-TooBig.ensures
