use Rattle.std.proofs.Common.{Ok, sym, subst}
use Rattle.form_base.specs.Forms.{Report}
use Rattle.form_base.specs.Stops.{IsAnswer}
use Rattle.fleet_assign.specs.Form.{assign_form}
use Rattle.fleet_assign.proofs.Assigned.{refused_answer, text_answer}
use Rattle.fleet_assign.proofs.form.assign_form.Goals as goal

pub returns-in-Err : goal.returns-in-Err
returns-in-Err c = refused_answer c.args.input.now c.in-Err.refused c.stop_of.ensures c.in-Err.ensures

pub returns-in_ok-assign_text-in-Ok : goal.returns-in_ok-assign_text-in-Ok
returns-in_ok-assign_text-in-Ok c =
    subst (λ (r : Report). IsAnswer assign_form c.args.input.now (Ok r)) (sym c.done.ensures) (text_answer c.in-Ok.ensures c.in_ok-assign_text-in-Ok.ensures)
