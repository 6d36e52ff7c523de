use Rattle.std.proofs.Common.{Ok, subst, sym}
use Rattle.form_base.specs.Forms.{Report}
use Rattle.form_base.specs.Stops.{IsAnswer}
use Rattle.fleet_script.specs.Form.{script_form}
use Rattle.fleet_script.proofs.Faults.{refused_answer, text_answer}
use Rattle.fleet_script.proofs.form.script_form.Goals as goal

pub returns-in-Ok : goal.returns-in-Ok
returns-in-Ok c = subst (λ (r : Report). IsAnswer script_form c.args.input.now (Ok r)) (sym c.done.ensures) (text_answer c.in-Ok.ensures.is c.in-Ok.ensures.sound)

pub returns-in-Err : goal.returns-in-Err
returns-in-Err c = refused_answer c.args.input.now c.in-Err.refused c.stop_of.ensures c.in-Err.ensures.is
