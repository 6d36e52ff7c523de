use Rattle.fleet_route.proofs.Faults.{refused_answer}
use Rattle.fleet_route.proofs.form.route_form.Goals as goal

pub returns-in-Err : goal.returns-in-Err
returns-in-Err c =
    refused_answer c.args.from.now c.args.to.now c.args.input.now c.in-Err.untold c.stop_of.ensures
    (rw (c.as_bytes.ensures.value, c.as_bytes-2.ensures.value) at c.in-Err.ensures)
