use Rattle.fleet_check.proofs.Checks.{refused_answer}
use Rattle.fleet_check.proofs.check.check.Goals as goal

pub returns-in-Err : goal.returns-in-Err
returns-in-Err c = refused_answer c.args.input.now c.in-Err.refused c.stop_of.ensures c.in-Err.ensures
