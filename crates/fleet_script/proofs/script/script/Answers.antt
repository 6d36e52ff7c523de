use Rattle.std.proofs.Common.{ℕ, subst}
use Rattle.std.specs.Prelude.{Vec}
use Rattle.std.specs.Global.{Global}
use Rattle.fleet_script.specs.Script.{script_text}
use Rattle.fleet_script.specs.Stops.{Gives}
use Rattle.fleet_script.proofs.Faults.{bad_script}
use Rattle.fleet_script.proofs.script.script.Goals as goal

pub returns-clause-causes : goal.returns-clause-causes
returns-clause-causes c = λ at is. bad_script c.args.input.now at (subst (λ r. Gives (λ (text : Vec ℕ Global). text.items) r (script_text c.args.input.now)) is c.carried_out.ensures.is)
