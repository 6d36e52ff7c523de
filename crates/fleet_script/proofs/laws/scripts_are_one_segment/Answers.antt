use Rattle.fleet_script.proofs.ScriptSegments.{script_whole}
use Rattle.fleet_script.proofs.laws.scripts_are_one_segment.Goals as goal

pub returns : goal.returns
returns c = λ input script short is. script_whole input script short is
