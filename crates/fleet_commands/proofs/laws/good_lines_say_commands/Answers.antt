use Rattle.fleet_commands.proofs.GoodLines.{line_says}
use Rattle.fleet_commands.proofs.laws.good_lines_say_commands.Goals as goal

pub returns : goal.returns
returns c = λ names line good. line_says names line good
