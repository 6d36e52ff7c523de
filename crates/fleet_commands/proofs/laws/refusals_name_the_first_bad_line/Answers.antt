use Rattle.fleet_commands.proofs.Texts.{refused_is_bad, bad_is_refused}
use Rattle.fleet_commands.proofs.laws.refusals_name_the_first_bad_line.Goals as goal

pub returns : goal.returns
returns c = λ names n bytes at. (refused_is_bad names n bytes at, bad_is_refused names n bytes at)
