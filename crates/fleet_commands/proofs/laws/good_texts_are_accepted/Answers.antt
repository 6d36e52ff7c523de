use Rattle.fleet_commands.proofs.Texts.{accepted_is_said, said_is_accepted}
use Rattle.fleet_commands.proofs.laws.good_texts_are_accepted.Goals as goal

pub returns : goal.returns
returns c = λ names n bytes commands. (accepted_is_said names n bytes commands, said_is_accepted names n bytes commands)
