use Rattle.mission_model.proofs.Quiet.{quiet_unfinished}
use Rattle.mission_model.proofs.laws.quiet_leaves_nothing.Goals as goal

pub returns : goal.returns
returns c = quiet_unfinished
