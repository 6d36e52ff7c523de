use Rattle.task_assign.proofs.Checks.{shown_least}
use Rattle.task_assign.proofs.laws.shown_is_least.Goals as goal

pub returns : goal.returns
returns c = λ square pairs shown. shown_least square pairs shown
