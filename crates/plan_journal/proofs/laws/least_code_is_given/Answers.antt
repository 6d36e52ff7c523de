use Rattle.site_lines.proofs.LeastCodes.{least_code_fits}
use Rattle.plan_journal.proofs.Lists.{code_given}
use Rattle.plan_journal.proofs.laws.least_code_is_given.Goals as goal

pub returns : goal.returns
returns c = λ rows entry code is. least_code_fits rows code (code_given entry _ code is)
