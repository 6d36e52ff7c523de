use Rattle.plan_journal.proofs.Accepted.{journal_printed}
use Rattle.plan_journal.proofs.laws.accepted_is_printed.Goals as goal

pub returns : goal.returns
returns c = λ names bytes front declared is. journal_printed names bytes front declared is
