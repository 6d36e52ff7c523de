use Rattle.plan_journal.proofs.Again.{journal_again}
use Rattle.plan_journal.proofs.laws.printed_is_read_again.Goals as goal

pub returns : goal.returns
returns c = λ names entries tail declared few are. journal_again names entries tail declared few are
