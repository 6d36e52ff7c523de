use Rattle.journal_replay.proofs.Differing.{legal_none}
use Rattle.journal_replay.proofs.laws.legal_differs_nowhere.Goals as goal

pub returns : goal.returns
returns c = λ s entries is. legal_none s entries is
