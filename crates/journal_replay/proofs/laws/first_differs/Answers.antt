use Rattle.journal_replay.proofs.Differing.{first_differs}
use Rattle.journal_replay.proofs.laws.first_differs.Goals as goal

pub returns : goal.returns
returns c = λ s entries n is. first_differs s entries n is
