use Rattle.journal_replay.proofs.Differing.{one_differs}
use Rattle.journal_replay.proofs.laws.one_differs.Goals as goal

pub returns : goal.returns
returns c = λ s entries n is. one_differs s entries n is
