use Rattle.journal_replay.proofs.Differing.{none_differs}
use Rattle.journal_replay.proofs.laws.none_differs.Goals as goal

pub returns : goal.returns
returns c = λ s entries is. none_differs s entries is
