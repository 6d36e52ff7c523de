use Rattle.coordinator.proofs.Replans.{entry_free, entry_to_last}
use Rattle.coordinator.proofs.laws.replans_are_free.Goals as goal

pub returns : goal.returns
returns c = record {
  free = λ s r goal robot route first site gives claim q blocks. entry_free s r goal robot route first gives site claim q blocks;
  last = λ s r goal robot route first site gives. entry_to_last s r goal robot route first gives site;
}
