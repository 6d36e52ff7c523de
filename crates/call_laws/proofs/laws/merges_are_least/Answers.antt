use Rattle.call_laws.proofs.Merges.{proposed_least, replanned_least, retried_least}
use Rattle.call_laws.proofs.laws.merges_are_least.Goals as goal

pub returns : goal.returns
returns c = record {
  proposed = λ s r cells span order site good is safely. proposed_least s r cells span order site good is safely;
  retried = λ s r span order site good is safely. retried_least s r span order site good is safely;
  replanned = λ s r goal route span order site good found is safely. replanned_least s r goal route span order site good found is safely;
}
