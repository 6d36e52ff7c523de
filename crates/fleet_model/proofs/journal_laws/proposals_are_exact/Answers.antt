use Rattle.fleet_model.proofs.Proposals.{merged_safely, deferred_rightly}
use Rattle.fleet_model.proofs.journal_laws.proposals_are_exact.Goals as goal

pub returns : goal.returns
returns c = record {
  merged = λ s r cells span is_site good h. merged_safely s r cells span is_site good h;
  deferred = λ s r cells block is_site good h insert. deferred_rightly s r cells block is_site good h insert;
}
