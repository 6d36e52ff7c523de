use Rattle.call_laws.proofs.LegalRoutes.{deferred_exactly, merged_exactly, refused_full}
use Rattle.call_laws.proofs.laws.legal_proposals_are_exact.Goals as goal

pub returns : goal.returns
returns c = record {
  merged = λ s r cells site good may room. merged_exactly s r cells site may good room;
  deferred = λ s r cells site good may room. deferred_exactly s r cells site may good room;
  refused = λ s r cells refused site may is. refused_full s r cells site may refused is;
}
