use Rattle.std.proofs.Common.{sym, arith}
use Rattle.std.proofs.lemmas.List.{append-nil}
use Rattle.fleet_texts.specs.Words.{claim_text}
use Rattle.fleet_texts.proofs.Naming.{no_claim}
use Rattle.fleet_texts.proofs.words.push_claim.Goals as goal

pub returns-then-claim-claim_count-clause-ok : goal.returns-then-claim-claim_count-clause-ok
unfolding claim_text
returns-then-claim-claim_count-clause-ok c = rw c.claim_name.ensures c.push_claim_name.ensures.ok

pub returns-else-claim-claim_count-clause-ok : goal.returns-else-claim-claim_count-clause-ok
returns-else-claim-claim_count-clause-ok c = rw (no_claim c.args.names.now c.args.site.now c.args.claim (omega arith)) (sym (append-nil c.args.text.now.items))
