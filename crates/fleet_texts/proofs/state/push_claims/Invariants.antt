use Rattle.std.proofs.Common.{◌≡◌, ◌++◌, drop, map}
use Rattle.fleet_texts.specs.Words.{behind, claim_text}
use Rattle.fleet_texts.proofs.state.push_claims.Given as goal

abbrev pub invariant-loop-claim : goal.invariant-loop-claim
invariant-loop-claim l = l.text.items ++ behind (map (claim_text l.names l.site) (drop l.claim-index l.claims)) ≡ l.initial.text.items ++ behind (map (claim_text l.names l.site) l.claims)
