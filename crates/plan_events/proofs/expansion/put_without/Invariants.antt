use Rattle.std.proofs.Common.{◌≡◌, ◌||◌, take}
use Rattle.std.specs.FinSet.{contains}
use Rattle.fleet_base.specs.declared.numbers.ClaimNo.{ClaimNo}
use Rattle.fleet_model.specs.Sites.{has_claim, without}
use Rattle.plan_events.proofs.expansion.put_without.Given as goal

abbrev pub invariant-loop-claim : goal.invariant-loop-claim
invariant-loop-claim l = (c : ClaimNo) → contains l.found c.0 ≡ (has_claim (without (take l.claim-index l.claims) l.held) c || contains l.fn.found c.0)
