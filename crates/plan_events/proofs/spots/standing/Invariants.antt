use Rattle.std.proofs.Common.{◌≡◌, take}
use Rattle.std.specs.FinSet.{contains}
use Rattle.fleet_base.specs.declared.numbers.ClaimNo.{ClaimNo}
use Rattle.fleet_model.specs.Sites.{has_claim}
use Rattle.plan_events.proofs.spots.standing.Given as goal

abbrev pub invariant-loop-claim : goal.invariant-loop-claim
invariant-loop-claim l = (c : ClaimNo) → contains l.held c.0 ≡ has_claim (take l.claim-index l.claim-items) c
