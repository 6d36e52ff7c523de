use Rattle.std.proofs.Common.{◌≡◌, ◌||◌}
use Rattle.std.specs.FinSet.{contains}
use Rattle.fleet_base.specs.declared.numbers.ClaimNo.{ClaimNo}
use Rattle.fleet_model.specs.Sites.{acquired, has_claim, needs}
use Rattle.site_map.specs.Claims.{site_of}
use Rattle.plan_events.proofs.Walked.{steps_on}
use Rattle.plan_events.proofs.expansion.needs.Given as goal

abbrev pub invariant-loop-at : goal.invariant-loop-at
invariant-loop-at l = (c : ClaimNo) → (has_claim (acquired (steps_on (site_of l.site) l.cells l.at)) c || contains l.claims c.0) ≡ has_claim (needs (site_of l.site) l.cells) c
