use Rattle.std.proofs.Common.{◌≡◌, drop}
use Rattle.std.specs.List.{find}
use Rattle.fleet_model.specs.Sites.{is_kept_from}
use Rattle.site_map.specs.Claims.{site_of}
use Rattle.coordinator.specs.Openings.{kept_claim}
use Rattle.coordinator.proofs.opening.first_kept.Given as goal

abbrev pub invariant-loop-claim : goal.invariant-loop-claim
invariant-loop-claim l = kept_claim (site_of l.site) l.fn.one l.other ≡ find (λ c. is_kept_from (site_of l.site) c l.other) (drop l.claim-index l.claim-items)
