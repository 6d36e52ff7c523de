use Rattle.std.proofs.Common.{◌≡◌, drop}
use Rattle.std.specs.List.{list_any}
use Rattle.fleet_model.specs.Sites.{is_kept_from}
use Rattle.site_map.specs.Claims.{site_of}
use Rattle.scenario.specs.Scenarios.{do_conflict}
use Rattle.scenario_reader.proofs.fleet.do_conflict.Given as goal

abbrev pub invariant-loop-claim : goal.invariant-loop-claim
invariant-loop-claim l = list_any (λ c. is_kept_from (site_of l.site) c l.fn.other) (drop l.claim-index l.claim-items) ≡ do_conflict l.site l.fn.one l.fn.other
