use Rattle.std.proofs.Common.{◌≡◌, false, take}
use Rattle.std.specs.List.{list_any}
use Rattle.fleet_model.specs.Sites.{in_conflict}
use Rattle.site_map.specs.Claims.{site_of}
use Rattle.site_map.proofs.site.Site.conflicts_with.Given as goal

abbrev pub invariant-loop-other : goal.invariant-loop-other
invariant-loop-other l = list_any (λ d. in_conflict (site_of l.self).groups l.claim d) (take l.other-index l.others) ≡ false
