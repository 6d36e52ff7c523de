use Rattle.std.proofs.Common.{◌≡◌, drop}
use Rattle.site_map.specs.Claims.{site_of}
use Rattle.coordinator.specs.Openings.{clash_from}
use Rattle.coordinator.proofs.opening.clash.Given as goal

abbrev pub invariant-loop-one : goal.invariant-loop-one
invariant-loop-one l = clash_from (site_of l.site) 0 l.starts ≡ clash_from (site_of l.site) l.one (drop l.one l.starts)
