use Rattle.std.proofs.Common.{◌≡◌, ◌+◌, drop}
use Rattle.site_map.specs.Claims.{site_of}
use Rattle.coordinator.specs.Openings.{clash_with}
use Rattle.coordinator.proofs.opening.clash_with.Given as goal

abbrev pub invariant-loop-place : goal.invariant-loop-place
invariant-loop-place l = clash_with (site_of l.site) l.one.0 l.start (l.one.0 + 1) l.others ≡ clash_with (site_of l.site) l.one.0 l.start (l.one.0 + 1 + l.place) (drop l.place l.others)
