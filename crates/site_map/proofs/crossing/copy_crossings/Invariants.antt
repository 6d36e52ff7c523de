use Rattle.std.proofs.Common.{◌≡◌, take}
use Rattle.site_map.proofs.crossing.copy_crossings.Given as goal

abbrev pub invariant-loop-crossing : goal.invariant-loop-crossing
invariant-loop-crossing l = l.copies.items ≡ take l.crossing-index l.crossings
