use Rattle.std.proofs.Common.{◌≡◌, ◌≤◌, take}
use Rattle.std.specs.Prelude.{vec_len}
use Rattle.std.specs.Vec.{vec_capacity}
use Rattle.site_map.specs.Claims.{groups_of}
use Rattle.coordinator.proofs.opening.groups_of.Given as goal

abbrev pub invariant-loop-claim : goal.invariant-loop-claim
invariant-loop-claim l = (l.groups.items ≡ take l.claim (groups_of l.site)) × (vec_len l.groups ≡ l.claim) × (l.count ≤ vec_capacity l.groups)
