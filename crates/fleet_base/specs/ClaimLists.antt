-- The claims of a short vector.
use Rattle.std.specs.Prelude.{◌≡◌, ◌≤◌, length}
use Rattle.smallvec.specs.SmallVec.{SmallVec}
use Rattle.fleet_base.specs.declared.numbers.ClaimNo.{ClaimNo}
use Rattle.fleet_base.specs.Lists.{RiseFrom}

-- the claims ascend, and stand in the vector's own three places
pub record AreKept (claims : SmallVec ClaimNo) : Type 0 where
  pub ascending : RiseFrom 0 claims.items
  pub short : length claims.items ≤ 3
  pub inline : claims.capacity ≡ 3
