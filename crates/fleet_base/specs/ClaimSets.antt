-- Sets of the numbers of claims.
use Rattle.std.specs.Prelude.{◌≡◌, ◌==◌, List}
use Rattle.std.specs.List.{list_any}
use Rattle.std.specs.Ordering.{nat_cmp}
use Rattle.std.specs.FinSet as set
use Rattle.fleet_base.specs.declared.numbers.ClaimNo.{ClaimNo}

-- the set has just the numbers of these claims
abbrev pub IsSetOf : set.FinSet nat_cmp → List ClaimNo → Type 0
IsSetOf numbers claims = (c : ClaimNo) → set.contains numbers c.0 ≡ list_any (λ d. d.0 == c.0) claims
