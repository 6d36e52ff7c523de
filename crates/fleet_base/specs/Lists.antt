-- What callers see of the short lists: lists of numbers.
use Rattle.std.specs.Prelude.{ℕ, ◌+◌, ◌≤◌, List, [], ◌∷◌, length, map, take_while, nat_lt, if◌then◌else◌}
use Rattle.fleet_base.specs.declared.numbers.ClaimNo.{ClaimNo}
use Rattle.fleet_base.specs.declared.numbers.RobotNo.{RobotNo}

-- the robots with these numbers
abbrev pub robots_of : List ℕ → List RobotNo
robots_of numbers = map (λ n. record { 0 = n }) numbers

-- the numbers of these robots
abbrev pub numbers_of : List RobotNo → List ℕ
numbers_of robots = map (λ r. r.0) robots

-- how many claims from the front on have numbers below the claim's
abbrev pub count_below : List ClaimNo → ClaimNo → ℕ
count_below claims claim = length (take_while (λ c. nat_lt c.0 claim.0) claims)

-- the claims with the claim in its place by number
abbrev pub placed : List ClaimNo → ClaimNo → List ClaimNo
placed [] claim = claim ∷ []
placed (c ∷ cs) claim = if nat_lt c.0 claim.0 then c ∷ placed cs claim else claim ∷ c ∷ cs

-- the numbers of the claims rise, from low on
abbrev pub RiseFrom : ℕ → List ClaimNo → Type 0
RiseFrom low [] = Unit {0}
RiseFrom low (c ∷ cs) = (low ≤ c.0) × RiseFrom (c.0 + 1) cs
