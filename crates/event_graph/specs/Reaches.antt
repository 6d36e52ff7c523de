-- Where the claims that a claim conflicts with are to be found.
use Rattle.std.specs.Prelude.{◌≡◌, ℕ, ◌<◌, ◌≤◌, List, length, slice_get, Some}
use Rattle.fleet_base.specs.declared.numbers.ClaimGroup.{ClaimGroup}
use Rattle.event_graph.specs.declared.reach.Reach.{Reach}

-- the claims of this group are within the reach
abbrev pub HasWithin : List ClaimGroup → ℕ → Reach → Type 0
HasWithin groups group reach = (d : ℕ) (g : ClaimGroup) → slice_get groups d ≡ Some g → g.group ≡ group → (reach.first ≤ d) × (d < reach.end)

-- the reach of a claim
abbrev pub IsReachOf : List ClaimGroup → ClaimGroup → Reach → Type 0
IsReachOf groups g reach = HasWithin groups g.group reach × (reach.end ≤ length groups)

-- each claim has the reach of its group
pub record IsReached (groups : List ClaimGroup) (reaches : List Reach) : Type 0 where
  pub long : length reaches ≡ length groups
  pub within : (c : ℕ) (g : ClaimGroup) (reach : Reach) → slice_get groups c ≡ Some g → slice_get reaches c ≡ Some reach → IsReachOf groups g reach
