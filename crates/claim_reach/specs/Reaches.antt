-- Between which numbers the claims of one group are.
use Rattle.std.specs.Prelude.{◌≡◌, ℕ, ◌+◌, ◌<◌, ◌≤◌, List, length, slice_get, Some}
use Rattle.fleet_base.specs.declared.numbers.ClaimGroup.{ClaimGroup}
use Rattle.claim_reach.specs.declared.Reach.{Reach}

-- there is a claim of this number, and it is of the group
abbrev pub IsOfGroup : List ClaimGroup → ℕ → ℕ → Type 0
IsOfGroup groups group d = (g : ClaimGroup) × (slice_get groups d ≡ Some g) × (g.group ≡ group)

-- the reach goes from the first claim of the group to its last one
pub record SpansGroup (groups : List ClaimGroup) (group : ℕ) (reach : Reach) : Type 0 where
  pub first : IsOfGroup groups group reach.first
  pub last : (d : ℕ) × IsOfGroup groups group d × (d + 1 ≡ reach.end)
  pub all : (d : ℕ) → IsOfGroup groups group d → (reach.first ≤ d) × (d < reach.end)

-- each claim has the reach of its group
pub record AreReaches (groups : List ClaimGroup) (reaches : List Reach) : Type 0 where
  pub long : length reaches ≡ length groups
  pub spans : (c : ℕ) (g : ClaimGroup) (reach : Reach) → slice_get groups c ≡ Some g → slice_get reaches c ≡ Some reach → SpansGroup groups g.group reach

-- no other claim is of this claim's group
abbrev pub IsSingle : List ClaimGroup → ℕ → Type 0
IsSingle groups c = (g : ClaimGroup) (d : ℕ) → slice_get groups c ≡ Some g → IsOfGroup groups g.group d → d ≡ c
