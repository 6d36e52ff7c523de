-- Pending routes, ends, and who is deferred on whom.
use Rattle.std.specs.Prelude.{◌≡◌, ◌<◌, ◌≤◌, ◌⊎◌, ℕ, Bool, true, false, not, ◌&&◌, ◌==◌, nat_lt, if◌then◌else◌, List, [], length, Option, Some, None, slice_index_or}
use Rattle.std.specs.List.{filter, list_any}
use Rattle.std.specs.Option.{option_map}
use Rattle.std.specs.Ordering.{nat_cmp}
use Rattle.std.specs.FinSet as set
use Rattle.fleet_base.specs.declared.answers.Blocker.{Blocker}
use Rattle.fleet_base.specs.declared.numbers.CellNo.{CellNo}
use Rattle.fleet_base.specs.declared.numbers.ClaimGroup.{ClaimGroup}
use Rattle.fleet_base.specs.declared.numbers.ClaimNo.{ClaimNo}
use Rattle.fleet_model.specs.Lists.{numbers_below}
use Rattle.fleet_model.specs.Sites.{in_conflict}
use Rattle.deferral.specs.declared.pending.Pending.{Pending}

-- the group of each claim, and for each robot its pending route with its needs and the claims of its end
pub record Backlog : Type 0 where
  pub groups : List ClaimGroup
  pub pending : List (Option Pending)
  pub ends : List (List ClaimNo)

-- what robot r has pending
abbrev pub pending_of : Backlog → ℕ → Option Pending
pending_of b r = slice_index_or b.pending r None

-- the cells of its route
abbrev pub route_of : Backlog → ℕ → Option (List CellNo)
route_of b r = option_map (λ p. p.route) (pending_of b r)

-- the claims of the end of robot q
abbrev pub end_claims : Backlog → ℕ → List ClaimNo
end_claims b q = slice_index_or b.ends q []

-- what is pending needs the claim of this number
abbrev pub is_needed : Option Pending → ℕ → Bool
is_needed None c = false
is_needed (Some p) c = set.contains p.needs c

-- the claim of this number conflicts with one of these
abbrev pub is_kept : List ClaimGroup → List ClaimNo → ℕ → Bool
is_kept groups end c = list_any (λ d. in_conflict groups (record { 0 = c }) d) end

-- the numbers of the claims that are needed and conflict with one of these
unfoldable pub needed_claims : List ClaimGroup → set.FinSet nat_cmp → List ClaimNo → List ℕ
needed_claims groups needs end = filter (λ c. set.contains needs c && is_kept groups end c) (numbers_below (length groups))

-- those that what is pending needs
abbrev pub kept_claims : List ClaimGroup → Option Pending → List ClaimNo → List ℕ
kept_claims groups None end = []
kept_claims groups (Some p) end = needed_claims groups p.needs end

-- the number of blockers of the pending route of robot r with robot q
abbrev pub blocker_count : Backlog → ℕ → ℕ → ℕ
blocker_count b r q = if q == r then 0 else length (kept_claims b.groups (pending_of b r) (end_claims b q))

-- the pending route of robot r has a blocker with robot q
abbrev pub is_deferred_on : Backlog → ℕ → ℕ → Bool
is_deferred_on b r q = nat_lt 0 (blocker_count b r q)

-- the end of a robot other than r keeps the claim of this number
abbrev pub is_kept_from : Backlog → ℕ → ℕ → Bool
is_kept_from b r c = list_any (λ q. not (q == r) && is_kept b.groups (end_claims b q) c) (numbers_below (length b.ends))

-- the claim of this number is one of these, and the end of another robot keeps it from robot r
abbrev pub blocks : Backlog → ℕ → set.FinSet nat_cmp → ℕ → ℕ → Bool
blocks b r needs c q = set.contains needs c && (not (q == r) && is_kept b.groups (end_claims b q) c)

-- the blocker of least claim, and of these the one of least robot; None where there is none
abbrev pub IsLeastBlocker : Backlog → ℕ → set.FinSet nat_cmp → Option Blocker → Type 0
IsLeastBlocker b r needs None = (c q : ℕ) → blocks b r needs c q ≡ false
IsLeastBlocker b r needs (Some k) = (blocks b r needs k.claim.0 k.by.0 ≡ true) × ((c q : ℕ) → blocks b r needs c q ≡ true → (k.claim.0 < c) ⊎ ((k.claim.0 ≡ c) × (k.by.0 ≤ q)))
