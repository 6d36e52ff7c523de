-- Blockers of a route, and who is deferred on whom.
use Rattle.std.specs.Prelude.{ℕ, Bool, false, not, ◌&&◌, ◌||◌, ◌==◌, nat_lt, nat_le, List, length, map, Option, Some, None, slice_get}
use Rattle.std.specs.List.{filter, list_any}
use Rattle.fleet_base.specs.declared.numbers.CellNo.{CellNo}
use Rattle.fleet_base.specs.declared.numbers.ClaimNo.{ClaimNo}
use Rattle.fleet_model.specs.Lists.{pairs, numbers_below, least}
use Rattle.fleet_model.specs.Sites.{Site, footprint_of, is_kept_from}
use Rattle.fleet_model.specs.Plans.{Fleet, end_of}

-- the robots' ends, in order
abbrev pub ends : Fleet → List CellNo
ends m = map (end_of m) (numbers_below (length m.starts))

-- the claim conflicts with one of the cell's, where there is a cell
abbrev pub is_kept_by : Site → ClaimNo → Option CellNo → Bool
is_kept_by site c None = false
is_kept_by site c (Some a) = is_kept_from site c a

-- the blockers of a route of robot r that needs these claims: a needed claim with another robot, from whose end it is kept
abbrev pub blockers : Site → List CellNo → ℕ → List ClaimNo → List (ClaimNo × ℕ)
blockers site ends r claims =
    filter (λ b. not (b.1 == r) && is_kept_by site b.0 (slice_get ends b.1)) (pairs claims (numbers_below (length ends)))

-- the claim is less, or it is the same and the robot is not greater
abbrev pub block_precedes : ClaimNo × ℕ → ClaimNo × ℕ → Bool
block_precedes b d = nat_lt b.0.0 d.0.0 || ((b.0.0 == d.0.0) && nat_le b.1 d.1)

-- the blocker of least claim, and of these the one of least robot
abbrev pub least_blocker : Site → List CellNo → ℕ → List ClaimNo → Option (ClaimNo × ℕ)
least_blocker site ends r claims = least block_precedes (blockers site ends r claims)

-- a cell is shut to robot r where its footprint conflicts with that of another robot's end
abbrev pub is_shut_to : Fleet → ℕ → CellNo → Bool
is_shut_to m r a =
    list_any (λ q. not (q == r) && list_any (λ c. is_kept_by m.site c (slice_get (ends m) q)) (footprint_of m.site a)) (numbers_below (length m.starts))
