-- The states of a fleet: what is planned, pending and owed, and who is deferred on whom.
use Rattle.std.specs.Prelude.{◌≡◌, ℕ, ◌+◌, Bool, not, ◌&&◌, ◌||◌, ◌==◌, nat_lt, if◌then◌else◌, List, [], map, length, Option, Some, None, slice_get, slice_index_or}
use Rattle.std.specs.List.{filter, list_any}
use Rattle.std.specs.Option.{is_some, option_map, unwrap_or}
use Rattle.fleet_base.specs.Lists.{robots_of}
use Rattle.fleet_base.specs.declared.limits.TheConstants.{MAX_COUNT}
use Rattle.fleet_base.specs.declared.answers.Block.{Block}
use Rattle.fleet_base.specs.declared.numbers.CellNo.{CellNo}
use Rattle.fleet_base.specs.declared.numbers.ClaimNo.{ClaimNo}
use Rattle.fleet_model.specs.Sites.{Site, needs}
use Rattle.fleet_model.specs.Plans.{Fleet, IsBlocker, unfinished}
use Rattle.fleet_model.specs.Cycles.{cycle_through}
use Rattle.fleet_model.specs.Deferral.{ends, is_kept_by, least_blocker}

-- the fleet's plan, the route that each robot has pending, the cap of a segment, the number of accepted calls, and the number of those before the current segment
pub record State : Type 0 where
  pub fleet : Fleet
  pub pending : List (Option (List CellNo))
  pub cap : ℕ
  pub count : ℕ
  pub base : ℕ

-- the state that a run opens with: where the robots stand, the routes that they have pending, and the next number
abbrev pub opening_state : Site → List CellNo → List (Option (List CellNo)) → ℕ → ℕ → State
opening_state site starts pending next cap =
    record { fleet = record { site = site; starts = starts; first = next; plan = []; finished = []; next = next }; pending = pending; cap = cap; count = 0; base = 0 }

-- the opening state of these starts: no route is pending, and the next number is 1
abbrev pub start_state : Site → List CellNo → ℕ → State
start_state site starts cap = opening_state site starts (map (λ a. None) starts) 1 cap

abbrev pub is_robot : State → ℕ → Bool
is_robot s r = nat_lt r (length s.fleet.starts)

-- the pending route of robot r
abbrev pub pending_of : State → ℕ → Option (List CellNo)
pending_of s r = slice_index_or s.pending r None

-- the pending route, with no cell where there is none
abbrev pub pending_route : State → ℕ → List CellNo
pending_route s r = unwrap_or (pending_of s r) []

-- what is owed: the unfinished events and the pending routes
abbrev pub owed : State → ℕ
owed s = length (unfinished s.fleet) + length (filter is_some s.pending)

-- an outcome by which entries and what is owed grow by so much would go above the cap of the current segment
abbrev pub is_past : State → ℕ → Bool
is_past s growth = nat_lt (s.base + s.cap) (s.count + owed s + growth)

-- there is no room for such an outcome: it would go above what a run may come to; or above the cap of the current segment, and no new segment can open, since an event is unfinished or the outcome would go above its cap too
abbrev pub is_full : State → ℕ → Bool
is_full s growth =
    nat_lt MAX_COUNT (s.count + owed s + growth)
    || (is_past s growth && (not (length (unfinished s.fleet) == 0) || nat_lt s.cap (owed s + growth)))

-- the base behind such an outcome: where it would go above the cap of the current segment, a new one opens
abbrev pub base_behind : State → ℕ → ℕ
base_behind s growth = if is_past s growth then s.count else s.base

-- robot r has a route pending that robot q blocks
pub record IsDeferredOn (s : State) (r q : ℕ) : Type 0 where
  pub route : List CellNo
  pub pending : pending_of s r ≡ Some route
  pub claim : ClaimNo
  pub blocker : IsBlocker s.fleet r route claim q

-- whether it is so, as a test
abbrev pub is_deferred_on : State → ℕ → ℕ → Bool
is_deferred_on s r q =
    not (q == r) && list_any (λ c. is_kept_by s.fleet.site c (slice_get (ends s.fleet) q)) (needs s.fleet.site (pending_route s r))

-- the cycle of deferrals through robot r; the empty list where there is none
abbrev pub cycle_of : State → ℕ → List ℕ
cycle_of s r = cycle_through (length s.fleet.starts) (is_deferred_on s) r

-- the least blocker of a route of robot r, with the cycle through the robot
abbrev pub block_of : State → ℕ → List CellNo → Option Block
block_of s r route =
    option_map (λ b. record { claim = b.0; by = record { 0 = b.1 }; cycle = robots_of (cycle_of s r) }) (least_blocker s.fleet.site (ends s.fleet) r (needs s.fleet.site route))
