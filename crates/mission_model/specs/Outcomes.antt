-- How robots stand with their missions.
use Rattle.std.specs.Prelude.{◌≡◌, ℕ, zero, suc, Bool, true, false, not, ◌&&◌, ◌||◌, ◌==◌, if◌then◌else◌, List, [], ◌∷◌, ◌++◌, length, map, Option, Some, None}
use Rattle.std.specs.List.{list_any, list_all}
use Rattle.std.specs.Option.{is_some, is_none, option_map, unwrap_or}
use Rattle.fleet_base.specs.Lists.{robots_of}
use Rattle.fleet_base.specs.declared.entries.Entry.{Entry}
use Rattle.fleet_model.specs.Lists.{In, when, first_some, numbers_below}
use Rattle.fleet_model.specs.Sites.{needs}
use Rattle.fleet_model.specs.Plans.{own, unfinished}
use Rattle.fleet_model.specs.Deferral.{ends, least_blocker}
use Rattle.fleet_model.specs.States.{State, pending_of, pending_route, cycle_of}
use Rattle.fleet_model.specs.Journals.{state_after}
use Rattle.mission_model.specs.declared.outcome.Outcome.{Outcome}
use Rattle.mission_model.specs.declared.outcome.Outcome.TheVariants.{Active, Waiting, Done, Unreachable, Full, InCycle, Behind}
use Rattle.mission_model.specs.Stops.{Leg, Missions, legs_of, next_leg}
use Rattle.mission_model.specs.Policies.{is_free, is_on_cycle, route_to, detour_to, policy_entry}

-- the robot of the least blocker of robot r's pending route
abbrev pub blocker_of : State → ℕ → Option ℕ
blocker_of s r = option_map (λ b. b.1) (least_blocker s.fleet.site (ends s.fleet) r (needs s.fleet.site (pending_route s r)))

-- behind these robots stand just those that come next: the next one, where there is one that doesn't stand in front already, and so on from its own blocker
abbrev pub ComeNext : State → List ℕ → Option ℕ → List ℕ → Type 0
ComeNext s front next [] = (q : ℕ) → next ≡ Some q → In q front
ComeNext s front next (q ∷ qs) = (next ≡ Some q) × (In q front → ⊥) × ComeNext s (front ++ q ∷ []) (blocker_of s q) qs

-- the robots that robot r is behind: the list starts with the robot of its least blocker; each robot in it is followed by the robot of its own least blocker, until one has none or the next one stands in the list already
abbrev pub IsBehindList : State → ℕ → List ℕ → Type 0
IsBehindList s r robots = ComeNext s [] (blocker_of s r) robots

-- these robots, with those that come next behind them; n bounds how many are added
abbrev pub blockers_on : State → ℕ → List ℕ → Option ℕ → List ℕ
blockers_on s n robots None = robots
blockers_on s zero robots (Some q) = robots
blockers_on s (suc n) robots (Some q) = if list_any (λ p. p == q) robots then robots else blockers_on s n (robots ++ q ∷ []) (blocker_of s q)

-- the robots that robot r is behind, computed
abbrev pub behind_of : State → ℕ → List ℕ
behind_of s r = blockers_on s (length s.fleet.starts) [] (blocker_of s r)

-- no route of robot r is pending
abbrev pub has_none_pending : State → ℕ → Bool
has_none_pending s r = is_none (pending_of s r)

-- only room can be what robot r lacks: it has no pending route, or nothing blocks it, or it is on a cycle and has a detour to its next leg's goal
abbrev pub lacks_room : State → ℕ → Option Leg → Bool
lacks_room s r leg = has_none_pending s r || (is_free s r || (is_on_cycle s r && is_some (detour_to s.fleet r leg)))

-- the outcome of robot r, whose next leg this is: the first that applies
abbrev pub outcome_at : State → ℕ → Option Leg → Outcome
outcome_at s r leg =
    unwrap_or (first_some (
    when (is_some (policy_entry s r leg)) Active
    ∷ when (not (length (own r (unfinished s.fleet)) == 0)) Waiting
    ∷ when (has_none_pending s r && is_none leg) Done
    ∷ when (has_none_pending s r && is_none (route_to s.fleet r leg)) Unreachable
    ∷ when (lacks_room s r leg) Full
    ∷ when (is_on_cycle s r) (InCycle (robots_of (cycle_of s r)))
    ∷ [])) (Behind (robots_of (behind_of s r)))

-- the outcome of robot r after a journal from an opening state
abbrev pub outcome_of : Missions → State → List Entry → ℕ → Outcome
outcome_of missions opening journal r = outcome_at (state_after opening journal) r (next_leg (legs_of missions r) opening journal r)

-- the outcomes of all robots, in order
abbrev pub outcomes_of : Missions → State → List Entry → List Outcome
outcomes_of missions opening journal = map (outcome_of missions opening journal) (numbers_below (length opening.fleet.starts))

abbrev pub is_done : Outcome → Bool
is_done Done = true
is_done _ = false

abbrev pub is_full : Outcome → Bool
is_full Full = true
is_full _ = false

-- the status of a run that ends with these outcomes: 0 where each robot is done, else 7 where one lacks room, else 4
abbrev pub status_of : List Outcome → ℕ
status_of outcomes = if list_all is_done outcomes then 0 else if list_any is_full outcomes then 7 else 4
