-- The policy of the robots, who can go on, and quiet states.
use Rattle.std.specs.Prelude.{◌≡◌, ℕ, Bool, false, not, ◌&&◌, ◌==◌, List, [], ◌∷◌, length, Option, Some, None}
use Rattle.std.specs.Option.{is_some, is_none, option_map, option_and_then, unwrap_or}
use Rattle.fleet_base.specs.declared.entries.Entry.{Entry}
use Rattle.fleet_base.specs.declared.numbers.CellNo.{CellNo}
use Rattle.fleet_base.specs.declared.numbers.Event.{Event}
use Rattle.fleet_model.specs.Lists.{has_cell, when, first_some}
use Rattle.fleet_model.specs.Plans.{Fleet, end_of}
use Rattle.fleet_model.specs.Routes.{least_route}
use Rattle.fleet_model.specs.States.{State, pending_of, pending_route, cycle_of, block_of}
use Rattle.fleet_model.specs.Calls.{Call, Propose, Retry, Replan, Report, turn, next_event, waits_on, detour_of}
use Rattle.fleet_model.specs.Journals.{state_after}
use Rattle.mission_model.specs.declared.doing.Doing.{Doing}
use Rattle.mission_model.specs.declared.doing.Doing.TheVariants as doing
use Rattle.mission_model.specs.Stops.{Leg, Missions, legs_of, next_leg}

-- the robot's next event, where it is ready
abbrev pub ready_event : Fleet → ℕ → Option Event
ready_event m r = option_and_then (λ e. when (is_none (waits_on m e)) e) (next_event m r)

-- robot r has a pending route, and nothing blocks it
abbrev pub is_free : State → ℕ → Bool
is_free s r = is_some (pending_of s r) && is_none (block_of s r (pending_route s r))

-- robot r is on a cycle of deferrals
abbrev pub is_on_cycle : State → ℕ → Bool
is_on_cycle s r = not (length (cycle_of s r) == 0)

-- what the policy picks for robot r, by whether a leg is left whose goal can be reached: the first of these that applies
abbrev pub doing_of : State → ℕ → Bool → Doing
doing_of s r leg_left =
    unwrap_or (first_some (
    option_map (λ e. doing.Report e.no) (ready_event s.fleet r)
    ∷ when (is_free s r) doing.Retry
    ∷ when (is_on_cycle s r && leg_left) doing.Replan
    ∷ when (is_none (pending_of s r) && leg_left) doing.Propose
    ∷ [])) doing.Rest

-- the least route of robot r from its end to the leg's goal, avoiding nothing
abbrev pub route_to : Fleet → ℕ → Option Leg → Option (List CellNo)
route_to m r leg = option_and_then (λ goal. least_route m.site (has_cell goal) (λ a. false) (end_of m r)) leg

-- the detour of robot r to the leg's goal
abbrev pub detour_to : Fleet → ℕ → Option Leg → Option (List CellNo)
detour_to m r leg = option_and_then (λ goal. detour_of m r (has_cell goal)) leg

-- the call by which robot r does what the policy picked; none where the goal can't be reached
abbrev pub call_for : State → ℕ → Option Leg → Doing → Option Call
call_for s r leg (doing.Report event) = Some (Report event)
call_for s r leg doing.Retry = Some Retry
call_for s r leg doing.Replan = option_map (λ goal. Replan goal) leg
call_for s r leg doing.Propose = option_map (λ route. Propose route) (route_to s.fleet r leg)
call_for s r leg doing.Rest = None

-- the policy act of robot r, whose next leg this is
abbrev pub policy_act : State → ℕ → Option Leg → Option Call
policy_act s r leg = call_for s r leg (doing_of s r (is_some leg))

-- the entry that the policy act would add to the journal, where there is an act and the machine accepts it
abbrev pub policy_entry : State → ℕ → Option Leg → Option Entry
policy_entry s r leg = option_and_then (λ call. (turn s r call).entry) (policy_act s r leg)

-- the entry by which robot r would go on, after a journal from an opening state
abbrev pub goes_on : Missions → State → List Entry → ℕ → Option Entry
goes_on missions opening journal r = policy_entry (state_after opening journal) r (next_leg (legs_of missions r) opening journal r)

-- the policy gives robot r an act, and the machine would accept it
abbrev pub can_go_on : Missions → State → List Entry → ℕ → Bool
can_go_on missions opening journal r = is_some (goes_on missions opening journal r)

-- no robot can go on
abbrev pub IsQuiet : Missions → State → List Entry → Type 0
IsQuiet missions opening journal = (r : ℕ) → can_go_on missions opening journal r ≡ false
