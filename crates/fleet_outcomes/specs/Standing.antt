-- What is known of a robot whose outcome is looked for.
use Rattle.std.specs.Prelude.{◌≡◌, ℕ, Bool, true, false, length, Option, Some, None, Result, Ok, Err}
use Rattle.std.specs.Option.{is_some}
use Rattle.fleet_base.specs.declared.answers.ReplanRefused.{ReplanRefused}
use Rattle.fleet_base.specs.declared.answers.ReplanRefused.TheVariants.{UnknownRobot, NoPending, AtGoal, NoDetour, Full, NoMemory}
use Rattle.fleet_base.specs.declared.path.NoMemory.{NoMemory as Lacking}
use Rattle.fleet_model.specs.Lists.{has_cell}
use Rattle.fleet_model.specs.Plans.{Fleet, end_of, own, unfinished}
use Rattle.fleet_model.specs.States.{State}
use Rattle.mission_model.specs.Policies.{policy_entry}
use Rattle.mission_model.specs.Stops.{Leg}

-- the goal of the leg, where there is one, doesn't contain the cell in which robot r ends
abbrev pub LeadsOn : Fleet → ℕ → Option Leg → Type 0
LeadsOn m r None = Unit {0}
LeadsOn m r (Some goal) = has_cell goal (end_of m r) ≡ false

-- robot r, whose next leg this is, can't go on and has no unfinished event
pub record IsAtRest (s : State) (r : ℕ) (leg : Option Leg) : Type 0 where
  pub stuck : is_some (policy_entry s r leg) ≡ false
  pub finished : length (own r (unfinished s.fleet)) ≡ 0

-- whether there is a detour for a robot with a pending route and a goal away from its end, by why none would be taken, where it is refused; room isn't asked for before one was found
abbrev pub found_by : Option ReplanRefused → Result Bool Lacking
found_by None = Ok true
found_by (Some Full) = Ok true
found_by (Some NoMemory) = Err (record {})
found_by (Some UnknownRobot) = Ok false
found_by (Some NoPending) = Ok false
found_by (Some AtGoal) = Ok false
found_by (Some NoDetour) = Ok false
