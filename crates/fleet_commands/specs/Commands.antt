-- What commands ask for.
use Rattle.std.specs.Prelude.{ℕ, ◌<◌, All}
use Rattle.fleet_model.specs.Calls.{Call}
use Rattle.fleet_names.specs.Names.{Named, count_of}
use Rattle.fleet_names.specs.Things.{is_cell, is_area, is_robot}
use Rattle.site_map.specs.Built.{BuiltSite}
use Rattle.site_map.specs.declared.goal.Goal.{Goal}
use Rattle.site_map.specs.declared.goal.Goal.TheVariants as goal
use Rattle.fleet_commands.specs.declared.command.Command.{Command}
use Rattle.fleet_calls.specs.Calls as requested
use Rattle.fleet_calls.specs.declared.request.Request.{Request}
use Rattle.fleet_calls.specs.declared.request.Request.TheVariants.{Propose, Retry, Cancel, Withdraw, Replan, Report, Look}

-- the call that a command is, with the number of its robot
abbrev pub call_of : BuiltSite → Command → ℕ × Call
call_of site command = (command.robot.0, requested.call_of site command.request)

-- the goal has a name
abbrev pub IsDeclaredGoal : Named → Goal → Type 0
IsDeclaredGoal names (goal.Cell c) = c.0 < count_of is_cell names
IsDeclaredGoal names (goal.Area k) = k < count_of is_area names

-- the cells and the goal of a request have names
abbrev pub IsDeclaredRequest : Named → Request → Type 0
IsDeclaredRequest names (Propose cells) = All (λ c. c.0 < count_of is_cell names) cells
IsDeclaredRequest names Retry = Unit {0}
IsDeclaredRequest names Cancel = Unit {0}
IsDeclaredRequest names Withdraw = Unit {0}
IsDeclaredRequest names (Replan goal) = IsDeclaredGoal names goal
IsDeclaredRequest names (Report event) = Unit {0}
IsDeclaredRequest names Look = Unit {0}

-- the robot of a command, its cells and its goal have names
pub record IsDeclared (names : Named) (command : Command) : Type 0 where
  pub robot : command.robot.0 < count_of is_robot names
  pub request : IsDeclaredRequest names command.request
