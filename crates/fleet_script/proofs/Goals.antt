-- The goals of commands, and sets of cells.
use Rattle.std.proofs.Common.{ℕ, List, get_or, All, arith}
use Rattle.fleet_commands.specs.Commands.{IsDeclared, IsDeclaredRequest}
use Rattle.fleet_commands.specs.declared.command.Command.{Command}
use Rattle.fleet_calls.specs.declared.request.Request.{Request}
use Rattle.fleet_calls.specs.declared.request.Request.TheVariants as request
use Rattle.fleet_names.specs.Names.{Named}
use Rattle.scenario.specs.Scenarios.{NamesAll}
use Rattle.site_map.specs.Built.{BuiltSite}
use Rattle.site_map.specs.declared.goal.Goal.TheVariants as goal
use Rattle.fleet_calls.specs.Calls.{HasGoal}

module _ (names : Named) (site : BuiltSite) (count : ℕ) (all : NamesAll names site count) where
  goal_is : (request : Request) → IsDeclaredRequest names request → HasGoal site request
  goal_is (request.Propose cells) is = tt
  goal_is request.Retry is = tt
  goal_is request.Cancel is = tt
  goal_is request.Withdraw is = tt
  goal_is (request.Replan (goal.Cell c)) is = omega (arith, is, all.cells)
  goal_is (request.Replan (goal.Area k)) is = omega (arith, is, all.areas)
  goal_is (request.Report event) is = tt
  goal_is request.Look is = tt

  -- the goals of commands with names are those of the site
  pub goals_are : (commands : List Command) → All (IsDeclared names) commands → All (λ command. HasGoal site command.request) commands
  goals_are commands are k d within = goal_is (get_or commands k d).request (are k d within).request
