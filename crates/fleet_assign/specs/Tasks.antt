-- The tasks of a scenario, and what each of them costs each robot.
use Rattle.std.specs.Prelude.{◌≡◌, ℕ, ◌<◌, Bool, false, List, length, take, Option, Some, None, slice_get, slice_index_or}
use Rattle.std.specs.List.{flat_map}
use Rattle.std.specs.Option.{unwrap_or}
use Rattle.fleet_base.specs.declared.numbers.CellNo.{CellNo}
use Rattle.fleet_model.specs.Lists.{has_cell}
use Rattle.route_plan.specs.Labels.{label_of}
use Rattle.scenario.specs.Scenarios.{ScenarioValue}
use Rattle.site_map.specs.Built.{BuiltSite}
use Rattle.site_map.specs.Claims.{site_of}
use Rattle.site_map.specs.Goals.{goal_cells}
use Rattle.site_map.specs.declared.goal.Goal.{Goal}
use Rattle.task_assign.specs.Squares.{Square, cost_at}

-- the tasks: the first leg of each robot that has one, in order of robot
abbrev pub tasks_of : List (List Goal) → List Goal
tasks_of missions = flat_map (λ legs. take 1 legs) missions

-- no cell is to be avoided
abbrev pub nowhere : CellNo → Bool
nowhere cell = false

-- what the least route from a cell to a goal costs; None where there is none
abbrev pub route_cost : BuiltSite → Goal → CellNo → Option ℕ
route_cost site goal from = label_of (site_of site) (has_cell (goal_cells site goal)) nowhere from

-- the cost of a route, or 10^12 where there is none
abbrev pub cost_or_most : Option ℕ → ℕ
cost_or_most cost = unwrap_or cost 1000000000000

-- what a task costs from a cell; nothing where there is no task
abbrev pub task_cost : BuiltSite → CellNo → Option Goal → ℕ
task_cost site from None = 0
task_cost site from (Some goal) = cost_or_most (route_cost site goal from)

-- where a robot starts
abbrev pub start_of : List CellNo → ℕ → CellNo
start_of starts robot = slice_index_or starts robot (record { 0 = 0 })

-- the task of a column; None where the column is idle
abbrev pub task_at : ScenarioValue → ℕ → Option Goal
task_at s column = slice_get (tasks_of s.missions) column

-- what a column costs a robot
abbrev pub cost_of : ScenarioValue → ℕ → ℕ → ℕ
cost_of s robot column = task_cost s.site (start_of s.starts robot) (task_at s column)

-- the square of these costs, with a row and a column for each robot
pub record IsSquareOf (s : ScenarioValue) (square : Square) : Type 0 where
  pub size : square.size ≡ length s.starts
  pub costs : (i j : ℕ) → i < length s.starts → j < length s.starts → cost_at square i j ≡ cost_of s i j
