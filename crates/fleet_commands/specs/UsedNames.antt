-- What words name in a command. A word that isn't declared, or names something of another kind, names nothing there.
use Rattle.std.specs.Prelude.{ℕ, List, [], ◌∷◌, Option, Some, None, option_and_then}
use Rattle.std.specs.Option.{option_map}
use Rattle.fleet_base.specs.declared.numbers.CellNo.{CellNo}
use Rattle.fleet_base.specs.declared.numbers.RobotNo.{RobotNo}
use Rattle.fleet_names.specs.declared.thing.Thing.{Thing}
use Rattle.fleet_names.specs.declared.thing.Thing.TheVariants as thing
use Rattle.fleet_names.specs.Names.{Named, thing_of}
use Rattle.site_map.specs.declared.goal.Goal.{Goal}
use Rattle.site_map.specs.declared.goal.Goal.TheVariants as goal

-- a thing as a robot, as a cell, and as a goal, which is a cell or an area
abbrev pub as_robot : Thing → Option RobotNo
as_robot (thing.Cell n) = None
as_robot (thing.Crossing n) = None
as_robot (thing.Area n) = None
as_robot (thing.Robot n) = Some (record { 0 = n })

abbrev pub as_cell : Thing → Option CellNo
as_cell (thing.Cell n) = Some (record { 0 = n })
as_cell (thing.Crossing n) = None
as_cell (thing.Area n) = None
as_cell (thing.Robot n) = None

abbrev pub as_goal : Thing → Option Goal
as_goal (thing.Cell n) = Some (goal.Cell (record { 0 = n }))
as_goal (thing.Crossing n) = None
as_goal (thing.Area n) = Some (goal.Area n)
as_goal (thing.Robot n) = None

-- the robot, the cell and the goal that a word names
abbrev pub robot_named : Named → List ℕ → Option RobotNo
robot_named names word = option_and_then as_robot (thing_of names word)

abbrev pub cell_named : Named → List ℕ → Option CellNo
cell_named names word = option_and_then as_cell (thing_of names word)

abbrev pub goal_named : Named → List ℕ → Option Goal
goal_named names word = option_and_then as_goal (thing_of names word)

-- the cells that words name, if each of them names one
abbrev pub cells_named : Named → List (List ℕ) → Option (List CellNo)
cells_named names [] = Some []
cells_named names (word ∷ words) = option_and_then (λ c. option_map (λ cs. c ∷ cs) (cells_named names words)) (cell_named names word)
