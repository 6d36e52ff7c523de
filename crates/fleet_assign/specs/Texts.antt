-- The text of an assignment.
use Rattle.std.specs.Prelude.{◌≡◌, ℕ, ℤ, List, [], ◌∷◌, ◌++◌, length, codes, Option, Some, None}
use Rattle.std.specs.Fmt.{decimal, signed_decimal}
use Rattle.fleet_names.specs.Names.{Named}
use Rattle.fleet_texts.specs.Words.{lines_text, name_text, robot_text, spaced}
use Rattle.scenario.specs.Canonical.{each, goal_thing}
use Rattle.scenario.specs.Scenarios.{ScenarioValue}
use Rattle.site_map.specs.declared.goal.Goal.{Goal}
use Rattle.task_assign.specs.Assignments.{Pairs, IsAssignment, column_at, row_number_at, column_number_at}
use Rattle.task_assign.specs.Squares.{Square}
use Rattle.fleet_assign.specs.Tasks.{IsSquareOf, route_cost, start_of, task_at}

-- a line of these words
abbrev pub line : List (List ℕ) → List ℕ
line words = lines_text (spaced words ∷ [])

-- what a route costs, or that there is none
abbrev pub cost_text : Option ℕ → List ℕ
cost_text None = codes "none"
cost_text (Some cost) = decimal cost

-- the words of a task and of what its route costs
abbrev pub task_words : Named → Goal → Option ℕ → List (List ℕ)
task_words names goal cost = name_text names (goal_thing goal) ∷ cost_text cost ∷ []

-- the words of what a robot is to do
abbrev pub job_words : ScenarioValue → ℕ → Option Goal → List (List ℕ)
job_words s robot None = codes "idle" ∷ codes "0" ∷ []
job_words s robot (Some goal) = task_words s.names goal (route_cost s.site goal (start_of s.starts robot))

-- the name of a robot
abbrev pub robot_name : ScenarioValue → ℕ → List ℕ
robot_name s robot = robot_text s.names (record { 0 = robot })

-- the line of a robot: its task and what that costs
abbrev pub robot_line : ScenarioValue → Pairs → ℕ → List ℕ
robot_line s pairs robot = line (codes "robot" ∷ robot_name s robot ∷ job_words s robot (task_at s (column_at pairs robot)))

-- the line of a robot's number
abbrev pub row_line : ScenarioValue → Pairs → ℕ → List ℕ
row_line s pairs robot = line (codes "row" ∷ robot_name s robot ∷ signed_decimal (row_number_at pairs robot) ∷ [])

-- the line of a column's number
abbrev pub column_line : Pairs → ℕ → List ℕ
column_line pairs column = line (codes "column" ∷ decimal column ∷ signed_decimal (column_number_at pairs column) ∷ [])

-- the line of the total
abbrev pub total_line : Pairs → List ℕ
total_line pairs = line (codes "total" ∷ decimal pairs.total ∷ [])

-- the text of an assignment of a scenario: its total, and a line for each robot, each row and each column
abbrev pub assign_text : ScenarioValue → Pairs → List ℕ
assign_text s pairs =
    total_line pairs
    ++ (each (robot_line s pairs) (length s.starts)
    ++ (each (row_line s pairs) (length s.starts)
    ++ each (column_line pairs) (length s.starts)))

-- it is the text of the assignment of a scenario
pub record IsAssigned (s : ScenarioValue) (text : List ℕ) : Type 0 where
  pub square : Square
  pub pairs : Pairs
  pub costs : IsSquareOf s square
  pub assigned : IsAssignment square pairs
  pub told : text ≡ assign_text s pairs
