-- The scenario of a drill.
use Rattle.std.specs.Prelude.{ℕ, zero, suc, ◌+◌, ◌-◌, ◌*◌, ◌==◌, nat_lt, if◌then◌else◌, List, [], ◌∷◌, ◌++◌, map, length, codes}
use Rattle.std.specs.Fmt.{decimal}
use Rattle.fleet_base.specs.declared.numbers.CellNo.{CellNo}
use Rattle.fleet_model.specs.Lists.{numbers_below}
use Rattle.fleet_names.specs.Names.{Named}
use Rattle.fleet_names.specs.declared.thing.Thing.{Thing}
use Rattle.fleet_names.specs.declared.thing.Thing.TheVariants as thing
use Rattle.scenario.specs.Scenarios.{ScenarioValue}
use Rattle.site_map.specs.declared.goal.Goal.{Goal}
use Rattle.site_map.specs.declared.goal.Goal.TheVariants as goal
use Rattle.scenario_gen.specs.Draws.{draw, drawn, after_draws}
use Rattle.scenario_gen.specs.Grids.{cell, crossings, before_cell, site}

-- The numbers that are drawn first.

-- the width of the grid: the first draw
abbrev pub width : ℕ → ℕ
width n = 8 + 2 * draw 5 n

-- its height: the second draw
abbrev pub height : ℕ → ℕ
height n = 8 + 2 * draw 5 (drawn n)

-- the number from which the links are drawn
abbrev pub at_links : ℕ → ℕ
at_links n = drawn (drawn n)

-- the number from which the robots are drawn, behind the links of all cells
abbrev pub at_robots : ℕ → ℕ
at_robots n = before_cell (width n) (height n) (at_links n) (width n * height n)

-- how many robots there are
abbrev pub robots : ℕ → ℕ
robots n = 8 + draw 9 (at_robots n)

-- the number from which the missions are drawn
abbrev pub at_missions : ℕ → ℕ
at_missions n = drawn (at_robots n)

-- Robots and their missions.

-- where robot i starts: in column i of the first row where it has one, else in column i - w of row 3
abbrev pub start : ℕ → ℕ → CellNo
start w i = if nat_lt i w then cell i else cell (3 * w + (i - w))

-- a leg that is drawn from x on: where the first of its two draws is 0, to an area by the second, else to a cell
abbrev pub leg : ℕ → ℕ → Goal
leg cells x = if draw 4 x == 0 then goal.Area (draw 2 (drawn x)) else goal.Cell (cell (draw cells (drawn x)))

-- a mission that is drawn from x on: the number of its legs, then each leg
abbrev pub mission : ℕ → ℕ → List Goal
mission cells x = map (λ i. leg cells (after_draws (2 * i) (drawn x))) (numbers_below (1 + draw 4 x))

-- the number behind the draws of a mission
abbrev pub after_mission : ℕ → ℕ
after_mission x = after_draws (2 * (1 + draw 4 x)) (drawn x)

-- the number from which the mission of robot r is drawn, where that of the first one is drawn from x on
abbrev pub before_robot : ℕ → ℕ → ℕ
before_robot x zero = x
before_robot x (suc r) = after_mission (before_robot x r)

-- the missions of m robots
abbrev pub missions : ℕ → ℕ → ℕ → List (List Goal)
missions cells x m = map (λ r. mission cells (before_robot x r)) (numbers_below m)

-- Names.

-- the thing of this kind with this number
abbrev pub of_kind : Thing → ℕ → Thing
of_kind (thing.Cell n) i = thing.Cell i
of_kind (thing.Crossing n) i = thing.Crossing i
of_kind (thing.Area n) i = thing.Area i
of_kind (thing.Robot n) i = thing.Robot i

-- the names of so many things of a kind: its letter, with the number of the thing behind it
abbrev pub numbered : List ℕ → Thing → ℕ → Named
numbered letter kind count = map (λ i. (letter ++ decimal i, of_kind kind i)) (numbers_below count)

-- the names of cells, of crossings, of the areas of the first and of the last row, and of robots
abbrev pub names : ℕ → ℕ → ℕ → Named
names cells crossings robots =
    numbered (codes "c") (thing.Cell 0) cells
    ++ (numbered (codes "x") (thing.Crossing 0) crossings
    ++ ((codes "top", thing.Area 0) ∷ (codes "bottom", thing.Area 1) ∷ numbered (codes "r") (thing.Robot 0) robots))

-- The scenario.

-- the scenario of m robots on a grid, whose links and missions are drawn from these numbers on
abbrev pub scenario_on : ℕ → ℕ → ℕ → ℕ → ℕ → ScenarioValue
scenario_on w h x m y = record {
  site = site w h x;
  names = names (w * h) (length (crossings w h)) m;
  starts = map (start w) (numbers_below m);
  missions = missions (w * h) y m;
}

-- the scenario of number n
abbrev pub generated : ℕ → ScenarioValue
generated n = scenario_on (width n) (height n) (at_links n) (robots n) (at_missions n)
