-- The legs of missions as plain lists of cells.
use Rattle.std.specs.Prelude.{List, map, Option}
use Rattle.std.specs.Option.{option_map}
use Rattle.mission_model.specs.Stops.{Leg, Missions}
use Rattle.site_map.specs.Built.{BuiltSite}
use Rattle.site_map.specs.Goals.{goal_cells}
use Rattle.site_map.specs.declared.goal.Goal.{Goal}

-- the cells of a leg's goal, where there is a leg
abbrev pub leg_cells : BuiltSite → Option Goal → Option Leg
leg_cells site leg = option_map (goal_cells site) leg

-- the cells of each leg's goal
abbrev pub plain_legs : BuiltSite → List Goal → List Leg
plain_legs site legs = map (goal_cells site) legs

-- those of each robot's legs
abbrev pub plain_missions : BuiltSite → List (List Goal) → Missions
plain_missions site missions = map (plain_legs site) missions
