-- Goals of robots.
use Rattle.std.specs.Prelude.{◌<◌, List, [], ◌∷◌, length}
use Rattle.fleet_base.specs.declared.numbers.CellNo.{CellNo}
use Rattle.site_map.specs.declared.goal.Goal.{Goal}
use Rattle.site_map.specs.declared.goal.Goal.TheVariants.{Cell, Area}
use Rattle.site_map.specs.Built.{BuiltSite, area_at}

-- the cells of a goal
abbrev pub goal_cells : BuiltSite → Goal → List CellNo
goal_cells site (Cell c) = c ∷ []
goal_cells site (Area k) = area_at site k

-- the goal is a cell or an area of the site
abbrev pub IsGoal : BuiltSite → Goal → Type 0
IsGoal site (Cell c) = c.0 < site.cells
IsGoal site (Area k) = k < length site.areas
