-- Scenarios for samples.
use Rattle.std.specs.Prelude.{ℕ, [], ◌∷◌, codes}
use Rattle.fleet_base.specs.declared.numbers.CellNo.{CellNo}
use Rattle.fleet_base.specs.declared.numbers.Link.{Link}
use Rattle.fleet_names.specs.declared.thing.Thing.TheVariants.{Area, Cell, Crossing, Robot}
use Rattle.site_map.specs.declared.goal.Goal.TheVariants as goals
use Rattle.scenario.specs.Scenarios.{ScenarioValue}

-- the cell with this number
abbrev pub cell_no : ℕ → CellNo
cell_no n = record { 0 = n }

-- the link to the cell with this number
abbrev pub link_to : ℕ → ℕ → Link
link_to n cost = record { to = cell_no n; cost = cost }

-- one cell, and a robot in it
abbrev pub alone : ScenarioValue
alone = record {
  site = record { cells = 1; crossings = []; areas = []; links = [] ∷ [] };
  names = (codes "a", Cell 0) ∷ (codes "r1", Robot 0) ∷ [];
  starts = cell_no 0 ∷ [];
  missions = [] ∷ [];
}

-- a crossing with a flow, and a robot whose mission has a block in a block
abbrev pub crossed : ScenarioValue
crossed = record {
  site = record {
    cells = 3;
    crossings = record { cells = cell_no 0 ∷ cell_no 1 ∷ []; flows = (cell_no 0 ∷ []) ∷ (cell_no 1 ∷ []) ∷ [] } ∷ [];
    areas = (cell_no 0 ∷ cell_no 2 ∷ []) ∷ [];
    links = (link_to 1 2 ∷ link_to 2 3 ∷ []) ∷ (link_to 0 2 ∷ []) ∷ [] ∷ [];
  };
  names = (codes "a", Cell 0) ∷ (codes "b", Cell 1) ∷ (codes "c", Cell 2) ∷ (codes "x", Crossing 0) ∷ (codes "y", Area 0) ∷ (codes "r1", Robot 0) ∷ [];
  starts = cell_no 2 ∷ [];
  missions = (goals.Cell (cell_no 0) ∷ goals.Area 0 ∷ goals.Area 0 ∷ goals.Cell (cell_no 0) ∷ goals.Area 0 ∷ goals.Area 0 ∷ []) ∷ [];
}
