-- The text of a least route.
use Rattle.std.specs.Prelude.{ℕ, Bool, false, List, [], ◌∷◌, ◌++◌, map, codes, Option, Some, None}
use Rattle.std.specs.Fmt.{decimal}
use Rattle.fleet_base.specs.declared.numbers.CellNo.{CellNo}
use Rattle.fleet_model.specs.Routes.{least_route, walk_cost}
use Rattle.fleet_names.specs.Names.{Named}
use Rattle.fleet_texts.specs.Words.{cell_text, lines_text, spaced}
use Rattle.route_plan.specs.Labels.{label_of}
use Rattle.scenario.specs.Canonical.{each}
use Rattle.site_map.specs.Built.{BuiltSite}
use Rattle.site_map.specs.Claims.{site_of}

-- no cell is to be avoided
abbrev pub nowhere : CellNo → Bool
nowhere cell = false

-- the line of a route: its cost and its cells
abbrev pub route_line : Named → ℕ → List CellNo → List ℕ
route_line names cost cells = lines_text (spaced (codes "route" ∷ decimal cost ∷ map (cell_text names) cells) ∷ [])

-- the line of a cell's label; no line where the cell has none
abbrev pub label_line : Named → CellNo → Option ℕ → List ℕ
label_line names cell None = []
label_line names cell (Some cost) = lines_text (spaced (codes "label" ∷ cell_text names cell ∷ decimal cost ∷ []) ∷ [])

-- the lines of the cells that have a label, in order of their numbers, of which there are so many
abbrev pub label_lines : Named → ℕ → (CellNo → Option ℕ) → List ℕ
label_lines names count label = each (λ n. label_line names (record { 0 = n }) (label (record { 0 = n }))) count

-- what is told of the least route to a goal: the route, and the labels of the site's cells; or that there is none
abbrev pub told_text : Named → BuiltSite → (CellNo → Bool) → Option (List CellNo) → List ℕ
told_text names site goal None = codes "unreachable\n"
told_text names site goal (Some cells) = route_line names (walk_cost (site_of site) cells) cells ++ label_lines names site.cells (label_of (site_of site) goal nowhere)

-- the text of the least route from a cell to a goal, with no cell to avoid
unfoldable pub route_text : Named → BuiltSite → (CellNo → Bool) → CellNo → List ℕ
route_text names site goal from = told_text names site goal (least_route (site_of site) goal nowhere from)
