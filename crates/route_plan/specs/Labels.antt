-- Routes with labels that prove their cost.
use Rattle.std.specs.Prelude.{◌≡◌, ℕ, Bool, nat_lt, if◌then◌else◌, List, Option, Some, None, slice_index_or}
use Rattle.std.specs.Option.{option_map}
use Rattle.std.specs.Ordering.{nat_cmp}
use Rattle.std.specs.FinSet as set
use Rattle.fleet_base.specs.declared.numbers.CellNo.{CellNo}
use Rattle.fleet_model.specs.Sites.{Site, cell_count}
use Rattle.fleet_model.specs.Routes.{walk_cost, least_route}

-- a route as plain data: its cells, its cost, and for each cell its label
pub record LabelledRoute : Type 0 where
  pub path : List CellNo
  pub cost : ℕ
  pub labels : List (Option ℕ)

-- the cell is in the set of cells' numbers
abbrev pub has : set.FinSet nat_cmp → CellNo → Bool
has numbers c = set.contains numbers c.0

-- the label of a cell in a list of them; None past its end
abbrev pub label_at : List (Option ℕ) → CellNo → Option ℕ
label_at labels c = slice_index_or labels c.0 None

-- the label of a cell: the cost of its least route to the goal past the cells to avoid. None where it has no such route, and where the site has no such cell
unfoldable pub label_of : Site → (CellNo → Bool) → (CellNo → Bool) → CellNo → Option ℕ
label_of site goal avoid c = if nat_lt c.0 (cell_count site) then option_map (walk_cost site) (least_route site goal avoid c) else None

-- it is the least route from the cell to the goal past the cells to avoid, with its cost and the label of each cell
pub record IsLeastWithLabels (site : Site) (goal avoid : CellNo → Bool) (from : CellNo) (route : LabelledRoute) : Type 0 where
  pub path : least_route site goal avoid from ≡ Some route.path
  pub cost : route.cost ≡ walk_cost site route.path
  pub labels : (c : CellNo) → label_at route.labels c ≡ label_of site goal avoid c
