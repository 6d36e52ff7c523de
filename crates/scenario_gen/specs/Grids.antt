-- The site of a drill: a grid of cells, its crossings, areas and links. The cells are numbered row by row; w is the width of the grid, h its height.
use Rattle.std.specs.Prelude.{ℕ, zero, suc, ◌+◌, ◌-◌, ◌*◌, ◌/◌, ◌%◌, Bool, ◌==◌, nat_lt, if◌then◌else◌, List, [], ◌∷◌, map, flat_map, Option, Some, None}
use Rattle.std.specs.List.{filter, range_with_len}
use Rattle.fleet_base.specs.declared.numbers.CellNo.{CellNo}
use Rattle.fleet_base.specs.declared.numbers.Link.{Link}
use Rattle.fleet_model.specs.Lists.{numbers_below, when}
use Rattle.site_map.specs.Built.{BuiltSite}
use Rattle.site_map.specs.Cells.{in_order, with_one_more}
use Rattle.site_map.specs.Crossings.{BuiltCrossing}
use Rattle.scenario_gen.specs.Draws.{draw, drawn}

abbrev pub cell : ℕ → CellNo
cell n = record { 0 = n }

-- the columns or rows in which crossings begin, where there are n of them
abbrev pub corners : ℕ → List ℕ
corners n = filter (λ k. nat_lt (k + 1) n) (1 ∷ 5 ∷ 9 ∷ 13 ∷ [])

-- the four cells in columns x and x + 1 of rows y and y + 1
abbrev pub block : ℕ → ℕ → ℕ → List CellNo
block w x y = cell (y * w + x) ∷ cell (y * w + x + 1) ∷ cell ((y + 1) * w + x) ∷ cell ((y + 1) * w + x + 1) ∷ []

-- a crossing of these four cells, of as many as there are
abbrev pub crossing : ℕ → ℕ → ℕ → ℕ → BuiltCrossing
crossing cells w x y = record { cells = in_order cells (block w x y); flows = [] }

-- the crossings that begin in row y, from left to right
abbrev pub crossings_in : ℕ → ℕ → ℕ → List BuiltCrossing
crossings_in cells w y = map (λ x. crossing cells w x y) (corners w)

-- the crossings, row by row
abbrev pub crossings : ℕ → ℕ → List BuiltCrossing
crossings w h = flat_map (crossings_in (w * h) w) (corners h)

-- the cells of row y
abbrev pub row_cells : ℕ → ℕ → List CellNo
row_cells w y = map cell (range_with_len (y * w) w)

abbrev pub is_even : ℕ → Bool
is_even n = n % 2 == 0

-- where the link across leads from cell c: in an even row to the right neighbour, in an odd one to the left, where it exists
abbrev pub across : ℕ → ℕ → Option ℕ
across w c = if is_even (c / w) then when (nat_lt (c % w + 1) w) (c + 1) else when (nat_lt 0 (c % w)) (c - 1)

-- where the link along leads from cell c: in an even column to the neighbour in the row before, in an odd one to that in the row behind, where it exists
abbrev pub along : ℕ → ℕ → ℕ → Option ℕ
along w h c = if is_even (c % w) then when (nat_lt 0 (c / w)) (c - w) else when (nat_lt (c / w + 1) h) (c + w)

-- the links with one more to that cell, if there is one, whose cost is drawn from x
abbrev pub with_drawn : Option ℕ → ℕ → List Link → List Link
with_drawn None x links = links
with_drawn (Some to) x links = with_one_more links (record { to = cell to; cost = 1 + draw 9 x })

-- the number behind that draw
abbrev pub after_link : Option ℕ → ℕ → ℕ
after_link None x = x
after_link (Some to) x = drawn x

-- the links of cell c, drawn from x on: the one across, then the one along
abbrev pub links_of : ℕ → ℕ → ℕ → ℕ → List Link
links_of w h c x = with_drawn (along w h c) (after_link (across w c) x) (with_drawn (across w c) x [])

-- the number from which the links of cell c are drawn, where those of the first cell are drawn from x on
abbrev pub before_cell : ℕ → ℕ → ℕ → ℕ → ℕ
before_cell w h x zero = x
before_cell w h x (suc c) = after_link (along w h c) (after_link (across w c) (before_cell w h x c))

-- the links of each cell
abbrev pub links : ℕ → ℕ → ℕ → List (List Link)
links w h x = map (λ c. links_of w h c (before_cell w h x c)) (numbers_below (w * h))

-- the site, whose links are drawn from x on; its areas are the first row and the last
abbrev pub site : ℕ → ℕ → ℕ → BuiltSite
site w h x = record { cells = w * h; crossings = crossings w h; areas = in_order (w * h) (row_cells w 0) ∷ in_order (w * h) (row_cells w (h - 1)) ∷ []; links = links w h x }
