-- What a site was built of, and what each call adds to it.
use Rattle.std.specs.Prelude.{ℕ, ◌+◌, if◌then◌else◌, List, [], ◌∷◌, ◌++◌, map, length, slice_index_or, slice_set}
use Rattle.fleet_model.specs.Lists.{has_cell}
use Rattle.fleet_base.specs.declared.numbers.CellNo.{CellNo}
use Rattle.fleet_base.specs.declared.numbers.Link.{Link}
use Rattle.site_map.specs.Cells.{in_order, with_one_more}
use Rattle.site_map.specs.Crossings.{BuiltCrossing, completed, with_line}

-- the number of cells, the crossings, the cells of each area, and for each cell the links from it
pub record BuiltSite : Type 0 where
  pub cells : ℕ
  pub crossings : List BuiltCrossing
  pub areas : List (List CellNo)
  pub links : List (List Link)

abbrev pub no_site : BuiltSite
no_site = record { cells = 0; crossings = []; areas = []; links = [] }

abbrev pub no_crossing : BuiltCrossing
no_crossing = record { cells = []; flows = [] }

abbrev pub crossing_at : BuiltSite → ℕ → BuiltCrossing
crossing_at site k = slice_index_or site.crossings k no_crossing

abbrev pub area_at : BuiltSite → ℕ → List CellNo
area_at site k = slice_index_or site.areas k []

abbrev pub links_at : BuiltSite → CellNo → List Link
links_at site c = slice_index_or site.links c.0 []

-- how many links there are
abbrev pub link_total : List (List Link) → ℕ
link_total [] = 0
link_total (row ∷ rows) = length row + link_total rows

-- how many of the crossings contain the cell
abbrev pub crossings_with : List BuiltCrossing → CellNo → ℕ
crossings_with [] c = 0
crossings_with (x ∷ xs) c = (if has_cell x.cells c then 1 else 0) + crossings_with xs c

-- the site with the rest of each crossing as its last flow
abbrev pub completed_site : BuiltSite → BuiltSite
completed_site site = record site { crossings = map completed site.crossings }

-- the site with one more cell
abbrev pub with_cell : BuiltSite → BuiltSite
with_cell site = record site { cells = site.cells + 1; links = site.links ++ [] ∷ [] }

-- the site with one more crossing of these cells
abbrev pub with_crossing : BuiltSite → List CellNo → BuiltSite
with_crossing site cells = record site { crossings = site.crossings ++ record { cells = in_order site.cells cells; flows = [] } ∷ [] }

-- the site with these cells as one more flow line of crossing k
abbrev pub with_flow : BuiltSite → ℕ → List CellNo → BuiltSite
with_flow site k cells = record site { crossings = slice_set site.crossings k (with_line (crossing_at site k) (in_order site.cells cells)) }

-- the site with one more area of these cells
abbrev pub with_area : BuiltSite → List CellNo → BuiltSite
with_area site cells = record site { areas = site.areas ++ in_order site.cells cells ∷ [] }

-- the site with one more link
abbrev pub with_link : BuiltSite → CellNo → Link → BuiltSite
with_link site from link = record site { links = slice_set site.links from.0 (with_one_more (links_at site from) link) }
