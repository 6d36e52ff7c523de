-- What each site line declares, and when it is bad. The words are those behind the keyword.
use Rattle.std.specs.Prelude.{ℕ, ◌+◌, Bool, false, not, ◌&&◌, ◌||◌, ◌==◌, nat_lt, nat_le, List, [], ◌∷◌, ◌++◌, length, take, drop, filter_map, Option, Some, None, Result}
use Rattle.std.specs.List.{list_all, list_any}
use Rattle.std.specs.Option.{is_some, unwrap_or}
use Rattle.std.specs.Str.Parse.{digits_value}
use Rattle.fleet_model.specs.Lists.{has_cell}
use Rattle.fleet_base.specs.declared.limits.TheConstants.{MAX_AREAS, MAX_CELLS, MAX_COST, MAX_CROSSINGS, MAX_CROSSINGS_OF_CELL, MAX_LINKS}
use Rattle.fleet_base.specs.declared.numbers.CellNo.{CellNo}
use Rattle.fleet_names.specs.declared.thing.Thing.{Thing}
use Rattle.fleet_names.specs.declared.thing.Thing.TheVariants as things
use Rattle.fleet_names.specs.Names.{Named, count_of, is_name, thing_of}
use Rattle.fleet_names.specs.Things.{is_area, is_cell, is_crossing}
use Rattle.site_lines.specs.declared.fault.Code.{Code}
use Rattle.site_lines.specs.declared.fault.Code.TheVariants.{S7, S8, S9, S10, S11, S12, S13, S14, S15, S23}
use Rattle.site_lines.specs.Numbers.{is_number}
use Rattle.site_lines.specs.Readings.{Row}
use Rattle.site_map.specs.Built.{BuiltSite, crossing_at, crossings_with, link_total, links_at, with_area, with_cell, with_crossing, with_flow, with_link}
use Rattle.site_map.specs.Cells.{has_repeat}
use Rattle.site_map.specs.Crossings.{in_flow}
use Rattle.site_map.specs.Refusals.{has_too_many_claims}
use Rattle.scenario_reader.specs.States.{Declared}
use Rattle.scenario_reader.specs.Tables.{few, judged, many, row, word}

-- the number of a cell, of a crossing; None of another thing
abbrev pub as_cell : Option Thing → Option CellNo
as_cell None = None
as_cell (Some (things.Cell n)) = Some (record { 0 = n })
as_cell (Some (things.Crossing n)) = None
as_cell (Some (things.Area n)) = None
as_cell (Some (things.Robot n)) = None

abbrev pub as_crossing : Option Thing → Option ℕ
as_crossing None = None
as_crossing (Some (things.Cell n)) = None
as_crossing (Some (things.Crossing n)) = Some n
as_crossing (Some (things.Area n)) = None
as_crossing (Some (things.Robot n)) = None

-- the cell, the crossing that a name names
abbrev pub cell_named : Named → List ℕ → Option CellNo
cell_named names name = as_cell (thing_of names name)

abbrev pub crossing_named : Named → List ℕ → Option ℕ
crossing_named names name = as_crossing (thing_of names name)

-- each of these is the name of a cell
abbrev pub are_cells : Named → List (List ℕ) → Bool
are_cells names words = list_all (λ name. is_some (cell_named names name)) words

-- the cells that these name
abbrev pub cells_named : Named → List (List ℕ) → List CellNo
cells_named names words = filter_map (cell_named names) words

abbrev pub is_taken : Named → List ℕ → Bool
is_taken names name = is_some (thing_of names name)

-- the names with one more
abbrev pub with_name : Named → List ℕ → Thing → Named
with_name names name thing = names ++ (name, thing) ∷ []

-- the names with one more of the next cell
abbrev pub with_cell_name : Named → List ℕ → Named
with_cell_name names name = with_name names name (things.Cell (count_of is_cell names))

-- the names with these of the next cells
abbrev pub with_cell_names : Named → List (List ℕ) → Named
with_cell_names names [] = names
with_cell_names names (name ∷ more) = with_cell_names (with_cell_name names name) more

-- one of these is taken, maybe by one before it
abbrev pub has_taken : Named → List (List ℕ) → Bool
has_taken names [] = false
has_taken names (name ∷ more) = is_taken names name || has_taken (with_cell_name names name) more

-- the site with one more cell for each of these
abbrev pub with_cells : BuiltSite → List (List ℕ) → BuiltSite
with_cells site [] = site
with_cells site (name ∷ more) = with_cells (with_cell site) more

-- there is a link from a to b
abbrev pub has_link : BuiltSite → CellNo → CellNo → Bool
has_link site a b = list_any (λ l. l.to.0 == b.0) (links_at site a)

-- a word is no number from low to high
abbrev pub is_out_of : ℕ → ℕ → List ℕ → Bool
is_out_of low high digits = not (nat_le low (digits_value 10 digits) && nat_le (digits_value 10 digits) high)

-- the faults of new cells
abbrev pub cell_rows : Declared → List (List ℕ) → List Row
cell_rows d words =
    few 1 words
    ∷ row (not (list_all is_name words)) S7
    ∷ row (has_taken d.names words) S10
    ∷ row (nat_lt MAX_CELLS (d.site.cells + length words)) S13
    ∷ []

-- `cell NAME NAME ..`
abbrev pub cell_line : Declared → List (List ℕ) → Result Declared Code
cell_line d words = judged (cell_rows d words) (record d { site = with_cells d.site words; names = with_cell_names d.names words })

-- the faults of a new name and at least one cell
abbrev pub new_set_rows : Named → List (List ℕ) → List Row
new_set_rows names words =
    few 2 words
    ∷ row (not (list_all is_name words)) S7
    ∷ row (is_taken names (word words 0)) S10
    ∷ row (not (are_cells names (drop 1 words))) S11
    ∷ []

-- the faults of a new crossing of these cells
abbrev pub crossing_rows : BuiltSite → List CellNo → List Row
crossing_rows site cells =
    row (has_repeat cells) S12
    ∷ row (nat_le MAX_CROSSINGS (length site.crossings) || has_too_many_claims (with_crossing site cells)) S13
    ∷ row (list_any (λ c. nat_le MAX_CROSSINGS_OF_CELL (crossings_with site.crossings c)) cells) S14
    ∷ []

-- `crossing NAME CELL CELL ..`
abbrev pub crossing_line : Declared → List (List ℕ) → Result Declared Code
crossing_line d words =
    let cells = cells_named d.names (drop 1 words) in
    judged (new_set_rows d.names words ++ crossing_rows d.site cells)
    (record d { site = with_crossing d.site cells; names = with_name d.names (word words 0) (things.Crossing (count_of is_crossing d.names)) })

-- the faults of a new area of these cells
abbrev pub area_rows : BuiltSite → List CellNo → List Row
area_rows site cells =
    row (has_repeat cells) S12
    ∷ row (nat_le MAX_AREAS (length site.areas)) S13
    ∷ []

-- `area NAME CELL CELL ..`
abbrev pub area_line : Declared → List (List ℕ) → Result Declared Code
area_line d words =
    let cells = cells_named d.names (drop 1 words) in
    judged (new_set_rows d.names words ++ area_rows d.site cells)
    (record d { site = with_area d.site cells; names = with_name d.names (word words 0) (things.Area (count_of is_area d.names)) })

-- the faults of the name of a crossing and at least one cell
abbrev pub old_set_rows : Named → List (List ℕ) → List Row
old_set_rows names words =
    few 2 words
    ∷ row (not (list_all is_name words)) S7
    ∷ row (not (is_some (crossing_named names (word words 0)) && are_cells names (drop 1 words))) S11
    ∷ []

-- the faults of a new flow of these cells in crossing k; the claims are counted as if the flow stood
abbrev pub flow_rows : BuiltSite → ℕ → List CellNo → List Row
flow_rows site k cells =
    row (has_repeat cells) S12
    ∷ row (has_too_many_claims (with_flow site k cells)) S13
    ∷ row (list_any (λ c. not (has_cell (crossing_at site k).cells c) || in_flow (crossing_at site k).flows c) cells) S23
    ∷ []

-- `flow CROSSING CELL CELL ..`
abbrev pub flow_line : Declared → List (List ℕ) → Result Declared Code
flow_line d words =
    let k = unwrap_or (crossing_named d.names (word words 0)) 0 in
    let cells = cells_named d.names (drop 1 words) in
    judged (old_set_rows d.names words ++ flow_rows d.site k cells)
    (record d { site = with_flow d.site k cells })

-- the faults of two cells and a cost
abbrev pub ends_rows : Named → List (List ℕ) → List Row
ends_rows names words =
    few 3 words
    ∷ many 3 words
    ∷ row (not (list_all is_name (take 2 words))) S7
    ∷ row (not (is_number 9 (word words 2))) S8
    ∷ row (is_out_of 1 MAX_COST (word words 2)) S9
    ∷ row (not (are_cells names (take 2 words))) S11
    ∷ []

-- the cell that a word names; the first cell where it names none
abbrev pub cell_at : Named → List ℕ → CellNo
cell_at names name = unwrap_or (cell_named names name) (record { 0 = 0 })

-- the site with a link from a to b
abbrev pub linked : BuiltSite → CellNo → CellNo → ℕ → BuiltSite
linked site a b cost = with_link site a (record { to = b; cost = cost })

-- the faults of a new link
abbrev pub link_rows : BuiltSite → CellNo → CellNo → List Row
link_rows site a b =
    row (nat_le MAX_LINKS (link_total site.links)) S13
    ∷ row ((a.0 == b.0) || has_link site a b) S15
    ∷ []

-- `link CELL CELL COST`
abbrev pub link_line : Declared → List (List ℕ) → Result Declared Code
link_line d words =
    let a = cell_at d.names (word words 0) in
    let b = cell_at d.names (word words 1) in
    judged (ends_rows d.names words ++ link_rows d.site a b)
    (record d { site = linked d.site a b (digits_value 10 (word words 2)) })

-- the faults of a new lane, which is two links
abbrev pub lane_rows : BuiltSite → CellNo → CellNo → List Row
lane_rows site a b =
    row (nat_lt MAX_LINKS (link_total site.links + 2)) S13
    ∷ row ((a.0 == b.0) || (has_link site a b || has_link site b a)) S15
    ∷ []

-- `lane CELL CELL COST`: a link each way
abbrev pub lane_line : Declared → List (List ℕ) → Result Declared Code
lane_line d words =
    let a = cell_at d.names (word words 0) in
    let b = cell_at d.names (word words 1) in
    let cost = digits_value 10 (word words 2) in
    judged (ends_rows d.names words ++ lane_rows d.site a b)
    (record d { site = linked (linked d.site a b cost) b a cost })
