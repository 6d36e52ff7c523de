-- The lines of a canonical text, and the names in the order in which it declares them.
use Rattle.std.specs.Prelude.{◌==◌, ℕ, if◌then◌else◌, List, [], ◌∷◌, ◌++◌, length, map, slice_index_or, codes, Result, flat_map}
use Rattle.std.specs.Fmt.{decimal}
use Rattle.std.specs.List.{list_all}
use Rattle.fleet_base.specs.declared.numbers.CellNo.{CellNo}
use Rattle.fleet_base.specs.declared.numbers.Link.{Link}
use Rattle.fleet_model.specs.Lists.{numbers_below}
use Rattle.fleet_model.specs.Sites.{links_from}
use Rattle.fleet_names.specs.declared.thing.Thing.{Thing}
use Rattle.fleet_names.specs.declared.thing.Thing.TheVariants as things
use Rattle.fleet_names.specs.Names.{Named}
use Rattle.site_lines.specs.declared.fault.Code.{Code}
use Rattle.site_lines.specs.Readings.{state_behind}
use Rattle.site_map.specs.Built.{BuiltSite, area_at, crossing_at}
use Rattle.site_map.specs.Claims.{site_of}
use Rattle.site_map.specs.Crossings.{BuiltCrossing}
use Rattle.site_map.specs.declared.goal.Goal.{Goal}
use Rattle.scenario.specs.Canonical.{cell_names, cells_of_flow, goal_thing, name}
use Rattle.scenario.specs.Scenarios.{ScenarioValue, legs_of}
use Rattle.scenario_reader.specs.Reading.{step}
use Rattle.scenario_reader.specs.States.{State}

-- the state behind lines that are all accepted, or the code of the first that isn't
abbrev pub steps : State → List (List ℕ) → Result State Code
steps s lines = state_behind step s lines

-- the names of the first n things of a kind, in order
abbrev pub names_of_each : Named → (ℕ → Thing) → ℕ → Named
names_of_each names thing n = map (λ k. (name names (thing k), thing k)) (numbers_below n)

-- the names of the first so many cells, crossings, areas and robots
abbrev pub names_upto : Named → ℕ → ℕ → ℕ → ℕ → Named
names_upto names cells crossings areas robots =
    names_of_each names (λ k. things.Cell k) cells
    ++ (names_of_each names (λ k. things.Crossing k) crossings
    ++ (names_of_each names (λ k. things.Area k) areas
    ++ names_of_each names (λ k. things.Robot k) robots))

-- the names that the site lines declare
abbrev pub canonical_names_of : ScenarioValue → Named
canonical_names_of s = names_upto s.names s.site.cells (length s.site.crossings) (length s.site.areas) 0

-- a line with one space before each word but the first, without its line feed
abbrev pub bare_line : List ℕ → List (List ℕ) → List ℕ
bare_line keyword words = keyword ++ flat_map (λ word. 32 ∷ word) words

abbrev pub header_line_of : BuiltSite → List ℕ
header_line_of site = bare_line (codes "fleet") ((if list_all (λ x. length x.flows == 0) site.crossings then codes "1" else codes "2") ∷ [])

abbrev pub cell_line_of : Named → ℕ → List ℕ
cell_line_of names k = bare_line (codes "cell") (name names (things.Cell k) ∷ [])

abbrev pub flow_line_of : Named → ℕ → BuiltCrossing → ℕ → List ℕ
flow_line_of names k crossing flow = bare_line (codes "flow") (name names (things.Crossing k) ∷ cell_names names (cells_of_flow crossing flow))

-- the line of crossing k, and those of its flows
abbrev pub crossing_lines_of : Named → BuiltSite → ℕ → List (List ℕ)
crossing_lines_of names site k =
    let crossing = crossing_at site k in
    bare_line (codes "crossing") (name names (things.Crossing k) ∷ cell_names names crossing.cells)
    ∷ map (flow_line_of names k crossing) (numbers_below (length crossing.flows))

abbrev pub area_line_of : Named → BuiltSite → ℕ → List ℕ
area_line_of names site k = bare_line (codes "area") (name names (things.Area k) ∷ cell_names names (area_at site k))

abbrev pub link_line_of : Named → ℕ → Link → List ℕ
link_line_of names k link = bare_line (codes "link") (name names (things.Cell k) ∷ name names (things.Cell link.to.0) ∷ decimal link.cost ∷ [])

abbrev pub link_lines_of : Named → BuiltSite → ℕ → List (List ℕ)
link_lines_of names site k = map (link_line_of names k) (links_from (site_of site) (record { 0 = k }))

abbrev pub robot_line_of : Named → List CellNo → ℕ → List ℕ
robot_line_of names starts r = bare_line (codes "robot") (name names (things.Robot r) ∷ name names (things.Cell (slice_index_or starts r (record { 0 = 0 })).0) ∷ [])

abbrev pub leg_line_of : Named → Goal → List ℕ
leg_line_of names goal = bare_line (codes "visit") (name names (goal_thing goal) ∷ [])

-- the lines of the mission of robot r; none where it has no leg
abbrev pub mission_lines_of : Named → ℕ → List Goal → List (List ℕ)
mission_lines_of names r [] = []
mission_lines_of names r (leg ∷ legs) = bare_line (codes "mission") (name names (things.Robot r) ∷ []) ∷ (map (leg_line_of names) (leg ∷ legs) ++ bare_line (codes "done") [] ∷ [])

-- the header and the lines of cells, crossings with flows, areas and links
abbrev pub site_lines_of : ScenarioValue → List (List ℕ)
site_lines_of s =
    header_line_of s.site
    ∷ (map (cell_line_of s.names) (numbers_below s.site.cells)
    ++ (flat_map (crossing_lines_of s.names s.site) (numbers_below (length s.site.crossings))
    ++ (map (area_line_of s.names s.site) (numbers_below (length s.site.areas))
    ++ flat_map (link_lines_of s.names s.site) (numbers_below s.site.cells))))

-- the lines of robots and missions, and the end
abbrev pub fleet_lines_of : ScenarioValue → List (List ℕ)
fleet_lines_of s =
    map (robot_line_of s.names s.starts) (numbers_below (length s.starts))
    ++ (flat_map (λ r. mission_lines_of s.names r (legs_of s.missions r)) (numbers_below (length s.missions))
    ++ bare_line (codes "end") [] ∷ [])
