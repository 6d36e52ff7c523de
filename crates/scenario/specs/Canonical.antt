-- The one text in which a scenario is printed.
use Rattle.std.specs.Prelude.{ℕ, ◌==◌, if◌then◌else◌, List, [], ◌∷◌, ◌++◌, length, map, filter, slice_index_or, codes, flat_map}
use Rattle.std.specs.Fmt.{decimal}
use Rattle.std.specs.List.{list_all}
use Rattle.std.specs.Option.{unwrap_or}
use Rattle.fleet_base.specs.declared.numbers.CellNo.{CellNo}
use Rattle.fleet_base.specs.declared.numbers.Link.{Link}
use Rattle.fleet_model.specs.Lists.{numbers_below}
use Rattle.fleet_model.specs.Sites.{links_from}
use Rattle.fleet_names.specs.declared.thing.Thing.{Thing}
use Rattle.fleet_names.specs.declared.thing.Thing.TheVariants as things
use Rattle.fleet_names.specs.Names.{Named, name_of}
use Rattle.site_map.specs.Built.{BuiltSite, area_at, crossing_at}
use Rattle.site_map.specs.Claims.{site_of}
use Rattle.site_map.specs.Crossings.{BuiltCrossing, flow_of}
use Rattle.site_map.specs.declared.goal.Goal.{Goal}
use Rattle.site_map.specs.declared.goal.Goal.TheVariants as goals
use Rattle.scenario.specs.Scenarios.{ScenarioValue, legs_of}

-- a line with one space before each word but the first, which is the keyword, and a line feed
abbrev pub line : List ℕ → List (List ℕ) → List ℕ
line keyword words = keyword ++ (flat_map (λ word. 32 ∷ word) words ++ 10 ∷ [])

-- the name of a thing
abbrev pub name : Named → Thing → List ℕ
name names thing = unwrap_or (name_of names thing) []

-- the names of cells
abbrev pub cell_names : Named → List CellNo → List (List ℕ)
cell_names names cells = map (λ c. name names (things.Cell c.0)) cells

-- `fleet 2` where a crossing has flows, else `fleet 1`
abbrev pub header_text : BuiltSite → List ℕ
header_text site = line (codes "fleet") ((if list_all (λ x. length x.flows == 0) site.crossings then codes "1" else codes "2") ∷ [])

-- the line of cell k
abbrev pub cell_text : Named → ℕ → List ℕ
cell_text names k = line (codes "cell") (name names (things.Cell k) ∷ [])

-- the cells of a crossing whose flow has this number
abbrev pub cells_of_flow : BuiltCrossing → ℕ → List CellNo
cells_of_flow crossing flow = filter (λ c. flow_of crossing c == flow) crossing.cells

-- the line of a flow of crossing k
abbrev pub flow_text : Named → ℕ → BuiltCrossing → ℕ → List ℕ
flow_text names k crossing flow = line (codes "flow") (name names (things.Crossing k) ∷ cell_names names (cells_of_flow crossing flow))

-- the lines of crossing k: its own, and one for each of its flows
abbrev pub crossing_text : Named → BuiltSite → ℕ → List ℕ
crossing_text names site k =
    let crossing = crossing_at site k in
    line (codes "crossing") (name names (things.Crossing k) ∷ cell_names names crossing.cells)
    ++ flat_map (flow_text names k crossing) (numbers_below (length crossing.flows))

-- the line of area k
abbrev pub area_text : Named → BuiltSite → ℕ → List ℕ
area_text names site k = line (codes "area") (name names (things.Area k) ∷ cell_names names (area_at site k))

-- the line of a link from cell k
abbrev pub link_text : Named → ℕ → Link → List ℕ
link_text names k link = line (codes "link") (name names (things.Cell k) ∷ name names (things.Cell link.to.0) ∷ decimal link.cost ∷ [])

-- a line for each link from cell k
abbrev pub links_text : Named → BuiltSite → ℕ → List ℕ
links_text names site k = flat_map (link_text names k) (links_from (site_of site) (record { 0 = k }))

-- the line of robot r
abbrev pub robot_text : Named → List CellNo → ℕ → List ℕ
robot_text names starts r = line (codes "robot") (name names (things.Robot r) ∷ name names (things.Cell (slice_index_or starts r (record { 0 = 0 })).0) ∷ [])

-- the thing that a goal names
abbrev pub goal_thing : Goal → Thing
goal_thing (goals.Cell c) = things.Cell c.0
goal_thing (goals.Area k) = things.Area k

-- the line of a leg
abbrev pub leg_text : Named → Goal → List ℕ
leg_text names goal = line (codes "visit") (name names (goal_thing goal) ∷ [])

-- the mission of robot r with a line for each leg; nothing for a mission without a leg
abbrev pub legs_text : Named → ℕ → List Goal → List ℕ
legs_text names r [] = []
legs_text names r (leg ∷ legs) = line (codes "mission") (name names (things.Robot r) ∷ []) ++ (flat_map (leg_text names) (leg ∷ legs) ++ line (codes "done") [])

abbrev pub mission_text : Named → List (List Goal) → ℕ → List ℕ
mission_text names missions r = legs_text names r (legs_of missions r)

-- what is printed for each of the first n things of a kind
abbrev pub each : (ℕ → List ℕ) → ℕ → List ℕ
each text n = flat_map text (numbers_below n)

-- the canonical text of a scenario
unfoldable pub canonical_text : ScenarioValue → List ℕ
canonical_text s =
    header_text s.site
    ++ (each (cell_text s.names) s.site.cells
    ++ (each (crossing_text s.names s.site) (length s.site.crossings)
    ++ (each (area_text s.names s.site) (length s.site.areas)
    ++ (each (links_text s.names s.site) s.site.cells
    ++ (each (robot_text s.names s.starts) (length s.starts)
    ++ (each (mission_text s.names s.missions) (length s.missions)
    ++ line (codes "end") []))))))
