-- How a site is kept.
use Rattle.std.specs.Prelude.{◌≡◌, ℕ, ◌+◌, ◌<◌, ◌≤◌, Bool, false, not, ◌&&◌, ◌==◌, if◌then◌else◌, List, [], ◌∷◌, ◌++◌, map, length, take, Some, None, slice_index, slice_index_or, All}
use Rattle.std.specs.List.{list_any}
use Rattle.std.specs.Option.{unwrap_or}
use Rattle.std.specs.FinSet as set
use Rattle.std.specs.Ordering.{nat_cmp}
use Rattle.fleet_model.specs.Lists.{has_cell}
use Rattle.fleet_base.specs.declared.limits.TheConstants.{MAX_CELLS, MAX_COST, MAX_LINKS, MAX_CROSSINGS, MAX_AREAS}
use Rattle.fleet_base.specs.declared.numbers.CellNo.{CellNo}
use Rattle.fleet_base.specs.declared.numbers.Link.{Link}
use Rattle.site_map.specs.declared.refused.TheConstants.{MAX_CROSSING_CLAIMS}
use Rattle.site_map.specs.declared.places.Place.{Place}
use Rattle.site_map.specs.declared.places.Places.{Places}
use Rattle.site_map.specs.declared.places.Places.TheVariants.{Free, One, Two}
use Rattle.site_map.specs.Cells.{CellsRise, LinksRise}
use Rattle.site_map.specs.Crossings.{AreApart, BuiltCrossing, completed, crossing_claims, flow_of, in_flow, IsFlow}
use Rattle.site_map.specs.Built.{BuiltSite, crossing_at, link_total}

-- the places as a list
abbrev pub places_list : Places → List Place
places_list Free = []
places_list (One place) = place ∷ []
places_list (Two place other) = place ∷ other ∷ []

-- the place of the cell in crossing k: its flow line, if it is in one
abbrev pub place_in : ℕ → BuiltCrossing → CellNo → Place
place_in k x c = record { crossing = k; line = if in_flow x.flows c then Some (flow_of x c) else None }

-- the places of the cell in these crossings, which are numbered from k on
abbrev pub places_from : ℕ → List BuiltCrossing → CellNo → List Place
places_from k [] c = []
places_from k (x ∷ xs) c =
    let later = places_from (k + 1) xs c in
    if has_cell x.cells c then place_in k x c ∷ later else later

-- the places of a cell with one in a new crossing, where the cell is in it
abbrev pub entered : Bool → ℕ → List Place → List Place
entered is_in k places = if is_in then places ++ record { crossing = k; line = None } ∷ [] else places

-- the place with a flow line, where it is in crossing k
abbrev pub marked_place : ℕ → ℕ → Place → Place
marked_place k line place = if place.crossing == k then record { crossing = k; line = Some line } else place

-- the places of a cell with a flow line in crossing k, where the cell is in the line
abbrev pub marked : Bool → ℕ → ℕ → List Place → List Place
marked is_in k line places = if is_in then map (marked_place k line) places else places

-- how a crossing is kept: it has a cell, the free cells are those in no line, and the rest is there where one of them is
pub record IsCrossing (cells : List CellNo) (lines : List (List CellNo)) (free : set.FinSet nat_cmp) (has_rest : Bool) : Type 0 where
  pub some : 0 < length cells
  pub known : All (λ c. c.0 < 1024) cells
  pub free_cells : (c : CellNo) → set.contains free c.0 ≡ (has_cell cells c && not (in_flow lines c))
  pub rest : has_rest ≡ list_any (λ c. not (in_flow lines c)) cells

-- the links ascend, lead to some of the first n cells, and cost something
pub record AreLinks (n : ℕ) (links : List Link) : Type 0 where
  pub rise : LinksRise 0 links
  pub known : All (λ l. l.to.0 < n) links
  pub costs : All (λ l. (1 ≤ l.cost) × (l.cost ≤ MAX_COST)) links

-- the cells are some of the first n, at least one, and ascend
pub record AreCells (n : ℕ) (cells : List CellNo) : Type 0 where
  pub rise : CellsRise 0 cells
  pub known : All (λ c. c.0 < n) cells
  pub some : 0 < length cells

-- the flow lines of a crossing are flows of its cells, and apart
pub record AreLines (crossing : BuiltCrossing) : Type 0 where
  pub flows : All (IsFlow crossing.cells) crossing.flows
  pub apart : AreApart crossing.flows

-- crossing k of these has the claim with this number, the claims of crossings being numbered from 0
pub record IsOwner (crossings : List BuiltCrossing) (claim k : ℕ) : Type 0 where
  pub known : k < length crossings
  pub from : crossing_claims (take k crossings) ≤ claim
  pub upto : claim < crossing_claims (take (k + 1) crossings)

-- the claims of these crossings are those that the tables name: the first claim of each crossing, and the crossing of each claim
pub record AreNumbered (crossings : List BuiltCrossing) (firsts owners : List ℕ) : Type 0 where
  pub firsts_are_all : length firsts ≡ length crossings
  pub owners_are_all : length owners ≡ crossing_claims crossings
  pub begun : (k : ℕ) → k < length crossings → slice_index firsts k ≡ crossing_claims (take k crossings)
  pub owned : (claim : ℕ) → claim < length owners → IsOwner crossings claim (slice_index owners claim)

-- how a site is kept: its parts are within their limits, and the tables say what they should
pub record IsKept (links : List (List Link)) (link_count : ℕ) (places : List Places) (crossings : List BuiltCrossing) (areas : List (List CellNo)) (firsts owners : List ℕ) : Type 0 where
  pub few_cells : length links ≤ MAX_CELLS
  pub few_links : link_count ≤ MAX_LINKS
  pub few_crossings : length crossings ≤ MAX_CROSSINGS
  pub few_areas : length areas ≤ MAX_AREAS
  pub few_claims : crossing_claims (map completed crossings) ≤ MAX_CROSSING_CLAIMS
  pub counted : link_count ≡ link_total links
  pub linked : All (AreLinks (length links)) links
  pub unlooped : (c : ℕ) → All (λ l. (l.to.0 == c) ≡ false) (slice_index_or links c [])
  pub crossed : All (λ x. AreCells (length links) x.cells) crossings
  pub lined : All AreLines crossings
  pub gathered : All (AreCells (length links)) areas
  pub placed : length places ≡ length links
  pub found : (c : CellNo) → c.0 < length links → places_list (slice_index_or places c.0 Free) ≡ places_from 0 crossings c
  pub numbered : AreNumbered (map completed crossings) firsts owners

-- the claim of a cell with this place: behind the cells and the claims of the crossings before, by its flow
abbrev pub claim_at : BuiltSite → Place → ℕ
claim_at site place = site.cells + crossing_claims (take place.crossing (map completed site.crossings)) + unwrap_or place.line (length (crossing_at site place.crossing).flows)

-- the place is in a crossing of the site, and in one of its lines or none
pub record IsPlace (site : BuiltSite) (place : Place) : Type 0 where
  pub known : place.crossing < length site.crossings
  pub line : unwrap_or place.line (length (crossing_at site place.crossing).flows) ≤ length (crossing_at site place.crossing).flows
