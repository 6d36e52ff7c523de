-- Scenarios, as contracts see them.
use Rattle.std.specs.Prelude.{◌≡◌, ℕ, ◌<◌, ◌≤◌, Bool, false, List, [], length, slice_index_or, All, AllPairs}
use Rattle.std.specs.List.{list_any}
use Rattle.fleet_base.specs.declared.limits.TheConstants.{MAX_LEGS, MAX_ROBOTS}
use Rattle.fleet_base.specs.declared.numbers.CellNo.{CellNo}
use Rattle.fleet_model.specs.Sites.{footprint_of, is_kept_from}
use Rattle.fleet_names.specs.Names.{Named, count_of}
use Rattle.fleet_names.specs.Things.{is_area, is_cell, is_crossing, is_robot}
use Rattle.site_map.specs.Built.{BuiltSite}
use Rattle.site_map.specs.Claims.{site_of}
use Rattle.site_map.specs.Goals.{IsGoal}
use Rattle.site_map.specs.declared.goal.Goal.{Goal}

-- a site, the names of its things and of the robots, where each robot starts, and each robot's legs
pub record ScenarioValue : Type 0 where
  pub site : BuiltSite
  pub names : Named
  pub starts : List CellNo
  pub missions : List (List Goal)

-- the names name just the site's cells, crossings and areas, and so many robots
pub record NamesAll (names : Named) (site : BuiltSite) (count : ℕ) : Type 0 where
  pub cells : count_of is_cell names ≡ site.cells
  pub crossings : count_of is_crossing names ≡ length site.crossings
  pub areas : count_of is_area names ≡ length site.areas
  pub robots : count_of is_robot names ≡ count

-- the footprints of the two cells conflict
abbrev pub do_conflict : BuiltSite → CellNo → CellNo → Bool
do_conflict site a b = list_any (λ c. is_kept_from (site_of site) c b) (footprint_of (site_of site) a)

-- the legs of robot r
abbrev pub legs_of : List (List Goal) → ℕ → List Goal
legs_of missions r = slice_index_or missions r []

-- few legs, each with a goal in the site
pub record IsMission (site : BuiltSite) (legs : List Goal) : Type 0 where
  pub few : length legs ≤ MAX_LEGS
  pub goals : All (IsGoal site) legs

-- 1 to 64 robots start in cells of the site whose footprints don't conflict, the names name just what is there, and each robot has a mission
pub record IsScenario (s : ScenarioValue) : Type 0 where
  pub some : 1 ≤ length s.starts
  pub few : length s.starts ≤ MAX_ROBOTS
  pub starts : All (λ c. c.0 < s.site.cells) s.starts
  pub apart : AllPairs (λ a b. do_conflict s.site a b ≡ false) s.starts
  pub named : NamesAll s.names s.site (length s.starts)
  pub missions : length s.missions ≡ length s.starts
  pub legs : All (IsMission s.site) s.missions
