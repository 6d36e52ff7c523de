-- What lines that were all accepted have made sure of, and how it is kept.
use Rattle.std.specs.Prelude.{◌≡◌, ℕ, ◌<◌, ◌≤◌, false, List, [], length, All, AllPairs}
use Rattle.std.specs.Option.{unwrap_or}
use Rattle.fleet_base.specs.declared.limits.TheConstants.{MAX_LEGS, MAX_LINKS, MAX_ROBOTS}
use Rattle.fleet_names.specs.Names.{AreDeclared}
use Rattle.site_lines.specs.declared.fault.Code.TheVariants.{S11, S12, S13, S14, S15, S23}
use Rattle.site_map.specs.Built.{BuiltSite, link_total}
use Rattle.site_map.specs.declared.refused.BuildRefused.{BuildRefused}
use Rattle.site_map.specs.declared.refused.BuildRefused.TheVariants as refusals
use Rattle.site_map.specs.declared.goal.Goal.{Goal}
use Rattle.scenario.specs.Scenarios.{do_conflict, IsMission, NamesAll}
use Rattle.scenario_reader.specs.States.{Block, Declared, Mission, State, AtHeader, AmongSite, AmongRobots, InMission, Ended}
use Rattle.scenario_reader.specs.declared.stop.Stop.{Stop}
use Rattle.scenario_reader.specs.declared.stop.Stop.TheVariants as stops

-- the links are counted, and each cell has a row of links
pub record AreCounted (site : BuiltSite) (link_count : ℕ) : Type 0 where
  pub counted : link_count ≡ link_total site.links
  pub few : link_count ≤ MAX_LINKS
  pub rows : length site.links ≡ site.cells
  pub small : site.cells ≤ 1024

-- at most 64 robots start in cells of the site whose footprints don't conflict, the names name just what is there, and the missions are missions
pub record IsSound (d : Declared) : Type 0 where
  pub few : length d.starts ≤ MAX_ROBOTS
  pub starts : All (λ c. c.0 < d.site.cells) d.starts
  pub apart : AllPairs (λ a b. do_conflict d.site a b ≡ false) d.starts
  pub declared : AreDeclared d.names
  pub named : NamesAll d.names d.site (length d.starts)
  pub missions : length d.missions ≡ length d.starts
  pub legs : All (λ m. IsMission d.site (unwrap_or m [])) d.missions

-- no robot is declared yet
abbrev pub IsBare : Declared → Type 0
IsBare d = IsSound d × (d.starts ≡ []) × (d.missions ≡ [])

-- the block stands at most 64 times, and the legs before it are few
pub record IsBlock (site : BuiltSite) (block : Block) : Type 0 where
  pub times : block.times ≤ 64
  pub before : IsMission site block.before

-- the mission is one of a robot, with blocks at most 4 deep
pub record IsOpen (d : Declared) (m : Mission) : Type 0 where
  pub robot : m.robot < length d.starts
  pub legs : IsMission d.site m.legs
  pub blocks : All (IsBlock d.site) m.blocks
  pub deep : length m.blocks ≤ 4

-- the lengths of an open mission and of its blocks are few
pub record IsOpenShort (legs : List Goal) (blocks : List Block) : Type 0 where
  pub legs_few : length legs ≤ MAX_LEGS
  pub each : All (λ b. (b.times ≤ 64) × (length b.before ≤ MAX_LEGS)) blocks
  pub few : length blocks ≤ 4

-- no robot among the site lines, and one at least behind the end
abbrev pub IsReached : State → Type 0
IsReached AtHeader = Unit {0}
IsReached (AmongSite flows d) = IsBare d
IsReached (AmongRobots d) = IsSound d
IsReached (InMission d m) = IsSound d × IsOpen d m
IsReached (Ended d) = IsSound d × (1 ≤ length d.starts)

-- the code of a line that the site's builder refuses
abbrev pub stop_of : BuildRefused → Stop
stop_of refusals.UnknownCell = stops.Bad S11
stop_of refusals.UnknownCrossing = stops.Bad S11
stop_of refusals.Repeated = stops.Bad S12
stop_of refusals.Full = stops.Bad S13
stop_of refusals.TooManyCrossings = stops.Bad S14
stop_of refusals.Foreign = stops.Bad S23
stop_of refusals.SelfLink = stops.Bad S15
stop_of refusals.Linked = stops.Bad S15
stop_of refusals.NoMemory = stops.NoMemory
