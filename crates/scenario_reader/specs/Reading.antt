-- How the text of a scenario is read: what each line makes of what was read before, and the scenario in the end.
use Rattle.std.specs.Prelude.{ℕ, zero, suc, ◌+◌, ◌||◌, not, Bool, true, false, if◌then◌else◌, List, [], ◌∷◌, codes, Option, Some, None, Result, Ok, Err}
use Rattle.std.specs.Str.{bytes_eq}
use Rattle.fleet_names.specs.Names.{Named}
use Rattle.site_lines.specs.declared.fault.At.{At}
use Rattle.site_lines.specs.declared.fault.Code.{Code}
use Rattle.site_lines.specs.declared.fault.Code.TheVariants.{S1, S2, S3, S4, S21, S22}
use Rattle.site_lines.specs.Lines.{is_feed, is_too_long, lines_of, without_return}
use Rattle.site_lines.specs.Readings.{read_from}
use Rattle.site_lines.specs.Words.{has_bad_byte, words_of}
use Rattle.site_map.specs.Built.{completed_site}
use Rattle.scenario.specs.Scenarios.{ScenarioValue}
use Rattle.scenario_reader.specs.declared.keyword.Keyword.{Keyword}
use Rattle.scenario_reader.specs.declared.keyword.Keyword.TheVariants as keywords
use Rattle.scenario_reader.specs.declared.keyword.Keyword.TheVariants.{Site, Robot, Leg, Done, End}
use Rattle.scenario_reader.specs.declared.keyword.LegWord.{LegWord}
use Rattle.scenario_reader.specs.declared.keyword.LegWord.TheVariants.{Visit, Repeat, Again}
use Rattle.scenario_reader.specs.declared.keyword.SiteWord.{SiteWord}
use Rattle.scenario_reader.specs.declared.keyword.SiteWord.TheVariants.{Cell, Crossing, Area, Flow, Link, Lane}
use Rattle.scenario_reader.specs.FleetLines.{end_line, mission_line, robot_line}
use Rattle.scenario_reader.specs.Keywords.{keyword_of}
use Rattle.scenario_reader.specs.MissionLines.{again_line, done_line, repeat_line, visit_line}
use Rattle.scenario_reader.specs.SiteLines.{area_line, cell_line, crossing_line, flow_line, lane_line, link_line}
use Rattle.scenario_reader.specs.States.{Declared, Mission, State, AtHeader, AmongSite, AmongRobots, InMission, Ended, nothing_declared, scenario_in}
use Rattle.scenario_reader.specs.Tables.{judged, mapped, row}

-- `fleet 1`, or `fleet 2`, which may have flows
abbrev pub header_line : List ℕ → List (List ℕ) → Result State Code
header_line keyword (version ∷ []) =
    if bytes_eq keyword (codes "fleet") then
    (if bytes_eq version (codes "1") then Ok (AmongSite false nothing_declared) else
    if bytes_eq version (codes "2") then Ok (AmongSite true nothing_declared) else Err S3)
    else Err S3
header_line keyword [] = Err S3
header_line keyword (version ∷ other ∷ more) = Err S3

-- a line among the robots and missions
abbrev pub fleet_line : Declared → Option Keyword → List (List ℕ) → Result State Code
fleet_line d None words = Err S4
fleet_line d (Some (Site word)) words = Err S4
fleet_line d (Some Robot) words = mapped AmongRobots (robot_line d words)
fleet_line d (Some keywords.Mission) words = mapped (InMission d) (mission_line d words)
fleet_line d (Some (Leg word)) words = Err S4
fleet_line d (Some Done) words = Err S4
fleet_line d (Some End) words = mapped Ended (end_line d words)

-- what a site line declares
abbrev pub declared_by : Declared → SiteWord → List (List ℕ) → Result Declared Code
declared_by d Cell words = cell_line d words
declared_by d Crossing words = crossing_line d words
declared_by d Area words = area_line d words
declared_by d Flow words = flow_line d words
declared_by d Link words = link_line d words
declared_by d Lane words = lane_line d words

-- the site is closed: the rest of each crossing is its last flow
abbrev pub closed : Declared → Declared
closed d = record d { site = completed_site d.site }

abbrev pub is_flow : SiteWord → Bool
is_flow Cell = false
is_flow Crossing = false
is_flow Area = false
is_flow Flow = true
is_flow Link = false
is_flow Lane = false

-- a line among the site lines; one that isn't a site line is the first of the others
abbrev pub site_line : Bool → Declared → Option Keyword → List (List ℕ) → Result State Code
site_line flows d None words = Err S4
site_line flows d (Some (Site word)) words = if flows || not (is_flow word) then mapped (AmongSite flows) (declared_by d word words) else Err S4
site_line flows d (Some Robot) words = fleet_line (closed d) (Some Robot) words
site_line flows d (Some keywords.Mission) words = fleet_line (closed d) (Some keywords.Mission) words
site_line flows d (Some (Leg word)) words = Err S4
site_line flows d (Some Done) words = Err S4
site_line flows d (Some End) words = fleet_line (closed d) (Some End) words

-- what a line adds to a mission
abbrev pub added_by : Named → Mission → LegWord → List (List ℕ) → Result Mission Code
added_by names m Visit words = visit_line names m words
added_by names m Repeat words = repeat_line m words
added_by names m Again words = again_line m words

-- a line in a mission
abbrev pub leg_line : Declared → Mission → Option Keyword → List (List ℕ) → Result State Code
leg_line d m None words = Err S4
leg_line d m (Some (Site word)) words = Err S4
leg_line d m (Some Robot) words = Err S4
leg_line d m (Some keywords.Mission) words = Err S4
leg_line d m (Some (Leg word)) words = mapped (InMission d) (added_by d.names m word words)
leg_line d m (Some Done) words = mapped AmongRobots (done_line d m words)
leg_line d m (Some End) words = Err S4

-- a line with a word
abbrev pub keyword_line : State → List ℕ → List (List ℕ) → Result State Code
keyword_line AtHeader word words = header_line word words
keyword_line (AmongSite flows d) word words = site_line flows d (keyword_of word) words
keyword_line (AmongRobots d) word words = fleet_line d (keyword_of word) words
keyword_line (InMission d m) word words = leg_line d m (keyword_of word) words
keyword_line (Ended d) word words = Err S21

-- a line by its words; a blank one is skipped
abbrev pub worded_line : State → List (List ℕ) → Result State Code
worded_line state [] = Ok state
worded_line state (keyword ∷ words) = keyword_line state keyword words

abbrev pub when_fine : {T : Type 0} → Result Bool Code → Result T Code → Result T Code
when_fine (Ok fine) next = next
when_fine (Err code) next = Err code

-- what a line makes of what was read before it, or its least code
abbrev pub step : State → List ℕ → Result State Code
step state raw =
    let line = without_return raw in
    when_fine (judged (row (is_too_long line) S1 ∷ row (has_bad_byte line) S2 ∷ []) true) (worded_line state (words_of line))

-- the input may end behind `end` alone
abbrev pub done : State → Result ScenarioValue Code
done AtHeader = Err S22
done (AmongSite flows d) = Err S22
done (AmongRobots d) = Err S22
done (InMission d m) = Err S22
done (Ended d) = Ok (scenario_in d)

-- the scenario of a whole text, or its first bad line with its least code
unfoldable pub scenario_of : List ℕ → Result ScenarioValue At
scenario_of text = read_from step done 1 AtHeader (lines_of text)

-- a scenario that something else may follow, how many bytes its lines have with their line feeds, and how many they are
pub record FrontValue : Type 0 where
  pub scenario : ScenarioValue
  pub used : ℕ
  pub lines : ℕ

abbrev pub is_ended : State → Bool
is_ended AtHeader = false
is_ended (AmongSite flows d) = false
is_ended (AmongRobots d) = false
is_ended (InMission d m) = false
is_ended (Ended d) = true

-- the same with the number of lines up to `end`; behind it no line is looked at
abbrev pub front_step : State × ℕ → List ℕ → Result (State × ℕ) Code
front_step s raw = if is_ended s.0 then Ok s else mapped (λ state. (state, s.1 + 1)) (step s.0 raw)

abbrev pub front_done : State × ℕ → Result (ScenarioValue × ℕ) Code
front_done s = mapped (λ scenario. (scenario, s.1)) (done s.0)

-- how many bytes the first so many lines of a text have, with their line feeds
abbrev pub bytes_of_lines : ℕ → List ℕ → ℕ
bytes_of_lines zero text = 0
bytes_of_lines (suc n) [] = 0
bytes_of_lines (suc n) (b ∷ bs) = (if is_feed b then bytes_of_lines n bs else bytes_of_lines (suc n) bs) + 1

-- the scenario that a text begins with, up to its `end` line, or its first bad line with its least code
unfoldable pub front_of : List ℕ → Result FrontValue At
front_of text =
    mapped (λ found. record { scenario = found.0; used = bytes_of_lines found.1 text; lines = found.1 })
    (read_from front_step front_done 1 (AtHeader, 0) (lines_of text))
