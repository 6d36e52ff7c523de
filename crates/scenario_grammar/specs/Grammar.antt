-- What the text of a scenario is, and which scenario it says: a grammar with what each line means. It knows of no codes, and not how a text is read.
use Rattle.std.specs.Prelude.{◌≡◌, ◌≢◌, ◌⊎◌, ℕ, zero, suc, ◌+◌, ◌<◌, ◌≤◌, Bool, true, false, List, [], ◌∷◌, ◌++◌, codes, filter, length, map, slice_index_or, slice_set, Some, None}
use Rattle.std.specs.List.{AllByRecursion, AllZip}
use Rattle.std.specs.Str.Parse.{digits_value}
use Rattle.fleet_model.specs.Lists.{has_cell}
use Rattle.fleet_base.specs.declared.limits.TheConstants.{MAX_AREAS, MAX_CELLS, MAX_COST, MAX_CROSSINGS, MAX_CROSSINGS_OF_CELL, MAX_LEGS, MAX_LINE, MAX_LINKS, MAX_ROBOTS}
use Rattle.fleet_base.specs.declared.numbers.CellNo.{CellNo}
use Rattle.fleet_names.specs.declared.thing.Thing.{Thing}
use Rattle.fleet_names.specs.declared.thing.Thing.TheVariants as things
use Rattle.fleet_names.specs.Names.{Named, count_of, is_name, thing_of}
use Rattle.fleet_names.specs.Things.{is_area, is_cell, is_crossing, is_robot}
use Rattle.site_lines.specs.Lines.{input_lines}
use Rattle.site_lines.specs.Numbers.{is_number}
use Rattle.site_lines.specs.Words.{before_comment, words_of}
use Rattle.site_map.specs.Built.{BuiltSite, completed_site, crossing_at, crossings_with, link_total, links_at, with_area, with_cell, with_crossing, with_flow, with_link}
use Rattle.site_map.specs.Crossings.{completed, crossing_claims, in_flow}
use Rattle.site_map.specs.declared.goal.Goal.{Goal}
use Rattle.site_map.specs.declared.goal.Goal.TheVariants as goals
use Rattle.site_map.specs.declared.refused.TheConstants.{MAX_CROSSING_CLAIMS}
use Rattle.scenario.specs.Scenarios.{ScenarioValue, do_conflict}
use Rattle.scenario_reader.specs.Reading.{FrontValue}
use Rattle.scenario_reader.specs.States.{Declared, nothing_declared, scenario_in}

-- a word, by its bytes
abbrev pub Word : Type 0
Word = List ℕ

-- a line, by its words
abbrev pub Line : Type 0
Line = List Word

-- a name that nothing has yet
pub record IsNew (names : Named) (word : Word) : Type 0 where
  pub name : is_name word ≡ true
  pub free : thing_of names word ≡ None

-- the name of this thing
pub record Denotes (names : Named) (word : Word) (thing : Thing) : Type 0 where
  pub name : is_name word ≡ true
  pub is : thing_of names word ≡ Some thing

-- the names of these cells, each in its place
abbrev pub DenoteCells : Named → List Word → List CellNo → Type 0
DenoteCells names words cells = AllZip (λ word cell. Denotes names word (things.Cell cell.0)) words cells

-- 1 to 9 digits that say this number, which is from low to high
pub record IsNumber (low high : ℕ) (word : Word) (number : ℕ) : Type 0 where
  pub digits : is_number 9 word ≡ true
  pub value : number ≡ digits_value 10 word
  pub at_least : low ≤ number
  pub at_most : number ≤ high

-- no cell stands twice
abbrev pub Differ : List CellNo → Type 0
Differ [] = Unit {0}
Differ (c ∷ cs) = AllByRecursion (λ other. other ≢ c) cs × Differ cs

-- the name is given to this thing
abbrev pub named : Named → Word → Thing → Named
named names word thing = names ++ (word, thing) ∷ []

-- one more cell of this name
abbrev pub with_named_cell : Declared → Word → Declared
with_named_cell d name = record d { site = with_cell d.site; names = named d.names name (things.Cell (count_of is_cell d.names)) }

-- new names of cells, one cell after the other, with room for each
abbrev pub DeclareCells : Declared → List Word → Declared → Type 0
DeclareCells d [] e = d ≡ e
DeclareCells d (name ∷ names) e = IsNew d.names name × (d.site.cells < MAX_CELLS) × DeclareCells (with_named_cell d name) names e

-- the claims of the site's crossings are not too many, the rest of each being its last flow
abbrev pub HasFewClaims : BuiltSite → Type 0
HasFewClaims site = crossing_claims (map completed site.crossings) ≤ MAX_CROSSING_CLAIMS

-- the names of one or more cells, none of them twice
pub record AreCells (names : Named) (words : List Word) (cells : List CellNo) : Type 0 where
  pub some : 1 ≤ length words
  pub denote : DenoteCells names words cells
  pub differ : Differ cells

-- a new crossing of these cells, each of which is in at most one so far
pub record IsCrossing (d : Declared) (name : Word) (words : List Word) (cells : List CellNo) : Type 0 where
  pub new : IsNew d.names name
  pub members : AreCells d.names words cells
  pub room : length d.site.crossings < MAX_CROSSINGS
  pub claims : HasFewClaims (with_crossing d.site cells)
  pub each : AllByRecursion (λ c. crossings_with d.site.crossings c < MAX_CROSSINGS_OF_CELL) cells

-- one more crossing of this name and these cells
abbrev pub with_named_crossing : Declared → Word → List CellNo → Declared
with_named_crossing d name cells = record d { site = with_crossing d.site cells; names = named d.names name (things.Crossing (count_of is_crossing d.names)) }

-- a new area of these cells
pub record IsArea (d : Declared) (name : Word) (words : List Word) (cells : List CellNo) : Type 0 where
  pub new : IsNew d.names name
  pub members : AreCells d.names words cells
  pub room : length d.site.areas < MAX_AREAS

-- one more area of this name and these cells
abbrev pub with_named_area : Declared → Word → List CellNo → Declared
with_named_area d name cells = record d { site = with_area d.site cells; names = named d.names name (things.Area (count_of is_area d.names)) }

-- a new flow of crossing k: of cells of the crossing that are in no flow yet
pub record IsFlow (d : Declared) (name : Word) (words : List Word) (k : ℕ) (cells : List CellNo) : Type 0 where
  pub crossing : Denotes d.names name (things.Crossing k)
  pub members : AreCells d.names words cells
  pub claims : HasFewClaims (with_flow d.site k cells)
  pub each : AllByRecursion (λ c. (has_cell (crossing_at d.site k).cells c ≡ true) × (in_flow (crossing_at d.site k).flows c ≡ false)) cells

-- two cells that differ, and a cost
pub record AreEnds (names : Named) (from to cost : Word) (a b : CellNo) (n : ℕ) : Type 0 where
  pub first : Denotes names from (things.Cell a.0)
  pub second : Denotes names to (things.Cell b.0)
  pub number : IsNumber 1 MAX_COST cost n
  pub differ : a ≢ b

-- no link leads from a to b
abbrev pub HasNoLink : BuiltSite → CellNo → CellNo → Type 0
HasNoLink site a b = AllByRecursion (λ link. link.to ≢ b) (links_at site a)

-- the site with a link from a to b
abbrev pub linked : BuiltSite → CellNo → CellNo → ℕ → BuiltSite
linked site a b cost = with_link site a (record { to = b; cost = cost })

-- a new link from a to b
pub record IsLink (d : Declared) (from to cost : Word) (a b : CellNo) (n : ℕ) : Type 0 where
  pub ends : AreEnds d.names from to cost a b n
  pub room : link_total d.site.links + 1 ≤ MAX_LINKS
  pub there : HasNoLink d.site a b

-- a new lane: two new links, one each way
pub record IsLane (d : Declared) (from to cost : Word) (a b : CellNo) (n : ℕ) : Type 0 where
  pub ends : AreEnds d.names from to cost a b n
  pub room : link_total d.site.links + 2 ≤ MAX_LINKS
  pub there : HasNoLink d.site a b
  pub back : HasNoLink d.site b a

-- a site line, and what is declared behind it; `flow` is one in version 2 alone
pub data SiteLine (flows : Bool) (d : Declared) : Line → Declared → Type 0 where
  Cells : {name : Word} {names : List Word} {e : Declared} → DeclareCells d (name ∷ names) e → SiteLine flows d (codes "cell" ∷ name ∷ names) e
  Crossing : {name : Word} {words : List Word} {cells : List CellNo} → IsCrossing d name words cells → SiteLine flows d (codes "crossing" ∷ name ∷ words) (with_named_crossing d name cells)
  Area : {name : Word} {words : List Word} {cells : List CellNo} → IsArea d name words cells → SiteLine flows d (codes "area" ∷ name ∷ words) (with_named_area d name cells)
  Flow : {name : Word} {words : List Word} {k : ℕ} {cells : List CellNo} → flows ≡ true → IsFlow d name words k cells → SiteLine flows d (codes "flow" ∷ name ∷ words) (record d { site = with_flow d.site k cells })
  Link : {from to cost : Word} {a b : CellNo} {n : ℕ} → IsLink d from to cost a b n → SiteLine flows d (codes "link" ∷ from ∷ to ∷ cost ∷ []) (record d { site = linked d.site a b n })
  Lane : {from to cost : Word} {a b : CellNo} {n : ℕ} → IsLane d from to cost a b n → SiteLine flows d (codes "lane" ∷ from ∷ to ∷ cost ∷ []) (record d { site = linked (linked d.site a b n) b a n })

-- site lines in any order
pub data SiteLines (flows : Bool) : Declared → List Line → Declared → Type 0 where
  NoMore : {d : Declared} → SiteLines flows d [] d
  More : {d e f : Declared} {line : Line} {lines : List Line} → SiteLine flows d line e → SiteLines flows e lines f → SiteLines flows d (line ∷ lines) f

-- a new robot, whose start is in the way of no earlier one
pub record IsRobot (d : Declared) (name start : Word) (cell : CellNo) : Type 0 where
  pub new : IsNew d.names name
  pub place : Denotes d.names start (things.Cell cell.0)
  pub room : length d.starts < MAX_ROBOTS
  pub apart : AllByRecursion (λ earlier. do_conflict d.site earlier cell ≡ false) d.starts

-- one more robot, with no mission yet
abbrev pub with_named_robot : Declared → Word → CellNo → Declared
with_named_robot d name cell = record d {
  names = named d.names name (things.Robot (count_of is_robot d.names));
  starts = d.starts ++ cell ∷ [];
  missions = d.missions ++ None ∷ [];
}

-- a cell or an area, as a goal
abbrev pub goal_thing : Goal → Thing
goal_thing (goals.Cell c) = things.Cell c.0
goal_thing (goals.Area n) = things.Area n

-- these legs so many times
abbrev pub times : ℕ → List Goal → List Goal
times zero legs = []
times (suc n) legs = legs ++ times n legs

-- the lines in a mission, with blocks nested at most so deep, and their legs written out
pub data Legs (names : Named) : ℕ → List Line → List Goal → Type 0 where
  NoMore : {deep : ℕ} → Legs names deep [] []
  Visit : {deep : ℕ} {word : Word} {goal : Goal} {lines : List Line} {legs : List Goal} → Denotes names word (goal_thing goal) → Legs names deep lines legs
      → Legs names deep ((codes "visit" ∷ word ∷ []) ∷ lines) (goal ∷ legs)
  Repeat : {deep : ℕ} {word : Word} {n : ℕ} {block lines : List Line} {inner legs : List Goal} → IsNumber 1 64 word n → Legs names deep block inner → Legs names (suc deep) lines legs
      → Legs names (suc deep) ((codes "repeat" ∷ word ∷ []) ∷ block ++ (codes "again" ∷ []) ∷ lines) (times n inner ++ legs)

-- the first mission of the robot of this name: at most 64 legs, on these lines
pub record IsMission (d : Declared) (name : Word) (robot : ℕ) (lines : List Line) (legs : List Goal) : Type 0 where
  pub denotes : Denotes d.names name (things.Robot robot)
  pub first : slice_index_or d.missions robot None ≡ None
  pub inside : Legs d.names 4 lines legs
  pub few : length legs ≤ MAX_LEGS

-- robots and missions in any order; a mission ends with `done`
pub data FleetLines : Declared → List Line → Declared → Type 0 where
  NoMore : {d : Declared} → FleetLines d [] d
  Robot : {d e : Declared} {name start : Word} {cell : CellNo} {lines : List Line} → IsRobot d name start cell → FleetLines (with_named_robot d name cell) lines e
      → FleetLines d ((codes "robot" ∷ name ∷ start ∷ []) ∷ lines) e
  Mission : {d e : Declared} {name : Word} {robot : ℕ} {inside lines : List Line} {legs : List Goal} → IsMission d name robot inside legs
      → FleetLines (record d { missions = slice_set d.missions robot (Some legs) }) lines e
      → FleetLines d ((codes "mission" ∷ name ∷ []) ∷ inside ++ (codes "done" ∷ []) ∷ lines) e

-- `fleet 1`, and `fleet 2`, which may have flows
pub data Header : Bool → Line → Type 0 where
  One : Header false (codes "fleet" ∷ codes "1" ∷ [])
  Two : Header true (codes "fleet" ∷ codes "2" ∷ [])

-- these lines are a header, site lines, robots and missions with one robot at least, and `end`, and say this scenario
pub record SaysScenario (lines : List Line) (s : ScenarioValue) : Type 0 where
  pub flows : Bool
  pub header : Line
  pub site : List Line
  pub fleet : List Line
  pub built : Declared
  pub whole : Declared
  pub split : lines ≡ header ∷ site ++ (fleet ++ (codes "end" ∷ []) ∷ [])
  pub headed : Header flows header
  pub built_by : SiteLines flows nothing_declared site built
  pub whole_by : FleetLines (record built { site = completed_site built.site }) fleet whole
  pub some : 1 ≤ length whole.starts
  pub scenario : scenario_in whole ≡ s

-- a tab, or 32 to 126
abbrev pub IsPlain : ℕ → Type 0
IsPlain byte = (byte ≡ 9) ⊎ ((32 ≤ byte) × (byte ≤ 126))

-- at most 65,536 bytes, which are plain up to the comment
pub record IsInputLine (line : List ℕ) : Type 0 where
  pub short : length line ≤ MAX_LINE
  pub plain : AllByRecursion IsPlain (before_comment line)

-- the line isn't blank
abbrev pub has_words : Line → Bool
has_words [] = false
has_words (word ∷ words) = true

-- the lines that aren't blank, by their words
abbrev pub worded : List (List ℕ) → List Line
worded lines = filter has_words (map words_of lines)

-- the text says this scenario: each line is one of an input, and those that aren't blank say it
pub record IsText (text : List ℕ) (s : ScenarioValue) : Type 0 where
  pub lines : AllByRecursion IsInputLine (input_lines text)
  pub says : SaysScenario (worded (input_lines text)) s

-- the last byte is a line feed
abbrev pub EndsInFeed : List ℕ → Type 0
EndsInFeed text = (line : List ℕ) × (text ≡ line ++ 10 ∷ [])

-- the last line of the text is `end`
pub record EndsInEnd (text : List ℕ) : Type 0 where
  pub before : List (List ℕ)
  pub last : List ℕ
  pub lines : input_lines text ≡ before ++ last ∷ []
  pub words : words_of last ≡ codes "end" ∷ []

-- the text begins with this scenario: with a front of whole lines, the last of which is `end`, that says it; how many bytes the front has, and how many lines
pub record IsFront (text : List ℕ) (f : FrontValue) : Type 0 where
  pub front : List ℕ
  pub behind : List ℕ
  pub split : text ≡ front ++ behind
  pub whole : (behind ≡ []) ⊎ EndsInFeed front
  pub says : IsText front f.scenario
  pub closes : EndsInEnd front
  pub used : f.used ≡ length front
  pub lines : f.lines ≡ length (input_lines front)
