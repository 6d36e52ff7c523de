-- What is answered to a scenario and two words: the text of a least route, or why there is none.
use Rattle.std.specs.Prelude.{ℕ, List, Option, Some, None, Result, Ok, Err}
use Rattle.fleet_model.specs.Lists.{has_cell}
use Rattle.fleet_base.specs.declared.numbers.CellNo.{CellNo}
use Rattle.scenario.specs.Scenarios.{ScenarioValue}
use Rattle.scenario_reader.specs.MissionLines.{goal_named}
use Rattle.scenario_reader.specs.Reading.{scenario_of}
use Rattle.scenario_reader.specs.SiteLines.{cell_named}
use Rattle.site_lines.specs.declared.fault.At.{At}
use Rattle.site_map.specs.Goals.{goal_cells}
use Rattle.site_map.specs.declared.goal.Goal.{Goal}
use Rattle.fleet_route.specs.Texts.{route_text}
use Rattle.fleet_route.specs.declared.refused.Refusal.{Refusal}
use Rattle.fleet_route.specs.declared.refused.Refusal.TheVariants.{Line, UnknownFrom, UnknownTo}

-- the route from what FROM names to what TO names; FROM has to name a cell, then TO a cell or an area
abbrev pub told : ScenarioValue → Option CellNo → Option Goal → Result (List ℕ) Refusal
told s None goal = Err UnknownFrom
told s (Some from) None = Err UnknownTo
told s (Some from) (Some goal) = Ok (route_text s.names s.site (has_cell (goal_cells s.site goal)) from)

-- the first bad line of the scenario comes before any fault of the words
abbrev pub told_in : Result ScenarioValue At → List ℕ → List ℕ → Result (List ℕ) Refusal
told_in (Err at) from to = Err (Line at)
told_in (Ok s) from to = told s (cell_named s.names from) (goal_named s.names to)

-- the answer to the text of a scenario and the words FROM and TO
abbrev pub route_answer : List ℕ → List ℕ → List ℕ → Result (List ℕ) Refusal
route_answer text from to = told_in (scenario_of text) from to
