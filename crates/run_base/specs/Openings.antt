-- What a scenario opens with, and what its entries reach.
use Rattle.std.specs.Prelude.{ℕ, ◌==◌, Bool, List, length}
use Rattle.coordinator.specs.Books.{Book, start_book}
use Rattle.fleet_base.specs.declared.entries.Entry.{Entry}
use Rattle.fleet_base.specs.declared.limits.TheConstants.{MAX_CAP}
use Rattle.fleet_model.specs.Journals.{state_after}
use Rattle.fleet_model.specs.Segments.{marks}
use Rattle.fleet_model.specs.States.{State, start_state}
use Rattle.fleet_texts.specs.StateTexts.{state_text}
use Rattle.scenario.specs.Scenarios.{ScenarioValue}
use Rattle.scenario_reader.specs.Reading.{front_done, front_step}
use Rattle.scenario_reader.specs.States.{AtHeader}
use Rattle.site_lines.specs.declared.fault.At.{At}
use Rattle.site_lines.specs.Lines.{lines_of}
use Rattle.site_lines.specs.Readings.{IsFirstFault}
use Rattle.site_map.specs.Claims.{site_of}

-- the state that a scenario's robots start in
abbrev pub opening_of : ScenarioValue → State
opening_of scenario = start_state (site_of scenario.site) scenario.starts MAX_CAP

-- the book of a coordinator that a scenario opens
abbrev pub opened : ScenarioValue → Book
opened scenario = start_book scenario.site scenario.starts MAX_CAP

-- the text of the state that entries reach
abbrev pub reached_text : ScenarioValue → List Entry → List ℕ
reached_text scenario entries = state_text scenario.names scenario.site (state_after (opening_of scenario) entries)

-- the entries open no segment beside the first
abbrev pub is_one_segment : State → List Entry → Bool
is_one_segment s entries = length (marks s entries) == 1

-- the first bad line of the scenario that an input is to begin with, with the least of its codes
abbrev pub IsBadFront : List ℕ → At → Type 0
IsBadFront input at = IsFirstFault front_step front_done 1 (AtHeader, 0) (lines_of input) at
