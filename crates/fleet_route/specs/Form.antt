-- The form `route`.
use Rattle.std.specs.Prelude.{◌≡◌, ℕ, List, Some, None, Ok, Err, Result}
use Rattle.fleet_base.specs.declared.numbers.CellNo.{CellNo}
use Rattle.scenario.specs.Scenarios.{ScenarioValue}
use Rattle.scenario_reader.specs.MissionLines.{goal_named}
use Rattle.scenario_reader.specs.Reading.{scenario_of, step, done as scenario_done}
use Rattle.scenario_reader.specs.SiteLines.{cell_named}
use Rattle.scenario_reader.specs.States.{AtHeader}
use Rattle.site_lines.specs.declared.fault.At.{At}
use Rattle.site_lines.specs.Lines.{lines_of}
use Rattle.site_lines.specs.Readings.{IsFirstFault}
use Rattle.form_base.specs.declared.fault.Fault.{Fault}
use Rattle.form_base.specs.declared.fault.Fault.TheVariants as faults
use Rattle.form_base.specs.declared.fault.Stop.{Stop}
use Rattle.form_base.specs.declared.fault.Stop.TheVariants.{NoMemory, Refused}
use Rattle.form_base.specs.Forms.{FormSpec, Report, done, of_function}
use Rattle.fleet_route.specs.Answers.{route_answer}
use Rattle.fleet_route.specs.declared.refused.Refusal.{Refusal}
use Rattle.fleet_route.specs.declared.refused.Refusal.TheVariants.{Line, UnknownFrom, UnknownTo}
use Rattle.fleet_route.specs.declared.refused.Untold.{Untold}
use Rattle.fleet_route.specs.declared.refused.Untold.TheVariants as untold

-- a refusal as a fault of the input
abbrev pub fault_of : Refusal → Fault
fault_of (Line at) = faults.Line at
fault_of UnknownFrom = faults.UnknownFrom
fault_of UnknownTo = faults.UnknownTo

abbrev pub stop_of : Untold → Stop
stop_of (untold.Refused refusal) = Refused (fault_of refusal)
stop_of untold.NoMemory = NoMemory

-- the report of a text, or the fault
abbrev pub reported : Result (List ℕ) Refusal → Result Report Fault
reported (Ok text) = Ok (done text)
reported (Err refusal) = Err (fault_of refusal)

-- the input is a scenario in which FROM isn't the name of a cell
pub record LacksFrom (from input : List ℕ) : Type 0 where
  pub scenario : ScenarioValue
  pub is : scenario_of input ≡ Ok scenario
  pub none : cell_named scenario.names from ≡ None

-- the input is a scenario in which FROM is the name of a cell, and TO isn't that of a cell or an area
pub record LacksTo (from to input : List ℕ) : Type 0 where
  pub scenario : ScenarioValue
  pub is : scenario_of input ≡ Ok scenario
  pub cell : CellNo
  pub begins : cell_named scenario.names from ≡ Some cell
  pub none : goal_named scenario.names to ≡ None

-- what a fault says of the input: its first bad line, with the least of its codes, or which word names nothing fitting
abbrev pub IsRouteFault : List ℕ → List ℕ → List ℕ → Fault → Type 0
IsRouteFault from to input (faults.Line at) = IsFirstFault step scenario_done 1 AtHeader (lines_of input) at
IsRouteFault from to input faults.TooBig = ⊥
IsRouteFault from to input faults.UnknownFrom = LacksFrom from input
IsRouteFault from to input faults.UnknownTo = LacksTo from to input
IsRouteFault from to input (faults.Entry entry) = ⊥

-- the form, for the words FROM and TO: one text for each input
abbrev pub route_form : List ℕ → List ℕ → FormSpec
route_form from to = record {
  limit = Some 4194304;
  output = of_function (λ input. reported (route_answer input from to));
  fault = IsRouteFault from to;
  holds = λ input report. Unit {0};
}
