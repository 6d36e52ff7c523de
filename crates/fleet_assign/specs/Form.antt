-- The form `assign`.
use Rattle.std.specs.Prelude.{◌≡◌, ℕ, List, length, Some, Ok, Err, Result}
use Rattle.site_lines.specs.declared.fault.At.{At}
use Rattle.site_lines.specs.Lines.{lines_of}
use Rattle.site_lines.specs.Readings.{IsFirstFault}
use Rattle.scenario.specs.Scenarios.{ScenarioValue}
use Rattle.scenario_reader.specs.Reading.{scenario_of, step, done as scenario_done}
use Rattle.scenario_reader.specs.States.{AtHeader}
use Rattle.scenario_reader.specs.declared.stop.ReadRefused.{ReadRefused}
use Rattle.scenario_reader.specs.declared.stop.ReadRefused.TheVariants as read
use Rattle.form_base.specs.declared.fault.Fault.{Fault}
use Rattle.form_base.specs.declared.fault.Fault.TheVariants.{Line}
use Rattle.form_base.specs.declared.fault.Stop.{Stop}
use Rattle.form_base.specs.declared.fault.Stop.TheVariants.{NoMemory, Refused}
use Rattle.form_base.specs.Forms.{FormSpec, Report, done, only_line}
use Rattle.task_assign.specs.Assignments.{Pairs, column_at}
use Rattle.task_assign.specs.Pairings.{IsPairing, IsLeastTotal, total_of}
use Rattle.fleet_assign.specs.Tasks.{cost_of}
use Rattle.fleet_assign.specs.Texts.{IsAssigned, assign_text}

-- what may be answered where this was read: the text of the scenario's assignment, or its first bad line
abbrev pub MayAnswer : Result ScenarioValue At → Result Report Fault → Type 0
MayAnswer (Ok s) answer = (text : List ℕ) × IsAssigned s text × (answer ≡ Ok (done text))
MayAnswer (Err at) answer = answer ≡ Err (Line at)

-- the first bad line of the scenario that an input is to be, with the least of its codes
abbrev pub IsBadScenario : List ℕ → At → Type 0
IsBadScenario input at = IsFirstFault step scenario_done 1 AtHeader (lines_of input) at

-- the input is a scenario, and the text gives each robot a column of its own, with the least total of all such
pub record IsLeastText (input text : List ℕ) : Type 0 where
  pub scenario : ScenarioValue
  pub is : scenario_of input ≡ Ok scenario
  pub pairs : Pairs
  pub told : text ≡ assign_text scenario pairs
  pub pairing : IsPairing (length scenario.starts) (column_at pairs)
  pub total : pairs.total ≡ total_of (length scenario.starts) (cost_of scenario) (column_at pairs)
  pub least : IsLeastTotal (length scenario.starts) (cost_of scenario) (column_at pairs)

-- the form: a fault is the first bad line, and no assignment of the tasks has a smaller total
abbrev pub assign_form : FormSpec
assign_form = record {
  limit = Some 4194304;
  output = λ input. MayAnswer (scenario_of input);
  fault = λ input. only_line (IsBadScenario input);
  holds = λ input report. IsLeastText input report.text;
}

-- a refusal of the reader of scenarios
abbrev pub stop_of : ReadRefused → Stop
stop_of (read.Bad at) = Refused (Line at)
stop_of read.NoMemory = NoMemory
