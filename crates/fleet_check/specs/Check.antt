-- The form `check`.
use Rattle.std.specs.Prelude.{ℕ, List, Some, Ok, Err, Result}
use Rattle.site_lines.specs.declared.fault.At.{At}
use Rattle.site_lines.specs.Lines.{lines_of}
use Rattle.site_lines.specs.Readings.{IsFirstFault}
use Rattle.scenario.specs.Scenarios.{ScenarioValue}
use Rattle.scenario.specs.Canonical.{canonical_text}
use Rattle.scenario_reader.specs.Reading.{scenario_of, step, done as scenario_done}
use Rattle.scenario_reader.specs.States.{AtHeader}
use Rattle.scenario_reader.specs.declared.stop.ReadRefused.{ReadRefused}
use Rattle.scenario_reader.specs.declared.stop.ReadRefused.TheVariants as read
use Rattle.form_base.specs.declared.fault.Fault.{Fault}
use Rattle.form_base.specs.declared.fault.Fault.TheVariants.{Line}
use Rattle.form_base.specs.declared.fault.Stop.{Stop}
use Rattle.form_base.specs.declared.fault.Stop.TheVariants.{NoMemory, Refused}
use Rattle.form_base.specs.Forms.{FormSpec, Report, done, of_function, only_line}

-- the canonical text of a scenario, or the first bad line of what was read
abbrev pub canonical_or : Result ScenarioValue At → Result Report Fault
canonical_or (Ok scenario) = Ok (done (canonical_text scenario))
canonical_or (Err at) = Err (Line at)

-- the canonical text of the scenario that an input is, or its fault
abbrev pub check_answer : List ℕ → Result Report Fault
check_answer input = canonical_or (scenario_of input)

-- the first bad line of the scenario that an input is to be, with the least of its codes
abbrev pub IsBadScenario : List ℕ → At → Type 0
IsBadScenario input at = IsFirstFault step scenario_done 1 AtHeader (lines_of input) at

-- the form: one text for each input, and a fault is the first bad line
abbrev pub check_form : FormSpec
check_form = record { limit = Some 4194304; output = of_function check_answer; fault = λ input. only_line (IsBadScenario input); holds = λ input report. Unit {0} }

-- a refusal of the reader of scenarios
abbrev pub stop_of : ReadRefused → Stop
stop_of (read.Bad at) = Refused (Line at)
stop_of read.NoMemory = NoMemory
