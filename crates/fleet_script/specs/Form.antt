-- The form `script`.
use Rattle.std.specs.Prelude.{◌≡◌, ◌⊎◌, ℕ, ◌+◌, List, Some, drop, Ok, Err, Result}
use Rattle.fleet_commands.specs.Texts.{IsFirstBad}
use Rattle.scenario_reader.specs.Reading.{FrontValue, front_of}
use Rattle.site_lines.specs.declared.fault.At.{At}
use Rattle.form_base.specs.declared.fault.Fault.{Fault}
use Rattle.form_base.specs.declared.fault.Fault.TheVariants.{Line}
use Rattle.form_base.specs.declared.fault.Stop.{Stop}
use Rattle.form_base.specs.declared.fault.Stop.TheVariants.{NoMemory, Refused}
use Rattle.form_base.specs.Forms.{FormSpec, Report, done, of_function, only_line}
use Rattle.run_base.specs.Openings.{IsBadFront}
use Rattle.fleet_script.specs.Script.{ScriptValue, script_of, script_text}
use Rattle.fleet_script.specs.Sound.{PrintsSoundly}
use Rattle.fleet_script.specs.declared.refused.ScriptRefused.{ScriptRefused}
use Rattle.fleet_script.specs.declared.refused.ScriptRefused.TheVariants as refused

-- the input begins with a scenario, and this is the first bad line of the commands behind it, counted on from the scenario's lines
pub record IsBadCommand (input : List ℕ) (at : At) : Type 0 where
  pub front : FrontValue
  pub begins : front_of input ≡ Ok front
  pub bad : IsFirstBad front.scenario.names (front.lines + 1) (drop front.used input) at

-- the first bad line of an input: of its scenario, or else of the commands behind it
abbrev pub IsBadScript : List ℕ → At → Type 0
IsBadScript input at = IsBadFront input at ⊎ IsBadCommand input at

-- the input is a script, and the text is its answers, a sound journal and the state that it reaches
pub record IsSoundScript (input text : List ℕ) : Type 0 where
  pub script : ScriptValue
  pub is : script_of input ≡ Ok script
  pub sound : PrintsSoundly script text

-- a refusal of a script
abbrev pub stop_of : ScriptRefused → Stop
stop_of (refused.Bad at) = Refused (Line at)
stop_of refused.NoMemory = NoMemory

-- the report of a text, or the bad line
abbrev pub reported : Result (List ℕ) At → Result Report Fault
reported (Ok text) = Ok (done text)
reported (Err at) = Err (Line at)

-- the form: one text for each input, which tells a sound journal, and a fault is the first bad line
abbrev pub script_form : FormSpec
script_form = record {
  limit = Some 4194304;
  output = of_function (λ input. reported (script_text input));
  fault = λ input. only_line (IsBadScript input);
  holds = λ input report. IsSoundScript input report.text;
}
