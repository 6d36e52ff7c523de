-- Scripts: a scenario with commands behind it, and what they print.
use Rattle.std.specs.Prelude.{ℕ, ◌+◌, List, map, drop, Result, Ok, Err}
use Rattle.fleet_commands.specs.Commands.{call_of}
use Rattle.fleet_commands.specs.Reading.{commands_of}
use Rattle.fleet_commands.specs.declared.command.Command.{Command}
use Rattle.fleet_model.specs.Calls.{Call}
use Rattle.fleet_texts.specs.Samples.{run_text}
use Rattle.scenario.specs.Scenarios.{ScenarioValue}
use Rattle.scenario_reader.specs.Reading.{FrontValue, front_of}
use Rattle.scenario_reader.specs.Tables.{mapped}
use Rattle.site_lines.specs.declared.fault.At.{At}
use Rattle.run_base.specs.Openings.{opening_of}

-- a scenario, and the commands behind it
pub record ScriptValue : Type 0 where
  pub scenario : ScenarioValue
  pub commands : List Command

-- a scenario with the commands of the lines behind it, which are numbered on from its own
abbrev pub with_commands : List ℕ → Result FrontValue At → Result ScriptValue At
with_commands text (Ok front) =
    mapped (λ commands. record { scenario = front.scenario; commands = commands })
    (commands_of front.scenario.names (front.lines + 1) (drop front.used text))
with_commands text (Err at) = Err at

-- the script that a text is, or its first bad line with its least code
abbrev pub script_of : List ℕ → Result ScriptValue At
script_of text = with_commands text (front_of text)

-- the calls that the commands are, in order
abbrev pub calls_of : ScriptValue → List (ℕ × Call)
calls_of script = map (call_of script.scenario.site) script.commands

-- what a script prints: a line for the answer of each call, the journal, and the state that the calls leave
abbrev pub printed : ScriptValue → List ℕ
printed script = run_text script.scenario.names script.scenario.site (opening_of script.scenario) (calls_of script)

-- what the script prints that a text is, or the text's first bad line with its least code
abbrev pub script_text : List ℕ → Result (List ℕ) At
script_text text = mapped printed (script_of text)
