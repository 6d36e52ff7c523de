-- What is given for a text that may lack memory, beside what is due.
use Rattle.std.specs.Prelude.{◌≡◌, Ok, Err, Result}
use Rattle.fleet_commands.specs.declared.refused.ReadRefused.{ReadRefused as CommandsRefused}
use Rattle.fleet_commands.specs.declared.refused.ReadRefused.TheVariants as commands
use Rattle.fleet_script.specs.Script.{ScriptValue}
use Rattle.fleet_script.specs.declared.refused.ScriptRefused.{ScriptRefused}
use Rattle.fleet_script.specs.declared.refused.ScriptRefused.TheVariants.{Bad, NoMemory}
use Rattle.fleet_script.specs.declared.reading.Script.{Script}
use Rattle.scenario_reader.specs.declared.stop.ReadRefused.{ReadRefused}
use Rattle.scenario_reader.specs.declared.stop.ReadRefused.TheVariants as read
use Rattle.site_lines.specs.declared.fault.At.{At}

-- a refusal of the reader of scenarios, and of the reader of commands
abbrev pub of_scenario : ReadRefused → ScriptRefused
of_scenario (read.Bad at) = Bad at
of_scenario read.NoMemory = NoMemory

abbrev pub of_commands : CommandsRefused → ScriptRefused
of_commands (commands.Bad at) = Bad at
of_commands commands.NoMemory = NoMemory

-- a script that was read, as one value
abbrev pub script_value : Script → ScriptValue
script_value script = record { scenario = script.scenario; commands = script.commands.items }

-- a bad line that is answered is the one that is due
abbrev pub Fails : {Y : Type 0} → ScriptRefused → Result Y At → Type 0
Fails (Bad at) due = due ≡ Err at
Fails NoMemory due = Unit {0}

-- what is answered, seen by `view`, is what is due, unless memory ran out
abbrev pub Gives : {X Y : Type 0} → (X → Y) → Result X ScriptRefused → Result Y At → Type 0
Gives view (Ok x) due = due ≡ Ok (view x)
Gives view (Err refused) due = Fails refused due
