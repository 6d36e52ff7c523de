-- What a reader gives: what is said, or what is wrong, unless no memory was left.
use Rattle.std.specs.Prelude.{◌≡◌, ℕ, List, Option, Some, None, Result, Ok, Err, Vec}
use Rattle.std.specs.Global.{Global}
use Rattle.site_lines.specs.declared.fault.At.{At}
use Rattle.site_lines.specs.declared.fault.Code.{Code}
use Rattle.site_lines.specs.Readings.{Row, least_code}
use Rattle.fleet_commands.specs.declared.command.Command.{Command}
use Rattle.fleet_commands.specs.declared.refused.LineRefused.{LineRefused}
use Rattle.fleet_commands.specs.declared.refused.LineRefused.TheVariants as line
use Rattle.fleet_commands.specs.declared.refused.ReadRefused.{ReadRefused}
use Rattle.fleet_commands.specs.declared.refused.ReadRefused.TheVariants as text

-- the commands that are said, or the fault
abbrev pub Gives : Result (Vec Command Global) ReadRefused → Result (List Command) At → Type 0
Gives (Ok commands) said = said ≡ Ok commands.items
Gives (Err (text.Bad at)) said = said ≡ Err at
Gives (Err text.NoMemory) said = Unit {0}

-- a line's refusal as that of a text, whose line has the number n
abbrev pub refused_at : ℕ → LineRefused → ReadRefused
refused_at n (line.Bad code) = text.Bad (record { line = n; code = code })
refused_at n line.NoMemory = text.NoMemory

-- a value that is said where no row of the table fits, or the least code
abbrev pub Tells : {T : Type 0} → Result T Code → List Row → Option T → Type 0
Tells (Ok value) rows said = (least_code rows ≡ None) × (said ≡ Some value)
Tells (Err code) rows said = least_code rows ≡ Some code

-- the same, unless no memory was left
abbrev pub Says : {T : Type 0} → Result T LineRefused → List Row → Option T → Type 0
Says (Ok value) rows said = (least_code rows ≡ None) × (said ≡ Some value)
Says (Err (line.Bad code)) rows said = least_code rows ≡ Some code
Says (Err line.NoMemory) rows said = Unit {0}
