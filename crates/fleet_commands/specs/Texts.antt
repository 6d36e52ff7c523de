-- Which texts are accepted and what they say, and which line of a text is its first bad one.
use Rattle.std.specs.Prelude.{◌≡◌, ℕ, ◌+◌, List, ◌∷◌, ◌++◌, length, None}
use Rattle.std.specs.List.{AllByRecursion, filter_map}
use Rattle.fleet_names.specs.Names.{Named}
use Rattle.site_lines.specs.declared.fault.At.{At}
use Rattle.site_lines.specs.Lines.{input_lines}
use Rattle.site_lines.specs.Readings.{least_code, IsLeastCode}
use Rattle.site_lines.specs.Words.{words_of}
use Rattle.fleet_commands.specs.declared.command.Command.{Command}
use Rattle.fleet_commands.specs.Reading.{faults_of, command_in}

-- no row of the line's table fits
abbrev pub IsGoodLine : Named → List ℕ → Type 0
IsGoodLine names line = least_code (faults_of names line) ≡ None

-- the commands that lines say, in order
abbrev pub commands_in : Named → List (List ℕ) → List Command
commands_in names lines = filter_map (λ line. command_in names (words_of line)) lines

-- each line of the text is good, and the commands are those that the lines say
pub record AreSaid (names : Named) (bytes : List ℕ) (commands : List Command) : Type 0 where
  pub good : AllByRecursion (IsGoodLine names) (input_lines bytes)
  pub said : commands ≡ commands_in names (input_lines bytes)

-- the lines before one are good, it has this number and isn't good, and the code is its least
pub record IsFirstBad (names : Named) (n : ℕ) (bytes : List ℕ) (at : At) : Type 0 where
  pub front : List (List ℕ)
  pub line : List ℕ
  pub back : List (List ℕ)
  pub split : input_lines bytes ≡ front ++ line ∷ back
  pub good : AllByRecursion (IsGoodLine names) front
  pub number : at.line ≡ n + length front
  pub code : IsLeastCode (faults_of names line) at.code
