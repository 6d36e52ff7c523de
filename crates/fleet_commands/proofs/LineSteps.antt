-- One line more of commands.
use Rattle.std.proofs.Common.{◌≡◌, ℕ, ◌+◌, List, ◌∷◌, ◌++◌, Option, Some, None, Ok, All, map, refl, sym, rules}
use Rattle.std.specs.Prelude.{IfSome}
use Rattle.std.specs.Option.{option_to_list}
use Rattle.std.proofs.lemmas.List.Elements.{All-append}
use Rattle.fleet_names.specs.Names.{Named}
use Rattle.site_lines.specs.Lines.{without_return}
use Rattle.site_lines.specs.Readings.{least_code, read_from}
use Rattle.site_lines.specs.Words.{words_of}
use Rattle.fleet_commands.specs.declared.command.Command.{Command}
use Rattle.fleet_commands.specs.Commands.{IsDeclared}
use Rattle.fleet_commands.specs.Reading.{faults_of, command_in, with_line}

-- a line without a fault adds what it says
said_of : {T : Type 0} (a b : T) → (let o : Option T = Some a in o ≡ Some b) → a ≡ b
said_of a b e = cc

step_line : (names : Named) (n : ℕ) (xs : List Command) (line : List ℕ) (lines : List (List ℕ)) (said : Option Command)
    → least_code (faults_of names line) ≡ None → command_in names (words_of line) ≡ said
    → read_from (with_line names) (λ commands. Ok commands) n xs (line ∷ lines) ≡ read_from (with_line names) (λ commands. Ok commands) (n + 1) (xs ++ option_to_list said) lines
step_line names n xs line lines said none is = rw (none, is) refl

-- the same among the lines of an input, of which the first is raw
pub step_input : (names : Named) (n : ℕ) (xs ys : List Command) (raw : List ℕ) (raws rest : List (List ℕ)) (said : Option Command)
    → (let whole : Option (Option Command) = Some said in (least_code (faults_of names (without_return raw)) ≡ None) × (Some (command_in names (words_of (without_return raw))) ≡ whole))
    → raws ≡ raw ∷ rest → ys ≡ xs ++ option_to_list said
    → read_from (with_line names) (λ commands. Ok commands) (n + 1) ys (map without_return rest) ≡ read_from (with_line names) (λ commands. Ok commands) n xs (map without_return raws)
step_input names n xs ys raw raws rest said says lines more =
    rw (lines, more) (sym (step_line names n xs (without_return raw) (map without_return rest) said says.0 (said_of (command_in names (words_of (without_return raw))) said says.1)))

-- commands stay declared
declared_all : (names : Named) (said : Option Command) → IfSome said (IsDeclared names) → All (IsDeclared names) (option_to_list said)
declared_all names None is = search rules
declared_all names (Some command) is = search rules

pub declared_more : (names : Named) (xs : List Command) (said : Option Command) → All (IsDeclared names) xs → IfSome said (IsDeclared names) → All (IsDeclared names) (xs ++ option_to_list said)
declared_more names xs said are is = All-append (IsDeclared names) xs (option_to_list said) are (declared_all names said is)
