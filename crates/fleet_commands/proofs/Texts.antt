-- Which texts are accepted, and where the others are refused.
use Rattle.std.proofs.Common.{◌≡◌, ⊎_elim, ℕ, ◌+◌, true, false, List, [], ◌∷◌, ◌++◌, length, Option, Some, None, Result, Ok, Err, refl, sym, ap, ◌∙◌, append_assoc, append-nil, add-zero, arith}
use Rattle.std.specs.List.{AllByRecursion, cons_option}
use Rattle.std.specs.Option.{option_to_list}
use Rattle.fleet_names.specs.Names.{Named}
use Rattle.site_lines.specs.declared.fault.At.{At}
use Rattle.site_lines.specs.declared.fault.Code.{Code}
use Rattle.site_lines.specs.Lines.{input_lines}
use Rattle.site_lines.specs.Readings.{Row, least_code, IsLeastCode, onward, read_from, next_state, state_behind, IsBadLine, IsBadEnd}
use Rattle.site_lines.specs.Words.{words_of}
use Rattle.site_lines.proofs.LeastCodes.{least_code_fits}
use Rattle.site_lines.proofs.Readings.{first_fault}
use Rattle.fleet_commands.specs.declared.command.Command.{Command}
use Rattle.fleet_commands.specs.Reading.{faults_of, command_in, unless, with_line, commands_of}
use Rattle.fleet_commands.specs.Texts.{IsGoodLine, commands_in, AreSaid, IsFirstBad}

abbrev read : Named → ℕ → List Command → List (List ℕ) → Result (List Command) At
read names n xs lines = read_from (with_line names) (λ commands. Ok commands) n xs lines

-- one option more at the front of the rest
with_option : {T : Type 0} (xs : List T) (o : Option T) (ys : List T) → (xs ++ option_to_list o) ++ ys ≡ xs ++ cons_option o ys
with_option xs None ys = ap (λ zs. zs ++ ys) (append-nil xs)
with_option xs (Some x) ys = append_assoc xs (x ∷ []) ys

-- good lines say their commands
pub good_read : (names : Named) (n : ℕ) (xs : List Command) (lines : List (List ℕ)) → AllByRecursion (IsGoodLine names) lines → read names n xs lines ≡ Ok (xs ++ commands_in names lines)
good_read names n xs [] good = ap (λ (cs : List Command). Ok cs) (sym (append-nil xs))
good_read names n xs (line ∷ lines) good =
    let said = command_in names (words_of line) in
    rw good.0 (good_read names (n + 1) (xs ++ option_to_list said) lines good.1 ∙ ap (λ (cs : List Command). Ok cs) (with_option xs said (commands_in names lines)))

-- what is accepted has good lines
step_good : (code : Option Code) (xs : List Command) (n : ℕ) (next : List Command → Result (List Command) At) (cs : List Command) → onward (unless code xs) n next ≡ Ok cs → code ≡ None
step_good None xs n next cs e = refl
step_good (Some code) xs n next cs e = absurd (cc)

pub read_good : (names : Named) (n : ℕ) (xs cs : List Command) (lines : List (List ℕ)) → read names n xs lines ≡ Ok cs → AllByRecursion (IsGoodLine names) lines
read_good names n xs cs [] e = tt
read_good names n xs cs (line ∷ lines) e =
    let said = command_in names (words_of line) in
    let is = step_good (least_code (faults_of names line)) (xs ++ option_to_list said) n (λ ys. read names (n + 1) ys lines) cs e in
    (is, read_good names (n + 1) (xs ++ option_to_list said) cs lines (rw is at e))

same_commands : (cs ds : List Command) → (let r : Result (List Command) At = Ok cs in r ≡ Ok ds) → cs ≡ ds
same_commands cs ds e = cc

pub accepted_is_said : (names : Named) (n : ℕ) (bytes : List ℕ) (cs : List Command) → commands_of names n bytes ≡ Ok cs → AreSaid names bytes cs
accepted_is_said names n bytes cs e =
    let good = read_good names n [] cs (input_lines bytes) e in
    record { good = good; said = same_commands cs (commands_in names (input_lines bytes)) (sym e ∙ good_read names n [] (input_lines bytes) good) }

pub said_is_accepted : (names : Named) (n : ℕ) (bytes : List ℕ) (cs : List Command) → AreSaid names bytes cs → commands_of names n bytes ≡ Ok cs
said_is_accepted names n bytes cs are = good_read names n [] (input_lines bytes) are.good ∙ ap (λ (ds : List Command). Ok ds) (sym are.said)

-- lines that leave a state are good
next_good : (code : Option Code) (xs : List Command) (next : List Command → Result (List Command) Code) (ys : List Command) → next_state (unless code xs) next ≡ Ok ys → code ≡ None
next_good None xs next ys e = refl
next_good (Some code) xs next ys e = absurd (cc)

-- and every end of them is accepted
no_end : (xs : List Command) (code : Code) → (let end : Result (List Command) Code = Ok xs in end ≡ Err code) → ⊥
no_end xs code e = cc

front_good : (names : Named) (xs ys : List Command) (lines : List (List ℕ)) → state_behind (with_line names) xs lines ≡ Ok ys → AllByRecursion (IsGoodLine names) lines
front_good names xs ys [] e = tt
front_good names xs ys (line ∷ lines) e =
    let said = command_in names (words_of line) in
    let is = next_good (least_code (faults_of names line)) (xs ++ option_to_list said) (λ zs. state_behind (with_line names) zs lines) ys e in
    (is, front_good names (xs ++ option_to_list said) ys lines (rw is at e))

-- the code of a line that isn't good
code_is : (found : Option Code) (xs : List Command) (code : Code) → unless found xs ≡ Err code → found ≡ Some code
code_is None xs code e = absurd (cc)
code_is (Some found) xs code e = cc

pub refused_is_bad : (names : Named) (n : ℕ) (bytes : List ℕ) (at : At) → commands_of names n bytes ≡ Err at → IsFirstBad names n bytes at
refused_is_bad names n bytes at e = ⊎_elim
    (λ (bad : IsBadLine (with_line names) n [] (input_lines bytes) at).
    record {
      front = bad.front;
      line = bad.line;
      back = bad.back;
      split = bad.split;
      good = front_good names [] bad.state bad.front bad.accepted;
      number = bad.number;
      code = least_code_fits (faults_of names bad.line) at.code (code_is (least_code (faults_of names bad.line)) (bad.state ++ option_to_list (command_in names (words_of bad.line))) at.code bad.refused);
    })
    (λ (bad : IsBadEnd (with_line names) (λ commands. Ok commands) n [] (input_lines bytes) at). absurd (no_end bad.state at.code bad.refused))
    (first_fault (with_line names) (λ commands. Ok commands) n [] (input_lines bytes) at e)

-- a table gives its least code
least_is : (front back : List Row) (code : Code) → AllByRecursion (λ row. row.fits ≡ false) front → least_code (front ++ record { fits = true; code = code } ∷ back) ≡ Some code
least_is [] back code before = refl
least_is (row ∷ front) back code before = rw before.0 (least_is front back code before.1)

pub least_code_is : (rows : List Row) (code : Code) → IsLeastCode rows code → least_code rows ≡ Some code
least_code_is rows code is = rw is.split (least_is is.front is.back code is.before)

-- lines behind good ones are read with their numbers
read_bad : (names : Named) (n : ℕ) (xs : List Command) (front : List (List ℕ)) (line : List ℕ) (back : List (List ℕ)) (code : Code) → AllByRecursion (IsGoodLine names) front
    → least_code (faults_of names line) ≡ Some code → read names n xs (front ++ line ∷ back) ≡ Err (record { line = n + length front; code = code })
read_bad names n xs [] line back code good is = rw (is, add-zero) refl
read_bad names n xs (first ∷ front) line back code good is =
    let said = command_in names (words_of first) in
    let number : n + 1 + length front ≡ n + length (first ∷ front) = omega arith in
    rw good.0 (read_bad names (n + 1) (xs ++ option_to_list said) front line back code good.1 is ∙ ap (λ m. Err (record { line = m; code = code })) number)

pub bad_is_refused : (names : Named) (n : ℕ) (bytes : List ℕ) (at : At) → IsFirstBad names n bytes at → commands_of names n bytes ≡ Err at
bad_is_refused names n bytes at bad =
    rw bad.split (read_bad names n [] bad.front bad.line bad.back at.code bad.good (least_code_is (faults_of names bad.line) at.code bad.code)
    ∙ ap (λ m. Err (record { line = m; code = at.code })) (sym bad.number))
