-- Lines that are read one after the other: the first bad line, with the least of its codes.
use Rattle.std.specs.Prelude.{◌≡◌, ◌⊎◌, ℕ, ◌+◌, Bool, true, false, if◌then◌else◌, List, [], ◌∷◌, ◌++◌, length, Option, Some, None, Result, Ok, Err}
use Rattle.std.specs.List.{AllByRecursion}
use Rattle.site_lines.specs.declared.fault.At.{At}
use Rattle.site_lines.specs.declared.fault.Code.{Code}

-- a row of a table of codes: whether the fault is there, and its code
pub record Row : Type 0 where
  pub fits : Bool
  pub code : Code

-- the code of the first row that fits; the rows stand in the order of the codes
abbrev pub least_code : List Row → Option Code
least_code [] = None
least_code (row ∷ rows) = if row.fits then Some row.code else least_code rows

-- the row of the code fits, and no row before it does
pub record IsLeastCode (rows : List Row) (code : Code) : Type 0 where
  pub front : List Row
  pub back : List Row
  pub split : rows ≡ front ++ record { fits = true; code = code } ∷ back
  pub before : AllByRecursion (λ row. row.fits ≡ false) front

-- goes on with what a line gives, or ends with the line's number and its code
abbrev pub onward : {S T : Type 0} → Result S Code → ℕ → (S → Result T At) → Result T At
onward (Ok s) n next = next s
onward (Err code) n next = Err (record { line = n; code = code })

-- what lines give, or their first fault: `step` says what a line makes of a state, or the line's code, and `done` what the end makes of it; the first line has the number n
abbrev pub read_from : {S T : Type 0} → (S → List ℕ → Result S Code) → (S → Result T Code) → ℕ → S → List (List ℕ) → Result T At
read_from step done n s [] = onward (done s) n (λ t. Ok t)
read_from step done n s (line ∷ lines) = onward (step s line) n (λ t. read_from step done (n + 1) t lines)

abbrev pub next_state : {S : Type 0} → Result S Code → (S → Result S Code) → Result S Code
next_state (Ok s) next = next s
next_state (Err code) next = Err code

-- the state behind lines that are all accepted
abbrev pub state_behind : {S : Type 0} → (S → List ℕ → Result S Code) → S → List (List ℕ) → Result S Code
state_behind step s [] = Ok s
state_behind step s (line ∷ lines) = next_state (step s line) (λ t. state_behind step t lines)

-- the lines before the bad one are accepted, and it isn't, for this code
pub record IsBadLine {S : Type 0} (step : S → List ℕ → Result S Code) (first : ℕ) (s : S) (lines : List (List ℕ)) (at : At) : Type 0 where
  pub front : List (List ℕ)
  pub line : List ℕ
  pub back : List (List ℕ)
  pub state : S
  pub split : lines ≡ front ++ line ∷ back
  pub number : at.line ≡ first + length front
  pub accepted : state_behind step s front ≡ Ok state
  pub refused : step state line ≡ Err at.code

-- all lines are accepted, and the text must not end there
pub record IsBadEnd {S T : Type 0} (step : S → List ℕ → Result S Code) (done : S → Result T Code) (first : ℕ) (s : S) (lines : List (List ℕ)) (at : At) : Type 0 where
  pub state : S
  pub number : at.line ≡ first + length lines
  pub accepted : state_behind step s lines ≡ Ok state
  pub refused : done state ≡ Err at.code

abbrev pub IsFirstFault : {S T : Type 0} → (S → List ℕ → Result S Code) → (S → Result T Code) → ℕ → S → List (List ℕ) → At → Type 0
IsFirstFault step done first s lines at = IsBadLine step first s lines at ⊎ IsBadEnd step done first s lines at
