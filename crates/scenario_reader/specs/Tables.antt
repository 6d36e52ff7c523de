-- Tables of codes, and what a line gives that has none of them.
use Rattle.std.specs.Prelude.{◌≡◌, ℕ, nat_lt, Bool, List, [], length, slice_index_or, Option, Some, None, Result, Ok, Err}
use Rattle.site_lines.specs.declared.fault.At.{At}
use Rattle.site_lines.specs.declared.fault.Code.{Code}
use Rattle.site_lines.specs.declared.fault.Code.TheVariants.{S5, S6}
use Rattle.site_lines.specs.Readings.{Row, least_code}
use Rattle.scenario_reader.specs.declared.stop.Stop.{Stop}
use Rattle.scenario_reader.specs.declared.stop.Stop.TheVariants as stops
use Rattle.scenario_reader.specs.declared.stop.ReadRefused.{ReadRefused}
use Rattle.scenario_reader.specs.declared.stop.ReadRefused.TheVariants as refusals

-- a fault, where it is there, and its code
abbrev pub row : Bool → Code → Row
row fits code = record { fits = fits; code = code }

-- fewer words than so many
abbrev pub few : ℕ → List (List ℕ) → Row
few n words = row (nat_lt (length words) n) S5

-- more words than so many
abbrev pub many : ℕ → List (List ℕ) → Row
many n words = row (nat_lt n (length words)) S6

-- the word at a place, from 0
abbrev pub word : List (List ℕ) → ℕ → List ℕ
word words place = slice_index_or words place []

abbrev pub code_or : {T : Type 0} → Option Code → T → Result T Code
code_or (Some code) t = Err code
code_or None t = Ok t

-- the least code of a table whose fault is there, and where none is what the line gives
abbrev pub judged : {T : Type 0} → List Row → T → Result T Code
judged rows t = code_or (least_code rows) t

abbrev pub mapped : {S T E : Type 0} → (S → T) → Result S E → Result T E
mapped f (Ok s) = Ok (f s)
mapped f (Err e) = Err e

abbrev pub Fails : {Y : Type 0} → Stop → Result Y Code → Type 0
Fails stops.NoMemory due = Unit {0}
Fails (stops.Bad code) due = due ≡ Err code

-- no fault of a table is there
abbrev pub IsFine : List Row → Type 0
IsFine rows = least_code rows ≡ None

-- why a line is stopped is the least code of a table, or want of memory
abbrev pub IsStop : List Row → Stop → Type 0
IsStop rows stops.NoMemory = Unit {0}
IsStop rows (stops.Bad code) = least_code rows ≡ Some code

-- what a line's function returned, seen by view, is what is due, unless memory ran out
abbrev pub Gives : {X Y : Type 0} → (X → Y) → Result X Stop → Result Y Code → Type 0
Gives view (Ok x) due = due ≡ Ok (view x)
Gives view (Err stop) due = Fails stop due

abbrev pub FailsAt : {Y : Type 0} → ReadRefused → Result Y At → Type 0
FailsAt refusals.NoMemory due = Unit {0}
FailsAt (refusals.Bad at) due = due ≡ Err at

-- why a text isn't read of which the line with this number is stopped
abbrev pub refused_at : Stop → ℕ → ReadRefused
refused_at (stops.Bad code) line = refusals.Bad (record { line = line; code = code })
refused_at stops.NoMemory line = refusals.NoMemory

-- what a reader of a whole text returned, seen by view, is what is due, unless memory ran out
abbrev pub GivesAt : {X Y : Type 0} → (X → Y) → Result X ReadRefused → Result Y At → Type 0
GivesAt view (Ok x) due = due ≡ Ok (view x)
GivesAt view (Err refused) due = FailsAt refused due
