-- What a run of a form takes from its source and writes to its sink.
use Rattle.std.specs.Prelude.{◌≡◌, ◌≢◌, ◌⊎◌, ℕ, ◌+◌, ◌<◌, ◌≤◌, nat_lt, Bool, true, false, List, [], length, Some, None, Err, Result, IfSome, IsSomeAnd}
use Rattle.std.specs.declared.option.Option.{Option}
use Rattle.std.specs.Io.KnownBytes.{Keeps, IsAtEnd}
use Rattle.fleet_io.specs.Bytes.{Puts, PutsPrefix, TakesJust}
use Rattle.form_base.specs.declared.fault.Fault.{Fault}
use Rattle.form_base.specs.declared.fault.Fault.TheVariants.{TooBig}
use Rattle.form_base.specs.declared.report.Ended.{Ended}
use Rattle.form_base.specs.Forms.{Due, FormSpec, Report, refused_text, reply_for}
use Rattle.form_base.specs.Stops.{IsAnswer}

-- the input is all that the source had left, where it tells it
abbrev pub IsInput : Option (List ℕ) → List ℕ → Type 0
IsInput left input = IfSome left (λ bytes. bytes ≡ input)

-- whether an input has more bytes than the limit; a form that reads nothing has no input that is too big
abbrev pub is_over : Option ℕ → List ℕ → Bool
is_over None input = false
is_over (Some limit) input = nat_lt limit (length input)

-- what a form with this limit sees of an input: nothing where it reads nothing
abbrev pub seen : Option ℕ → List ℕ → List ℕ
seen None input = []
seen (Some limit) input = input

-- all that was left, or, where that is too big, one byte more than the limit
abbrev pub TakesInput : Bool → ℕ → Option (List ℕ) → Option (List ℕ) → Type 0
TakesInput false limit old new = IsAtEnd new
TakesInput true limit old new = TakesJust old new (limit + 1)

-- what was taken from the source for a form with this limit
abbrev pub Takes : Option ℕ → List ℕ → Option (List ℕ) → Option (List ℕ) → Type 0
Takes None input old new = Keeps old new
Takes (Some limit) input old new = TakesInput (nat_lt limit (length input)) limit old new

-- what the source had left was taken, is above the limit or isn't, and this is seen of it
pub record IsTaken (over : Bool) (limit : Option ℕ) (old new : Option (List ℕ)) (bytes : List ℕ) : Type 0 where
  pub input : List ℕ
  pub is : IsInput old input
  pub takes : Takes limit input old new
  pub size : is_over limit input ≡ over
  pub sees : bytes ≡ seen limit input

-- an answer comes of all that the source had left, with its cause: an input above the limit is too big, and of any other the form answers
abbrev pub Comes : Bool → FormSpec → List ℕ → Result Report Fault → Type 0
Comes true spec input answer = answer ≡ Err TooBig
Comes false spec input answer = IsAnswer spec (seen spec.limit input) answer

-- a status and a text are due for all that the source had left
pub record IsDue (spec : FormSpec) (input : List ℕ) (due : Due) : Type 0 where
  pub answer : Result Report Fault
  pub comes : Comes (is_over spec.limit input) spec input answer
  pub is : due ≡ reply_for answer

-- a status of the program that tells nothing of memory, words, reading or writing
abbrev pub IsFree : ℕ → Type 0
IsFree status = (status ≤ 7) × (status ≢ 1) × (status ≢ 2) × (status ≢ 5) × (status ≢ 6)

-- what is due went out whole, with its status
abbrev pub IsWhole : Due → ℕ → Option (List ℕ) → Option (List ℕ) → Type 0
IsWhole due status old new = (status ≡ due.status) × Puts old new due.text

-- what is due went out whole, with its status, or with status 6 a prefix of it
pub record Tells (due : Due) (status : ℕ) (old new : Option (List ℕ)) : Type 0 where
  pub whole : status ≢ 6 → IsWhole due status old new
  pub cut : status ≡ 6 → PutsPrefix old new due.text

-- something that is due went out, whole or with status 6 a prefix of it
pub record TellsDue (is_due : Due → Type 0) (status : ℕ) (old new : Option (List ℕ)) : Type 0 where
  pub due : Due
  pub is : is_due due
  pub tells : Tells due status old new

-- something that is due went out whole
pub record TellsWhole (is_due : Due → Type 0) (status : ℕ) (old new : Option (List ℕ)) : Type 0 where
  pub due : Due
  pub is : is_due due
  pub whole : IsWhole due status old new

-- this is due for an input that is what the source had left, where it tells it, and of which it took what is taken with this limit
pub record IsReady (limit : Option ℕ) (is_due : List ℕ → Due → Type 0) (left left' : Option (List ℕ)) (due : Due) : Type 0 where
  pub input : List ℕ
  pub is : IsInput left input
  pub takes : Takes limit input left left'
  pub due_is : is_due input due

-- a run that met no want of memory and no fault of the source: what was taken, and what went out
pub record Runs (limit : Option ℕ) (is_due : List ℕ → Due → Type 0) (status : ℕ) (left left' written written' : Option (List ℕ)) : Type 0 where
  pub input : List ℕ
  pub is : IsInput left input
  pub takes : Takes limit input left left'
  pub told : TellsDue (is_due input) status written written'

-- the input has more bytes than the limit, or the form says what the fault is in it
abbrev pub HasFault : FormSpec → List ℕ → Fault → Type 0
HasFault spec input fault = ((fault ≡ TooBig) × IsSomeAnd spec.limit (λ limit. limit < length input)) ⊎ spec.fault (seen spec.limit input) fault

-- a fault of the input is told by its line
pub record TellsFault (spec : FormSpec) (input : List ℕ) (old new : Option (List ℕ)) : Type 0 where
  pub fault : Fault
  pub is : HasFault spec input fault
  pub told : Puts old new (refused_text fault)

-- a text went out that is known to be such a one
pub record TellsText (holds : List ℕ → Type 0) (old new : Option (List ℕ)) : Type 0 where
  pub text : List ℕ
  pub is : holds text
  pub told : Puts old new text

-- the text of a form that ended so went out, and what is known of it holds
abbrev pub TellsReport : FormSpec → List ℕ → Ended → Option (List ℕ) → Option (List ℕ) → Type 0
TellsReport spec input ended old new = TellsText (λ text. spec.holds (seen spec.limit input) (record { ended = ended; text = text })) old new
