-- What calls of the reader give, unless memory runs out.
use Rattle.std.specs.Prelude.{◌≡◌, ℕ, Result, Ok, Err}
use Rattle.site_lines.specs.declared.fault.At.{At}
use Rattle.site_lines.specs.declared.fault.Code.{Code}
use Rattle.plan_journal.specs.declared.lines.LineRefused.{LineRefused}
use Rattle.plan_journal.specs.declared.lines.LineRefused.TheVariants as line
use Rattle.plan_journal.specs.declared.reading.JournalFront.{JournalFront}
use Rattle.plan_journal.specs.declared.reading.ReadJournalRefused.{ReadJournalRefused}
use Rattle.plan_journal.specs.declared.reading.ReadJournalRefused.TheVariants as journal
use Rattle.plan_journal.specs.Reading.{Front}

-- what was read, without where it lies in memory
abbrev pub front_of : JournalFront → Front
front_of front = record { entries = front.entries.items; used = front.used; lines = front.lines }

-- the call gives what is read, or memory ran out
abbrev pub Gives : Result JournalFront ReadJournalRefused → Result Front At → Type 0
Gives (Ok front) read = read ≡ Ok (front_of front)
Gives (Err (journal.Bad at)) read = read ≡ Err at
Gives (Err journal.NoMemory) read = Unit {0}

-- the same of a line
abbrev pub GivesLine : {A B : Type 0} → (A → B) → Result A LineRefused → Result B Code → Type 0
GivesLine view (Ok value) read = read ≡ Ok (view value)
GivesLine view (Err (line.Bad code)) read = read ≡ Err code
GivesLine view (Err line.NoMemory) read = Unit {0}

-- why a journal isn't read whose line of this number isn't
abbrev pub refused_at : ℕ → LineRefused → ReadJournalRefused
refused_at number (line.Bad code) = journal.Bad (record { line = number; code = code })
refused_at number line.NoMemory = journal.NoMemory
