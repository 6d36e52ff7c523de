-- What is given for a text that may lack memory, beside what is due.
use Rattle.std.specs.Prelude.{◌≡◌, ℕ, ◌+◌, Ok, Err, Result}
use Rattle.fleet_model.specs.States.{State}
use Rattle.journal_replay.specs.Differing.{first_differing}
use Rattle.journal_replay.specs.declared.refused.EntriesRefused.{EntriesRefused}
use Rattle.journal_replay.specs.declared.refused.EntriesRefused.TheVariants as entries
use Rattle.plan_journal.specs.Left.{front_to}
use Rattle.plan_journal.specs.Reading.{Front}
use Rattle.plan_journal.specs.declared.reading.ReadJournalRefused.{ReadJournalRefused}
use Rattle.plan_journal.specs.declared.reading.ReadJournalRefused.TheVariants as journal
use Rattle.scenario_reader.specs.declared.stop.ReadRefused.{ReadRefused}
use Rattle.scenario_reader.specs.declared.stop.ReadRefused.TheVariants as read
use Rattle.site_lines.specs.declared.fault.At.{At}
use Rattle.fleet_replay.specs.Replay.{unless_differs}
use Rattle.fleet_replay.specs.declared.journal.Run.{Run}
use Rattle.fleet_replay.specs.declared.refused.ReplayFault.{ReplayFault}
use Rattle.fleet_replay.specs.declared.refused.ReplayFault.TheVariants.{Line, Entry}
use Rattle.fleet_replay.specs.declared.refused.TextRefused.{TextRefused}
use Rattle.fleet_replay.specs.declared.refused.TextRefused.TheVariants.{Fault, NoMemory}

-- a refusal of the readers of scenarios and of journals, and of an entry's replay
abbrev pub of_scenario : ReadRefused → TextRefused
of_scenario (read.Bad at) = Fault (Line at)
of_scenario read.NoMemory = NoMemory

abbrev pub of_journal : ReadJournalRefused → TextRefused
of_journal (journal.Bad at) = Fault (Line at)
of_journal journal.NoMemory = NoMemory

abbrev pub of_entries : EntriesRefused → TextRefused
of_entries (entries.Differs entry) = Fault (Entry entry)
of_entries entries.NoMemory = NoMemory

-- the same with the line's number in the whole text, where a line is bad that stands behind so many others
abbrev pub numbered : ℕ → TextRefused → TextRefused
numbered lines (Fault (Line at)) = Fault (Line (record { line = lines + at.line; code = at.code }))
numbered lines (Fault (Entry entry)) = Fault (Entry entry)
numbered lines NoMemory = NoMemory

-- the journal of a coordinator that replayed it, and its text's end
abbrev pub run_value : Run → Front
run_value run = front_to run.fleet.journal run.end

-- a journal that was read, where each of its entries is given from a state on; else the first that isn't
abbrev pub run_of : State → Result Front At → Result Front ReplayFault
run_of s (Ok journal) = unless_differs (first_differing s journal.entries) journal
run_of s (Err at) = Err (Line at)

-- a fault that is answered is the one that is due
abbrev pub Fails : {Y : Type 0} → TextRefused → Result Y ReplayFault → Type 0
Fails (Fault fault) due = due ≡ Err fault
Fails NoMemory due = Unit {0}

-- what is answered, seen by `view`, is what is due, unless memory ran out
abbrev pub Gives : {X Y : Type 0} → (X → Y) → Result X TextRefused → Result Y ReplayFault → Type 0
Gives view (Ok x) due = due ≡ Ok (view x)
Gives view (Err refused) due = Fails refused due
