-- What is left to read of a journal.
use Rattle.std.specs.Prelude.{◌≡◌, ℕ, ◌+◌, ◌≤◌, List, [], ◌∷◌, ◌++◌, drop, length, Option, Some, None, Result, Ok, Err}
use Rattle.fleet_base.specs.declared.entries.Entry.{Entry}
use Rattle.fleet_names.specs.Names.{Named}
use Rattle.site_lines.specs.Readings.{read_from}
use Rattle.site_lines.specs.declared.fault.At.{At}
use Rattle.plan_journal.specs.declared.reading.Place.{Place}
use Rattle.plan_journal.specs.declared.reading.ReadJournalRefused.{ReadJournalRefused}
use Rattle.plan_journal.specs.declared.reading.ReadJournalRefused.TheVariants.{Bad, NoMemory}
use Rattle.plan_journal.specs.Reading.{Front, Among, ended_lines, read_line, read_all}

-- the place is in the text, and each line before it has a byte at least
abbrev pub IsWithin : List ℕ → Place → Type 0
IsWithin bytes place = (place.lines ≤ place.used) × (place.used ≤ length bytes)

-- what was read up to a place, with these entries
abbrev pub front_to : List Entry → Place → Front
front_to entries place = record { entries = entries; used = place.used; lines = place.lines }

-- what is read from a place on, behind lines that had these entries
unfoldable pub left : Named → List ℕ → List Entry → Place → Result Front At
left names bytes entries place = read_from (read_line names) read_all (place.lines + 1) (Among (front_to entries place)) (ended_lines (drop place.used bytes))

-- one line was read: an entry more stands above what is left; or the journal ends there; or a line is bad
abbrev pub IsRead : Named → List ℕ → List Entry → Place → Place → Result (Option Entry) ReadJournalRefused → Type 0
IsRead names bytes entries old new (Ok (Some entry)) = left names bytes entries old ≡ left names bytes (entries ++ entry ∷ []) new
IsRead names bytes entries old new (Ok None) = left names bytes entries old ≡ Ok (front_to entries new)
IsRead names bytes entries old new (Err (Bad at)) = left names bytes entries old ≡ Err at
IsRead names bytes entries old new (Err NoMemory) = Unit {0}

-- all that is left was read: more entries stand behind these, or a line is bad
abbrev pub IsReadOn : List Entry → Result Front At → Result (Unit {0}) ReadJournalRefused → Type 0
IsReadOn entries due (Ok done) = (more : List Entry) × (end : Place) × (due ≡ Ok (front_to (entries ++ more) end))
IsReadOn entries due (Err (Bad at)) = due ≡ Err at
IsReadOn entries due (Err NoMemory) = Unit {0}
