-- The texts of journal entries and of journals.
use Rattle.std.specs.Prelude.{ℕ, List, [], ◌∷◌, ◌++◌, length, map, codes}
use Rattle.std.specs.Fmt.{decimal}
use Rattle.fleet_base.specs.declared.entries.Act.{Act}
use Rattle.fleet_base.specs.declared.entries.Act.TheVariants.{Merged, Deferred, Retried, Canceled, Withdrawn, Replanned, Reported}
use Rattle.fleet_base.specs.declared.entries.Entry.{Entry}
use Rattle.fleet_names.specs.Names.{Named}
use Rattle.fleet_texts.specs.Words.{spaced, lines_text, cell_text, robot_text}

-- the first word of an entry's line
abbrev pub act_word : Act → List ℕ
act_word (Merged route first) = codes "merged"
act_word (Deferred route cycle) = codes "deferred"
act_word (Retried first) = codes "retried"
act_word Canceled = codes "canceled"
act_word (Withdrawn removed end) = codes "withdrawn"
act_word (Replanned route first) = codes "replanned"
act_word (Reported event) = codes "reported"

-- the words behind the robot
abbrev pub detail_words : Named → Act → List (List ℕ)
detail_words names (Merged route first) = decimal first.0 ∷ map (cell_text names) route
detail_words names (Deferred route cycle) = decimal (length cycle) ∷ map (robot_text names) cycle ++ map (cell_text names) route
detail_words names (Retried first) = decimal first.0 ∷ []
detail_words names Canceled = []
detail_words names (Withdrawn removed end) = decimal removed ∷ cell_text names end ∷ []
detail_words names (Replanned route first) = decimal first.0 ∷ map (cell_text names) route
detail_words names (Reported event) = decimal event.0 ∷ []

-- the words of an entry's line
abbrev pub entry_words : Named → Entry → List (List ℕ)
entry_words names entry = act_word entry.act ∷ robot_text names entry.robot ∷ detail_words names entry.act

-- an entry's line, without its line feed
unfoldable pub entry_text : Named → Entry → List ℕ
entry_text names entry = spaced (entry_words names entry)

-- the lines of a journal: its header, one for each entry, and its end
abbrev pub journal_lines : Named → List Entry → List (List ℕ)
journal_lines names entries = codes "journal 1" ∷ map (entry_text names) entries ++ codes "end" ∷ []

-- a journal's text
unfoldable pub journal_text : Named → List Entry → List ℕ
journal_text names entries = lines_text (journal_lines names entries)
