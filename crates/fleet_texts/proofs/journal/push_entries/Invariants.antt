use Rattle.std.proofs.Common.{◌≡◌, ◌++◌, drop, map}
use Rattle.fleet_texts.specs.Words.{lines_text}
use Rattle.fleet_texts.specs.Texts.{entry_text}
use Rattle.fleet_texts.proofs.journal.push_entries.Given as goal

abbrev pub invariant-loop-entry : goal.invariant-loop-entry
invariant-loop-entry l = l.text.items ++ lines_text (map (entry_text l.names) (drop l.entry-index l.entries)) ≡ l.initial.text.items ++ lines_text (map (entry_text l.names) l.entries)
