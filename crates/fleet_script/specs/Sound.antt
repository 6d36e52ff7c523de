-- What every script prints: a journal that is legal and sound, with the state that it reaches.
use Rattle.std.specs.Prelude.{◌≡◌, ℕ, List, ◌++◌, map}
use Rattle.fleet_base.specs.declared.entries.Entry.{Entry}
use Rattle.fleet_model.specs.Calls.{answers, entries_of}
use Rattle.fleet_model.specs.Journals.{IsJournal, state_after}
use Rattle.fleet_model.specs.Sound.{IsSoundJournal}
use Rattle.fleet_texts.specs.Answers.{answer_text}
use Rattle.fleet_texts.specs.StateTexts.{state_text}
use Rattle.fleet_texts.specs.Texts.{journal_text}
use Rattle.fleet_texts.specs.Words.{lines_text}
use Rattle.run_base.specs.Openings.{opening_of}
use Rattle.run_base.specs.Sound.{IsLegalReplay}
use Rattle.fleet_script.specs.Script.{ScriptValue, calls_of}

-- the lines of the answers of a script's calls
abbrev pub answer_lines : ScriptValue → List ℕ
answer_lines script = lines_text (map (answer_text script.scenario.names script.scenario.site) (answers (opening_of script.scenario) (calls_of script)))

-- the answers are printed, then a journal of the accepted calls and the state that it reaches; the journal is legal from the opening, sound at each of its places, and what it reports is a legal replay
pub record PrintsSoundly (script : ScriptValue) (text : List ℕ) : Type 0 where
  pub journal : List Entry
  pub accepted : journal ≡ entries_of (opening_of script.scenario) (calls_of script)
  pub printed : text ≡ answer_lines script ++ journal_text script.scenario.names journal ++ state_text script.scenario.names script.scenario.site (state_after (opening_of script.scenario) journal)
  pub legal : IsJournal (opening_of script.scenario) journal
  pub sound : IsSoundJournal (opening_of script.scenario) journal
  pub reported : IsLegalReplay (state_after (opening_of script.scenario) journal).fleet
