-- A printed run behind its scenario.
use Rattle.std.specs.Prelude.{◌≡◌, ◌⊎◌, ℕ, true, List, [], ◌++◌, drop, Ok}
use Rattle.fleet_base.specs.declared.entries.Entry.{Entry}
use Rattle.fleet_model.specs.Journals.{IsJournal}
use Rattle.run_base.specs.Openings.{is_one_segment, opening_of, reached_text}
use Rattle.fleet_texts.specs.Texts.{journal_text}
use Rattle.scenario_reader.specs.Reading.{FrontValue, front_of}

-- behind a scenario stand the text of a legal journal that is one segment, and the text of the state that it reaches, or nothing more
pub record IsPrintedRun (input : List ℕ) : Type 0 where
  pub front : FrontValue
  pub entries : List Entry
  pub tail : List ℕ
  pub begins : front_of input ≡ Ok front
  pub legal : IsJournal (opening_of front.scenario) entries
  pub segment : is_one_segment (opening_of front.scenario) entries ≡ true
  pub behind : drop front.used input ≡ journal_text front.scenario.names entries ++ tail
  pub agrees : (tail ≡ []) ⊎ (tail ≡ reached_text front.scenario entries)
