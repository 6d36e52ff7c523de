-- What a call that is carried out does to the printed text and to the coordinator's book.
use Rattle.std.specs.Prelude.{◌≡◌, ℕ, List, ◌++◌, map}
use Rattle.std.specs.Option.{option_to_list}
use Rattle.coordinator.specs.Books.{Book, state_of, with_entries}
use Rattle.fleet_model.specs.Calls.{Call, after_calls, answers, entries_of, turn}
use Rattle.fleet_names.specs.Names.{Named}
use Rattle.fleet_texts.specs.Answers.{answer_text}
use Rattle.fleet_texts.specs.Words.{lines_text}

-- a call of robot r: the text gets its answer, and the journal its entry, where it has one
pub record IsAnswered (names : Named) (r : ℕ) (call : Call) (old new : Book) (before after : List ℕ) : Type 0 where
  pub told : after ≡ before ++ answer_text names old.site (turn (state_of old) r call).answer
  pub book : new ≡ with_entries old (option_to_list (turn (state_of old) r call).entry)

-- calls, one after the other: the text gets a line for each answer, and the journal the entries
pub record AreAnswered (names : Named) (calls : List (ℕ × Call)) (old new : Book) (before after : List ℕ) : Type 0 where
  pub told : after ≡ before ++ lines_text (map (answer_text names old.site) (answers (state_of old) calls))
  pub book : new ≡ with_entries old (entries_of (state_of old) calls)
  pub state : state_of new ≡ after_calls (state_of old) calls
