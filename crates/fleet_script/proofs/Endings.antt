-- What there is in the end of commands that are carried out one after the other.
use Rattle.std.proofs.Common.{◌≡◌, ℕ, List, [], ◌∷◌, ◌++◌, map, sym, ap, ◌∙◌, append_assoc}
use Rattle.std.proofs.lemmas.List.{append-nil}
use Rattle.std.specs.Option.{option_to_list}
use Rattle.fleet_base.specs.declared.entries.Entry.{Entry}
use Rattle.fleet_commands.specs.Commands.{call_of}
use Rattle.fleet_commands.specs.declared.command.Command.{Command}
use Rattle.fleet_model.specs.Calls.{Call, after_calls, answers, entries_of, turn}
use Rattle.fleet_model.specs.States.{State}
use Rattle.fleet_names.specs.Names.{Named}
use Rattle.fleet_texts.specs.Answers.{answer_text}
use Rattle.fleet_texts.specs.Words.{lines_text}
use Rattle.coordinator.specs.Books.{Book, state_of, with_entries}
use Rattle.fleet_script.specs.Carried.{AreAnswered, IsAnswered}

-- what there is in the end, if these commands are still to be carried out: the text, the book and its state
abbrev pub in_the_end : Named → List Command → Book → List ℕ → List ℕ × Book × State
in_the_end names commands book text = (
  text ++ lines_text (map (answer_text names book.site) (answers (state_of book) (map (call_of book.site) commands))),
  with_entries book (entries_of (state_of book) (map (call_of book.site) commands)),
  after_calls (state_of book) (map (call_of book.site) commands),
)

module _ (names : Named) (command : Command) (rest : List Command) (old : Book) (before : List ℕ) where
  abbrev made : ℕ × Call
  made = call_of old.site command

  abbrev line : List ℕ
  line = answer_text names old.site (turn (state_of old) made.0 made.1).answer

  abbrev entries : List Entry
  entries = option_to_list (turn (state_of old) made.0 made.1).entry

  abbrev next : State
  next = (turn (state_of old) made.0 made.1).after

  abbrev left : List (ℕ × Call)
  left = map (call_of old.site) rest

  -- a command that was carried out changes nothing of it
  with_state : (s : State) → s ≡ next
      → (let end : List ℕ × Book × State = (((before ++ line) ++ 10 ∷ []) ++ lines_text (map (answer_text names old.site) (answers s left)), with_entries (with_entries old entries) (entries_of s left), after_calls s left) in end) ≡ in_the_end names (command ∷ rest) old before
  with_state s is =
      let lines = lines_text (map (answer_text names old.site) (answers next left)) in
      let told : ((before ++ line) ++ 10 ∷ []) ++ lines ≡ before ++ ((line ++ 10 ∷ []) ++ lines) = ap (λ t. t ++ lines) (append_assoc before line (10 ∷ [])) ∙ append_assoc before (line ++ 10 ∷ []) lines in
      let kept : with_entries (with_entries old entries) (entries_of next left) ≡ with_entries old (entries ++ entries_of next left) = ap (λ j. record old { journal = j }) (append_assoc old.journal entries (entries_of next left)) in
      rw is (ap (λ t. (t, with_entries (with_entries old entries) (entries_of next left), after_calls next left)) told ∙ ap (λ b. (before ++ ((line ++ 10 ∷ []) ++ lines), b, after_calls next left)) kept)

  pub carried : (new : Book) (told after : List ℕ) → IsAnswered names made.0 made.1 old new before told → state_of new ≡ next → after ≡ told ++ 10 ∷ [] → in_the_end names rest new after ≡ in_the_end names (command ∷ rest) old before
  carried new told after is state line_is =
      ap (in_the_end names rest new) (line_is ∙ ap (λ t. t ++ 10 ∷ []) is.told)
      ∙ ap (λ b. in_the_end names rest b ((before ++ line) ++ 10 ∷ [])) is.book
      ∙ with_state (state_of (with_entries old entries)) (ap state_of (sym is.book) ∙ state)

-- nothing is left to be carried out
pub all_carried : (names : Named) (commands : List Command) (old new : Book) (before after : List ℕ) → in_the_end names [] new after ≡ in_the_end names commands old before → AreAnswered names (map (call_of old.site) commands) old new before after
all_carried names commands old new before after is = record {
  told = sym (append-nil after) ∙ ap (λ end. end.0) is;
  book = ap (λ entries. record new { journal = entries }) (sym (append-nil new.journal)) ∙ ap (λ end. end.1) is;
  state = ap (λ end. end.2) is;
}
