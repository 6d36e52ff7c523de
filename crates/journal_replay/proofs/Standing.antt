-- The entries that were replayed so far.
use Rattle.std.proofs.Common.{◌≡◌, ℕ, ◌+◌, ◌-◌, ◌<◌, List, [], ◌∷◌, ◌++◌, length, take, get_or, Ok, Err, Result, sym, ap, subst, ◌∙◌, arith}
use Rattle.std.specs.Prelude.{IfErr}
use Rattle.std.specs.Result.{IsErrAnd}
use Rattle.std.proofs.lemmas.List.{length-take, take_more}
use Rattle.fleet_base.specs.declared.entries.Entry.{Entry}
use Rattle.coordinator.specs.Books.{Book, opening_of, state_of}
use Rattle.fleet_model.specs.Journals.{IsJournal, state_after, turn_at}
use Rattle.fleet_model.specs.States.{State}
use Rattle.journal_replay.specs.Differing.{DiffersAt}
use Rattle.journal_replay.specs.Refusals.{OnEntry}
use Rattle.journal_replay.specs.Taken.{IsGiven, IsReplayed}
use Rattle.journal_replay.specs.declared.refused.EntriesRefused.{EntriesRefused}
use Rattle.journal_replay.specs.declared.refused.EntriesRefused.TheVariants.{Differs, NoMemory}

-- a legal journal with one more entry that is given is legal
pub given_more : (s : State) (before : List Entry) (entry : Entry) → IsJournal s before → IsGiven (state_after s before) entry → IsJournal s (before ++ entry ∷ [])
given_more s [] entry is given = (given, tt)
given_more s (e ∷ es) entry is given = (is.0, given_more (turn_at s e).after es entry is.1 given)

-- and the last entry of a legal journal is given
pub last_given : (s : State) (before : List Entry) (entry : Entry) → IsJournal s (before ++ entry ∷ []) → IsGiven (state_after s before) entry
last_given s [] entry is = is.0
last_given s (e ∷ es) entry is = last_given (turn_at s e).after es entry is.1

-- the book of a coordinator that these entries were replayed on
abbrev pub book_of : Book → List Entry → Book
book_of opened entries = record opened { journal = entries }

module _ (opened : Book) (entries : List Entry) (i : ℕ) (entry : Entry) (within : i < length entries) (at : get_or entries i entry ≡ entry) where
  abbrev opening : State
  opening = opening_of opened

  pub more : take (i + 1) entries ≡ take i entries ++ entry ∷ []
  more = take_more entries i entry within ∙ ap (λ e. take i entries ++ e ∷ []) at

  -- an entry that is given is replayed too
  pub stands_more : (book : Book) → book ≡ book_of opened (take i entries) → IsJournal opening (take i entries) → IsGiven (state_of book) entry → IsJournal opening (take (i + 1) entries)
  stands_more book is replayable given = subst (IsJournal opening) (sym more) (given_more opening (take i entries) entry replayable (subst (λ (b : Book). IsGiven (state_of b) entry) is given))

  -- one that isn't is the first that differs
  differs_here : (book : Book) (number : ℕ) → book ≡ book_of opened (take i entries) → IsJournal opening (take i entries) → (IsGiven (state_of book) entry → ⊥) → number ≡ length book.journal + 1 → DiffersAt opening entries number
  differs_here book number is replayable differs numbers =
      let count : length book.journal ≡ i = ap (λ (b : Book). length b.journal) is ∙ length_first in
      let next : number ≡ i + 1 = omega (arith, numbers, count) in
      let before : number - 1 ≡ i = omega (arith, next) in
      record {
        place = (omega (arith, next), omega (arith, next, within));
        before = subst (λ n. IsJournal opening (take n entries)) (sym before) replayable;
        differs = λ all. differs (subst (λ (b : Book). IsGiven (state_of b) entry) (sym is) (last_given opening (take i entries) entry (subst (IsJournal opening) (ap (λ n. take n entries) next ∙ more) all)));
      }
    where
      length_first : length (take i entries) ≡ i
      length_first = simp length-take (omega (arith, within))

  -- so a refusal that names an entry names the first that differs
  pub refused_here : (book : Book) (cause : EntriesRefused) → book ≡ book_of opened (take i entries) → IsJournal opening (take i entries) → IsReplayed entry book (Err cause) → OnEntry (DiffersAt opening entries) cause
  refused_here book (Differs number) is replayable replayed = differs_here book number is replayable replayed.0 replayed.1
  refused_here book NoMemory is replayable replayed = tt

-- what is handed on keeps what holds of it
pub kept_on : {A E : Type 0} (P : E → Type 0) (result : Result A E) (cause : E) → IsErrAnd result (λ e. e ≡ cause) → P cause → IfErr result P
kept_on P (Ok a) cause is holds = tt
kept_on P (Err e) cause is holds = subst P (sym is) holds
