-- An accepted call leads to a state of the book with its entry.
use Rattle.std.proofs.Common.{◌≡◌, ℕ, arith, List, [], ◌∷◌, ◌++◌, Some, sym, ap, subst, ◌∙◌, refl}
use Rattle.std.proofs.lemmas.List.{length-append}
use Rattle.fleet_base.specs.declared.entries.Entry.{Entry}
use Rattle.fleet_model.specs.Sites.{IsSite}
use Rattle.fleet_model.specs.States.{State}
use Rattle.fleet_model.specs.Calls.{Call, turn}
use Rattle.fleet_model.specs.Journals.{IsJournal, state_after, turn_at}
use Rattle.fleet_model.proofs.Accepted.{accepts}
use Rattle.fleet_model.proofs.Changes.{Accepts, Change, Cut, Did, Dropped, Grew, Kept, changed_cap, changed_count, changed_site, changed_starts, changed}
use Rattle.fleet_model.proofs.Soundness.{state_after-append}
use Rattle.fleet_model.proofs.Turns.{call_good, IsOwnCall, own_call}
use Rattle.site_map.specs.Claims.{site_of}
use Rattle.coordinator.specs.Books.{Book, opening_of, state_of, with_entries}
use Rattle.coordinator.specs.Kept.{IsStateOf}

-- a legal journal with an entry that its state accepts is legal
journal_more : (s : State) (before : List Entry) (entry : Entry) → IsJournal s before → (turn_at (state_after s before) entry).entry ≡ Some entry → IsJournal s (before ++ entry ∷ [])
journal_more s [] entry legal is = (is, tt)
journal_more s (e ∷ es) entry legal is = (legal.0, journal_more (turn_at s e).after es entry legal.1 is)

-- all that is known of a book
pub record Stands (book : Book) : Type 0 where
  pub site : IsSite (site_of book.site)
  pub legal : IsJournal (opening_of book) book.journal
  pub state : IsStateOf (state_of book) book

changed_first : (s : State) (r : ℕ) (c : Change) → (changed s r c).fleet.first ≡ s.fleet.first
changed_first s r (Grew route) = refl
changed_first s r (Kept route) = refl
changed_first s r Dropped = refl
changed_first s r Cut = refl
changed_first s r (Did e) = refl

module _ (book : Book) (r : ℕ) (call : Call) (entry : Entry) (stands : Stands book) (gives : (turn (state_of book) r call).entry ≡ Some entry) where
  site_now : IsSite (state_of book).fleet.site
  site_now = subst IsSite (sym stands.state.site) stands.site

  own : IsOwnCall (state_of book) r call entry
  own = own_call (state_of book) r call entry site_now gives

  -- the book with the entry reaches the state that the call leaves
  pub reaches : state_of (with_entries book (entry ∷ [])) ≡ (turn (state_of book) r call).after
  reaches = state_after-append (opening_of book) book.journal (entry ∷ []) ∙ own.after

  how : Accepts (state_of book) r entry (turn (state_of book) r call).after
  how = accepts (state_of book) r call entry site_now stands.state.good gives

  state_next : IsStateOf (turn (state_of book) r call).after (with_entries book (entry ∷ []))
  state_next = record {
    site = ap (λ (s : State). s.fleet.site) how.after_is ∙ changed_site (state_of book) r how.change ∙ stands.state.site;
    starts = ap (λ (s : State). s.fleet.starts) how.after_is ∙ changed_starts (state_of book) r how.change ∙ stands.state.starts;
    first = ap (λ (s : State). s.fleet.first) how.after_is ∙ changed_first (state_of book) r how.change ∙ stands.state.first;
    cap = ap (λ (s : State). s.cap) how.after_is ∙ changed_cap (state_of book) r how.change ∙ stands.state.cap;
    count = omega (arith, ap (λ (s : State). s.count) how.after_is, changed_count (state_of book) r how.change, stands.state.count, length-append book.journal (entry ∷ []));
    good = (call_good (state_of book) r call site_now stands.state.good).0;
  }

  pub stands_next : Stands (with_entries book (entry ∷ []))
  stands_next = record {
    site = stands.site;
    legal = journal_more (opening_of book) book.journal entry stands.legal own.gives;
    state = subst (λ s. IsStateOf s (with_entries book (entry ∷ []))) (sym reaches) state_next;
  }
