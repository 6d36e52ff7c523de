-- What a coordinator that replayed a journal says of it.
use Rattle.std.proofs.Common.{◌≡◌, ℕ, ◌+◌, ◌-◌, List, [], ◌∷◌, ◌++◌, length, take, Option, Some, None, Ok, Err, Result, sym, ap, subst, ◌∙◌, append_assoc, arith}
use Rattle.std.proofs.Math.Seq.{take-append_seam}
use Rattle.std.proofs.lemmas.List.{append-nil, length-append}
use Rattle.fleet_base.specs.declared.entries.Entry.{Entry}
use Rattle.fleet_base.specs.declared.limits.TheConstants.{MAX_CAP}
use Rattle.fleet_base.specs.declared.numbers.CellNo.{CellNo}
use Rattle.coordinator.specs.Books.{Book, opening_of as book_opening, start_book, state_of, with_entries}
use Rattle.fleet_model.specs.Good.{IsGood}
use Rattle.fleet_model.specs.Journals.{IsJournal, state_after}
use Rattle.fleet_model.specs.Sites.{IsSite}
use Rattle.fleet_model.specs.States.{State, start_state}
use Rattle.fleet_names.specs.Names.{Named}
use Rattle.fleet_texts.specs.StateTexts.{state_text}
use Rattle.journal_replay.specs.Differing.{DiffersAt}
use Rattle.journal_replay.specs.Taken.{IsGiven, IsReplayed}
use Rattle.journal_replay.specs.declared.refused.EntriesRefused.{EntriesRefused}
use Rattle.journal_replay.specs.declared.refused.EntriesRefused.TheVariants as replaying
use Rattle.journal_replay.proofs.Differing.{legal_none, one_differs}
use Rattle.journal_replay.proofs.Standing.{given_more, last_given}
use Rattle.plan_journal.specs.Left.{IsRead, IsReadOn, front_to, left}
use Rattle.plan_journal.specs.Reading.{Front, journal_of}
use Rattle.plan_journal.specs.declared.reading.Place.{Place}
use Rattle.plan_journal.specs.declared.reading.ReadJournalRefused.{ReadJournalRefused}
use Rattle.plan_journal.specs.declared.reading.ReadJournalRefused.TheVariants.{Bad, NoMemory}
use Rattle.scenario.specs.Scenarios.{ScenarioValue}
use Rattle.site_map.specs.Built.{BuiltSite}
use Rattle.site_map.specs.Claims.{site_of}
use Rattle.run_base.specs.Openings.{opening_of, reached_text}
use Rattle.run_base.specs.Sound.{IsSoundRun}
use Rattle.run_base.proofs.Runs.{sound_run as run_sound}
use Rattle.fleet_replay.specs.Replay.{unless_differs}
use Rattle.fleet_replay.specs.declared.refused.ReplayFault.{ReplayFault}
use Rattle.fleet_replay.specs.Stops.{Fails, of_entries, of_journal, run_of}

-- the book of a coordinator that replayed these entries
abbrev pub book_of : ScenarioValue → List Entry → Book
book_of scenario entries = record (start_book scenario.site scenario.starts MAX_CAP) { journal = entries }

module _ (scenario : ScenarioValue) (entries : List Entry) (book : Book) (is : book ≡ book_of scenario entries) where
  -- its journal is sound
  pub sound_run : IsSite (site_of book.site) → IsGood (book_opening book) → IsJournal (book_opening book) book.journal → IsSoundRun scenario entries
  sound_run is_site opens legal =
      run_sound scenario entries (subst (λ (b : Book). IsSite (site_of b.site)) is is_site) (subst (λ (b : Book). IsGood (book_opening b)) is opens)
      (subst (λ (b : Book). IsJournal (book_opening b) b.journal) is legal)

  -- and its state's text is the one that is reached
  pub text_reached : {text : List ℕ} → text ≡ state_text scenario.names book.site (state_of book) → text ≡ reached_text scenario entries
  text_reached told = told ∙ ap (λ (b : Book). state_text scenario.names b.site (state_of b)) is

-- A journal that is replayed as it is read.
module _ (names : Named) (text : List ℕ) (site : BuiltSite) (starts : List CellNo) where
  abbrev opening : State
  opening = start_state (site_of site) starts MAX_CAP

  -- the coordinator's journal is legal and stands above what is left of the text
  pub record Stands (book : Book) (end : Place) : Type 0 where
    pub book_is : book ≡ record (start_book site starts MAX_CAP) { journal = book.journal }
    pub legal : IsJournal opening book.journal
    pub rest : left names text book.journal end ≡ journal_of names text
    pub count : end.lines ≡ length book.journal + 1

  -- what is read of the line behind a place, whatever was read before
  abbrev pub Reads : Place → Place → Option Entry → Type 0
  Reads end new said = (entries : List Entry) → end.lines ≡ length entries + 1 → IsRead names text entries end new (Ok said)

  -- what is read on from a place
  abbrev pub ReadsOn : Place → Result (Unit {0}) ReadJournalRefused → Type 0
  ReadsOn place result = (entries : List Entry) → place.lines ≡ length entries + 1 → IsReadOn entries (left names text entries place) result

module _ {names : Named} {text : List ℕ} {site : BuiltSite} {starts : List CellNo} {book : Book} {end : Place} (new : Place) (stands : Stands names text site starts book end) where
  abbrev due : Result Front ReplayFault
  due = run_of (opening names text site starts) (journal_of names text)

  -- at the journal's end it is replayed
  pub run_ends : {said : Option Entry} → said ≡ None → Reads names text site starts end new said → due ≡ Ok (front_to book.journal new)
  run_ends none read =
      let is : IsRead names text book.journal end new (Ok None) = subst (λ o. IsRead names text book.journal end new (Ok o)) none (read book.journal stands.count) in
      ap (run_of (opening names text site starts)) (sym stands.rest ∙ is)
      ∙ ap (λ o. unless_differs o (front_to book.journal new)) (legal_none (opening names text site starts) book.journal stands.legal)

  -- a line that is bad is named
  pub line_fails : (cause : ReadJournalRefused) → ((entries : List Entry) → end.lines ≡ length entries + 1 → IsRead names text entries end new (Err cause)) → Fails (of_journal cause) due
  line_fails (Bad at) read = ap (run_of (opening names text site starts)) (sym stands.rest ∙ read book.journal stands.count)
  line_fails NoMemory read = tt

  module _ {entry : Entry} {said : Option Entry} (some : said ≡ Some entry) (read : Reads names text site starts end new said) (moved : new.lines ≡ end.lines + 1) where
    abbrev above : List Entry
    above = book.journal ++ entry ∷ []

    is : left names text book.journal end ≡ left names text above new
    is = subst (λ o. IsRead names text book.journal end new (Ok o)) some (read book.journal stands.count)

    more_lines : new.lines ≡ length above + 1
    more_lines = let count = stands.count in let grown = length-append book.journal (entry ∷ []) in omega (arith, moved, count, grown)

    here : state_of book ≡ state_after (opening names text site starts) book.journal
    here = ap state_of stands.book_is

    -- an entry that is given is one more
    pub stands_on : {after : Book} → IsReplayed entry book (Ok after) → Stands names text site starts after new
    stands_on taken = subst (λ b. Stands names text site starts b new) (sym taken.1) (record {
      book_is = ap (λ b. with_entries b (entry ∷ [])) stands.book_is;
      legal = given_more (opening names text site starts) book.journal entry stands.legal (subst (λ s. IsGiven s entry) here taken.0);
      rest = sym is ∙ stands.rest;
      count = more_lines;
    })

    -- one that isn't is the first that differs
    differs_first : (more : List Entry) (n : ℕ) → (IsGiven (state_of book) entry → ⊥) → n ≡ length book.journal + 1 → DiffersAt (opening names text site starts) (above ++ more) n
    differs_first more n differs number =
        let grown = length-append book.journal (entry ∷ []) in
        let whole = length-append above more in
        let before : n - 1 ≡ length book.journal = omega (arith, number) in
        let upto : n ≡ length above = omega (arith, number, grown) in
        record {
          place = (omega (arith, number), omega (arith, number, grown, whole));
          before = subst (IsJournal (opening names text site starts)) (sym (ap (λ k. take k (above ++ more)) before ∙ ap (take (length book.journal)) (append_assoc book.journal (entry ∷ []) more) ∙ take-append_seam book.journal (entry ∷ more))) stands.legal;
          differs = λ all. differs (subst (λ s. IsGiven s entry) (sym here) (last_given (opening names text site starts) book.journal entry (subst (IsJournal (opening names text site starts)) (ap (λ k. take k (above ++ more)) upto ∙ take-append_seam above more) all)));
        }

    -- and named, where the rest has no bad line
    pub entry_fails : (cause : EntriesRefused) → IsReplayed entry book (Err cause) → ReadsOn names text site starts new (Ok tt) → Fails (of_entries cause) due
    entry_fails (replaying.Differs n) taken on =
        let rest = on above more_lines in
        let found : journal_of names text ≡ Ok (front_to (above ++ rest.0) rest.1) = sym stands.rest ∙ is ∙ rest.2 in
        ap (run_of (opening names text site starts)) found ∙ ap (λ o. unless_differs o (front_to (above ++ rest.0) rest.1)) (one_differs (opening names text site starts) (above ++ rest.0) n (differs_first rest.0 n taken.0 taken.1))
    entry_fails replaying.NoMemory taken on = tt

    -- a bad line among the rest goes before it
    pub rest_fails : (cause : ReadJournalRefused) → ReadsOn names text site starts new (Err cause) → Fails (of_journal cause) due
    rest_fails (Bad at) on = ap (run_of (opening names text site starts)) (sym stands.rest ∙ is ∙ on above more_lines)
    rest_fails NoMemory on = tt
