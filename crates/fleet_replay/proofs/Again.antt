-- A printed run behind its scenario is taken.
use Rattle.std.proofs.Common.{◌≡◌, ◌⊎◌, inl, inr, ℕ, ◌+◌, ◌<◌, ◌≤◌, ◌==◌, ◌||◌, Bool, true, false, eqb, List, [], ◌∷◌, ◌++◌, length, drop, Ok, Result, refl, sym, ap, ◌∙◌, arith}
use Rattle.std.proofs.lemmas.Bool.{eqb-true}
use Rattle.std.proofs.lemmas.List.{drop-drop}
use Rattle.std.proofs.lemmas.List.Elements.{All-get_or}
use Rattle.std.proofs.lemmas.Option.{get_or_from_slice_get, slice_get_within}
use Rattle.std.proofs.lemmas.Slice.Eq.{bytes_eq-Decides}
use Rattle.std.proofs.Math.Seq.{drop-append_seam}
use Rattle.fleet_base.specs.declared.entries.Entry.{Entry}
use Rattle.fleet_base.specs.declared.marks.Mark.{Mark}
use Rattle.fleet_base.specs.declared.numbers.CellNo.{CellNo}
use Rattle.fleet_model.specs.Journals.{IsJournal}
use Rattle.fleet_model.specs.Segments.{inner_marks, mark_at}
use Rattle.fleet_model.proofs.Counts.{journal_counts}
use Rattle.fleet_model.proofs.GoodStates.{journal_good}
use Rattle.fleet_model.proofs.Marks.{last_mark}
use Rattle.fleet_names.specs.Names.{Named}
use Rattle.run_base.specs.Openings.{is_one_segment, opening_of, reached_text}
use Rattle.run_base.proofs.BegunFronts.{IsBegun, front_begun}
use Rattle.run_base.proofs.Runs.{opens}
use Rattle.run_base.proofs.Sites.{cells_are}
use Rattle.fleet_texts.specs.Texts.{journal_text}
use Rattle.journal_replay.proofs.Differing.{legal_none}
use Rattle.plan_journal.specs.Reading.{Front, journal_of}
use Rattle.plan_journal.proofs.Again.{journal_again}
use Rattle.scenario.specs.Scenarios.{ScenarioValue}
use Rattle.scenario_reader.specs.Tables.{mapped}
use Rattle.fleet_replay.specs.Printed.{IsPrintedRun}
use Rattle.fleet_replay.specs.Replay.{ReplayValue, numbered_on, printed_or, replay_of, replay_text, replay_value, unless_differs, with_header, with_journal, with_tail}
use Rattle.fleet_replay.specs.Tails.{is_tail}
use Rattle.fleet_replay.specs.declared.refused.ReplayFault.{ReplayFault}
use Rattle.fleet_replay.proofs.Printables.{IsNamed, legal_printable}

-- a state that a scenario opens with has names for its robots and cells
opening_named : (scenario : ScenarioValue) → IsBegun scenario → IsNamed scenario.names (opening_of scenario)
opening_named scenario begun =
    let cells = cells_are scenario.site in
    record {
      site = begun.site;
      good = opens scenario begun.fits;
      cells = cells ∙ sym begun.fits.named.cells;
      robots = sym begun.fits.named.robots;
      few = begun.fits.few;
      starts = λ r a at.
          let within = slice_get_within scenario.starts r a at in
          let known = All-get_or (λ (c : CellNo). c.0 < scenario.site.cells) scenario.starts r a within begun.fits.starts in
          let here = ap (λ (c : CellNo). c.0) (get_or_from_slice_get scenario.starts r a a at) in
          omega (arith, known, here, cells);
      cap = omega arith;
    }

-- of marks that are one the last is the first
only_mark : (first : Mark) (later : List Mark) → eqb (length (first ∷ later)) 1 ≡ true → first ∷ later ≡ [] ++ first ∷ []
only_mark first [] one = refl
only_mark first (mark ∷ later) one = absurd (let count = eqb-true (length (first ∷ mark ∷ later)) 1 one in omega arith)

-- a legal journal that is one segment has at most as many entries as the cap says
segment_few : (scenario : ScenarioValue) (entries : List Entry) → IsBegun scenario → IsJournal (opening_of scenario) entries → is_one_segment (opening_of scenario) entries ≡ true → length entries ≤ 1000000
segment_few scenario entries begun legal one =
    let opening = opening_of scenario in
    let good = opens scenario begun.fits in
    let counts = journal_counts opening entries begun.site good legal in
    let count = counts.0 in
    let cap = counts.1 in
    let base = last_mark opening begun.site good refl refl entries legal [] (mark_at opening) (only_mark (mark_at opening) (inner_marks opening entries) one) in
    let room = (journal_good opening entries begun.site good legal).0.room in
    omega (arith, count, cap, base, room)

-- a journal of one segment has the first line that it would be printed with
header_taken : (replay : ReplayValue) (state : List ℕ) → is_one_segment (opening_of replay.scenario) replay.entries ≡ true → (let r : Result (List ℕ) ReplayFault = Ok state in with_header replay r ≡ Ok state)
header_taken replay state one = rw one refl

-- a tail that is the state's text may stand there, and so may none
tail_taken : (state tail : List ℕ) → is_tail state tail ≡ true → (replay : ReplayValue) → replay.tail ≡ tail → (let r : Result (List ℕ) ReplayFault = Ok state in with_tail replay r ≡ Ok state)
tail_taken state tail good replay is = rw (is, good) refl

or_true : (b : Bool) → (b || true) ≡ true
or_true true = refl
or_true false = refl

same_tail : (state : List ℕ) → is_tail state state ≡ true
same_tail state = ap (λ b. length state == 0 || b) ((bytes_eq-Decides state state).1 refl) ∙ or_true (length state == 0)

-- a tail that agrees may stand there
agreeing : (state tail : List ℕ) → (tail ≡ []) ⊎ (tail ≡ state) → is_tail state tail ≡ true
agreeing state tail (inl none) = ap (is_tail state) none
agreeing state tail (inr same) = ap (is_tail state) same ∙ same_tail state

pub run_taken : (input : List ℕ) (run : IsPrintedRun input) → replay_text input ≡ Ok (reached_text run.front.scenario run.entries)
run_taken input run =
    ap printed_or is_read
    ∙ ap (λ o. with_tail replay (with_header replay (unless_differs o state))) (legal_none (opening_of run.front.scenario) run.entries run.legal)
    ∙ ap (with_tail replay) (header_taken replay state run.segment)
    ∙ tail_taken state run.tail (agreeing state run.tail run.agrees) replay tail_is
  where
    begun : IsBegun run.front.scenario
    begun = front_begun input run.front run.begins

    names : Named
    names = run.front.scenario.names

    state : List ℕ
    state = reached_text run.front.scenario run.entries

    journal : List ℕ
    journal = journal_text names run.entries

    read : Front
    read = record { entries = run.entries; used = length journal; lines = length run.entries + 2 }

    replay : ReplayValue
    replay = replay_value run.front read input

    journal_is : journal_of names (drop run.front.used input) ≡ Ok read
    journal_is = ap (journal_of names) run.behind ∙ journal_again names run.entries run.tail begun.declared (segment_few run.front.scenario run.entries begun run.legal run.segment) (legal_printable names begun.declared (opening_of run.front.scenario) run.entries (opening_named run.front.scenario begun) run.legal)

    is_read : replay_of input ≡ Ok replay
    is_read = ap (with_journal input) run.begins ∙ ap (λ r. mapped (λ (j : Front). replay_value run.front j input) (numbered_on run.front.lines r)) journal_is

    tail_is : replay.tail ≡ run.tail
    tail_is = sym (drop-drop (length journal) run.front.used input) ∙ ap (drop (length journal)) run.behind ∙ drop-append_seam journal run.tail
