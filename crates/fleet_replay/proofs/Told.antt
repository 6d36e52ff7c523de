-- What is told of a scenario with a journal behind it.
use Rattle.std.proofs.Common.{◌≡◌, ℕ, ◌+◌, ◌==◌, Bool, true, false, if◌then◌else◌, List, length, drop, Option, Some, None, Ok, Err, Result, refl, sym, ap, subst, ◌∙◌}
use Rattle.std.proofs.lemmas.List.{drop-drop}
use Rattle.coordinator.specs.Books.{Book, opening_of as book_opening, start_book, state_of}
use Rattle.fleet_base.specs.declared.limits.TheConstants.{MAX_CAP}
use Rattle.fleet_base.specs.declared.marks.Mark.{Mark}
use Rattle.fleet_base.specs.declared.numbers.CellNo.{CellNo}
use Rattle.fleet_model.specs.Good.{IsGood}
use Rattle.fleet_model.specs.Journals.{IsJournal}
use Rattle.fleet_model.specs.Segments.{marks}
use Rattle.fleet_model.specs.Sites.{IsSite}
use Rattle.fleet_model.specs.States.{State, start_state}
use Rattle.run_base.specs.Openings.{is_one_segment, opening_of, reached_text}
use Rattle.fleet_texts.specs.StateTexts.{state_text}
use Rattle.journal_replay.specs.Differing.{first_differing}
use Rattle.plan_journal.specs.Reading.{Front, journal_of}
use Rattle.scenario.specs.Scenarios.{ScenarioValue}
use Rattle.scenario_reader.specs.Reading.{FrontValue, front_of}
use Rattle.scenario_reader.specs.Tables.{mapped}
use Rattle.site_lines.specs.declared.fault.At.{At}
use Rattle.site_lines.specs.declared.fault.Code.TheVariants.{T1, T2}
use Rattle.site_map.specs.Claims.{site_of}
use Rattle.fleet_replay.specs.Replay.{ReplayValue, numbered_on, printed_or, replay_of, replay_text, replay_value, state_or, unless_differs, with_header, with_journal, with_tail}
use Rattle.fleet_replay.specs.Sound.{ReplaysSoundly}
use Rattle.fleet_replay.specs.Stops.{Fails, run_of, run_value}
use Rattle.fleet_replay.specs.Tails.{differing_line, is_tail}
use Rattle.fleet_replay.specs.declared.journal.Run.{Run}
use Rattle.fleet_replay.specs.declared.refused.ReplayFault.{ReplayFault}
use Rattle.fleet_replay.specs.declared.refused.ReplayFault.TheVariants.{Line, Entry as EntryFault}
use Rattle.fleet_replay.specs.declared.refused.TextRefused.{TextRefused}
use Rattle.fleet_replay.specs.declared.refused.TextRefused.TheVariants.{Fault, NoMemory}
use Rattle.fleet_replay.proofs.Runs.{book_of, sound_run, text_reached}
use Rattle.fleet_replay.proofs.Stops.{given_run}

module _ (input : List ℕ) (front : FrontValue) (begins : front_of input ≡ Ok front) where
  abbrev opening : State
  opening = opening_of front.scenario

  abbrev read : Result Front At
  read = numbered_on front.lines (journal_of front.scenario.names (drop front.used input))

  abbrev whole : Result Front At → Result ReplayValue At
  whole r = mapped (λ (j : Front). replay_value front j input) r

  fails_unless : (replay : ReplayValue) (j : Front) (o : Option ℕ) (state : List ℕ) (fault : ReplayFault) → unless_differs o j ≡ Err fault → with_tail replay (with_header replay (unless_differs o state)) ≡ Err fault
  fails_unless replay j None state fault is = absurd (cc)
  fails_unless replay j (Some n) state fault is = let same : EntryFault n ≡ fault = cc in ap (λ f. Err f) same

  fails_by : (r : Result Front At) (fault : ReplayFault) → run_of opening r ≡ Err fault → printed_or (whole r) ≡ Err fault
  fails_by (Ok j) fault is = fails_unless (replay_value front j input) j (first_differing opening j.entries) (reached_text front.scenario j.entries) fault is
  fails_by (Err at) fault is = let same : Line at ≡ fault = cc in ap (λ f. Err f) same

  -- what the run is refused for is the text's fault
  run_refused : (refused : TextRefused) → Fails refused (run_of opening read) → Fails refused (replay_text input)
  run_refused (Fault fault) fails = ap (λ r. printed_or (with_journal input r)) begins ∙ fails_by read fault fails
  run_refused NoMemory fails = tt

  -- what the run is of is the text's replay
  run_given : (journal : Front) → run_of opening read ≡ Ok journal → (replay_of input ≡ Ok (replay_value front journal input)) × (first_differing opening journal.entries ≡ None)
  run_given journal is =
      let given = given_run opening read journal is in
      (ap (with_journal input) begins ∙ ap whole given.0, given.1)

-- what a journal with so many marks is checked for, behind so many lines
abbrev header_checked : ℕ → ℕ → Result (Unit {0}) At
header_checked lines count = if count == 1 then Ok tt else Err (record { line = lines + 1; code = T2 })

-- what a tail is checked for
abbrev checked : ℕ → List ℕ → List ℕ → Result (Unit {0}) At
checked lines tail text = if is_tail text tail then Ok tt else Err (record { line = lines + differing_line tail text; code = T1 })

-- What is printed, by what was read.
module _ (input : List ℕ) (replay : ReplayValue) (is : replay_of input ≡ Ok replay) (state : List ℕ) (told : state_or replay.scenario replay.entries ≡ Ok state) where
  abbrev segments : ℕ
  segments = length (marks (opening_of replay.scenario) replay.entries)

  -- the journal's first line isn't the one that it would be printed with
  by_header : (one : Bool) (place at : At) → (let r : Result (Unit {0}) At = Err at in r ≡ (if one then Ok tt else Err place)) → with_tail replay (if one then Ok state else Err (Line place)) ≡ Err (Line at)
  by_header true place at refused = absurd (cc)
  by_header false place at refused = let same : place ≡ at = cc in ap (λ a. Err (Line a)) same

  header_due : (at : At) → Err at ≡ header_checked replay.above segments → replay_text input ≡ Err (Line at)
  header_due at refused = ap printed_or is ∙ ap (λ r. with_tail replay (with_header replay r)) told ∙ by_header (segments == 1) (record { line = replay.above + 1; code = T2 }) at refused

  -- the journal is one segment
  by_one : (one : Bool) (place : At) → (let r : Result (Unit {0}) At = Ok tt in r ≡ (if one then Ok tt else Err place)) → one ≡ true
  by_one true place passed = refl
  by_one false place passed = absurd (cc)

  is_one : Ok tt ≡ header_checked replay.above segments → is_one_segment (opening_of replay.scenario) replay.entries ≡ true
  is_one passed = by_one (segments == 1) (record { line = replay.above + 1; code = T2 }) passed

  by_check : Result (Unit {0}) At → Result (List ℕ) ReplayFault
  by_check (Ok done) = Ok state
  by_check (Err at) = Err (Line at)

  by_tail : (good : Bool) (at : At) → (let due : Result (List ℕ) ReplayFault = if good then Ok state else Err (Line at) in let r : Result (Unit {0}) At = if good then Ok tt else Err at in due ≡ by_check r)
  unfolding by_check
  by_tail true at = refl
  by_tail false at = refl

  by_checked : Ok tt ≡ header_checked replay.above segments → replay_text input ≡ by_check (checked replay.lines replay.tail state)
  by_checked one =
      ap printed_or is
      ∙ ap (λ r. with_tail replay (with_header replay r)) told
      ∙ ap (λ b. with_tail replay (if b then Ok state else Err (Line (record { line = replay.above + 1; code = T2 })))) (is_one one)
      ∙ by_tail (is_tail state replay.tail) (record { line = replay.lines + differing_line replay.tail state; code = T1 })

  text_due : Ok tt ≡ header_checked replay.above segments → Ok tt ≡ checked replay.lines replay.tail state → replay_text input ≡ Ok state
  unfolding by_check
  text_due one passed = by_checked one ∙ ap by_check (sym passed)

  tail_due : Ok tt ≡ header_checked replay.above segments → (at : At) → Err at ≡ checked replay.lines replay.tail state → replay_text input ≡ Err (Line at)
  unfolding by_check
  tail_due one at refused = by_checked one ∙ ap by_check (sym refused)

-- what is due of the run of a journal behind a scenario, and so many lines
abbrev run_due : ScenarioValue → List CellNo → ℕ → List ℕ → Result Front ReplayFault
run_due scenario starts lines behind = run_of (start_state (site_of scenario.site) starts MAX_CAP) (numbered_on lines (journal_of scenario.names behind))

-- The same, in what the caller holds: the scenario by its parts, and the text behind it.
module _ (input : List ℕ) (front : FrontValue) (begins : front_of input ≡ Ok front) {scenario : ScenarioValue} {starts : List CellNo} {behind : List ℕ} (is_scenario : scenario ≡ front.scenario) (are_starts : starts ≡ scenario.starts) (is_behind : behind ≡ drop front.used input) where
  same_due : run_due scenario starts front.lines behind ≡ run_due front.scenario front.scenario.starts front.lines (drop front.used input)
  same_due =
      ap (λ (cells : List CellNo). run_due scenario cells front.lines behind) are_starts
      ∙ ap (run_due scenario scenario.starts front.lines) is_behind
      ∙ ap (λ (s : ScenarioValue). run_due s s.starts front.lines (drop front.used input)) is_scenario

  pub run_fails : (refused : TextRefused) → Fails refused (run_due scenario starts front.lines behind) → Fails refused (replay_text input)
  run_fails refused fails = run_refused input front begins refused (subst (Fails refused) same_due fails)

  module _ (run : Run) (given : run_due scenario starts front.lines behind ≡ Ok (run_value run)) (book_is : run.fleet ≡ record (start_book scenario.site starts MAX_CAP) { journal = run.fleet.journal }) where
    abbrev value : ReplayValue
    value = replay_value front (run_value run) input

    found : (replay_of input ≡ Ok value) × (first_differing (opening_of front.scenario) run.fleet.journal ≡ None)
    found = run_given input front begins (run_value run) (sym same_due ∙ given)

    book_found : run.fleet ≡ book_of front.scenario run.fleet.journal
    book_found = book_is ∙ ap (λ (cells : List CellNo). book_of (record scenario { starts = cells }) run.fleet.journal) are_starts ∙ ap (λ (s : ScenarioValue). book_of s run.fleet.journal) is_scenario

    state_found : state_or value.scenario value.entries ≡ Ok (reached_text front.scenario run.fleet.journal)
    state_found = ap (λ o. unless_differs o (reached_text front.scenario run.fleet.journal)) found.1

    module _ {text : List ℕ} (told : text ≡ state_text scenario.names run.fleet.site (state_of run.fleet)) where
      printed : text ≡ reached_text front.scenario run.fleet.journal
      printed = text_reached front.scenario run.fleet.journal run.fleet book_found (told ∙ ap (λ (s : ScenarioValue). state_text s.names run.fleet.site (state_of run.fleet)) is_scenario)

      state_due : state_or value.scenario value.entries ≡ Ok text
      state_due = state_found ∙ ap (λ t. Ok t) (sym printed)

      pub soundly : IsSite (site_of run.fleet.site) → IsGood (book_opening run.fleet) → IsJournal (book_opening run.fleet) run.fleet.journal → (replay : ReplayValue) → replay_of input ≡ Ok replay → ReplaysSoundly replay text
      soundly is_site opens legal replay here =
          let both = sym found.0 ∙ here in
          let same : value ≡ replay = cc in
          subst (λ (r : ReplayValue). ReplaysSoundly r text) same (record { run = sound_run front.scenario run.fleet.journal run.fleet book_found is_site opens legal; printed = printed })

    module _ {seen : List Mark} (are_marks : seen ≡ marks (book_opening run.fleet) run.fleet.journal) where
      same_header : header_checked front.lines (length seen) ≡ header_checked value.above (length (marks (opening_of value.scenario) value.entries))
      same_header = ap (λ (ms : List Mark). header_checked front.lines (length ms)) (are_marks ∙ ap (λ (b : Book). marks (book_opening b) b.journal) book_found)

      -- a journal of more than one segment is refused for its first line
      pub more_segments : (at : At) → Err at ≡ header_checked front.lines (length seen) → replay_text input ≡ Err (Line at)
      more_segments at refused = header_due input value found.0 (reached_text front.scenario run.fleet.journal) state_found at (refused ∙ same_header)

      module _ (one : Ok tt ≡ header_checked front.lines (length seen)) {text : List ℕ} (told : text ≡ state_text scenario.names run.fleet.site (state_of run.fleet)) {tail state : List ℕ} (is_rest : tail ≡ drop run.end.used behind) (is_state : state ≡ text) where
        same_checked : checked (front.lines + run.end.lines) tail state ≡ checked value.lines value.tail text
        same_checked =
            ap (λ t. checked (front.lines + run.end.lines) t state) (is_rest ∙ ap (drop run.end.used) is_behind ∙ drop-drop run.end.used front.used input)
            ∙ ap (checked value.lines value.tail) is_state

        pub taken : Ok tt ≡ checked (front.lines + run.end.lines) tail state → replay_text input ≡ Ok text
        taken passed = text_due input value found.0 text (state_due told) (one ∙ same_header) (passed ∙ same_checked)

        pub refused_for : (at : At) → Err at ≡ checked (front.lines + run.end.lines) tail state → replay_text input ≡ Err (Line at)
        refused_for at refused = tail_due input value found.0 text (state_due told) (one ∙ same_header) at (refused ∙ same_checked)
