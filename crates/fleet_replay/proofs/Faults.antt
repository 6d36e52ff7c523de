-- What `replay` answers comes of its input.
use Rattle.std.proofs.Common.{◌≡◌, ℕ, ◌+◌, inl, inr, Bool, true, false, if◌then◌else◌, List, drop, Option, Some, None, Ok, Err, Result, refl, sym, ap, subst, ◌∙◌}
use Rattle.site_lines.specs.declared.fault.At.{At}
use Rattle.site_lines.specs.declared.fault.Code.TheVariants.{T1, T2}
use Rattle.site_lines.proofs.Readings.{first_fault}
use Rattle.journal_replay.specs.Differing.{first_differing}
use Rattle.journal_replay.proofs.Differing.{first_differs, none_differs}
use Rattle.plan_journal.specs.Reading.{Begun, Front, ended_lines, journal_of, read_all, read_line}
use Rattle.scenario_reader.specs.Reading.{FrontValue, front_of}
use Rattle.scenario_reader.specs.Tables.{mapped}
use Rattle.form_base.specs.Forms.{done}
use Rattle.form_base.specs.Stops.{Answers, IsAnswer}
use Rattle.form_base.specs.declared.fault.Stop.{Stop}
use Rattle.run_base.specs.Openings.{is_one_segment, opening_of, reached_text}
use Rattle.run_base.proofs.Fronts.{bad_front}
use Rattle.fleet_replay.specs.Form.{IsBadHeader, IsBadJournal, IsBadTail, IsReplayFault, fault_of, replay_form, reported, stop_of}
use Rattle.fleet_replay.specs.Stops.{Fails}
use Rattle.fleet_replay.specs.Replay.{ReplayValue, numbered_on, printed_or, replay_of, replay_text, replay_value, unless_differs, with_header, with_journal, with_tail}
use Rattle.fleet_replay.specs.Sound.{ReplaysSoundly}
use Rattle.fleet_replay.specs.Tails.{differing_line, is_tail}
use Rattle.fleet_replay.specs.declared.refused.ReplayFault.{ReplayFault}
use Rattle.fleet_replay.specs.declared.refused.ReplayFault.TheVariants.{Line, Entry}
use Rattle.fleet_replay.specs.declared.refused.TextRefused.{TextRefused}
use Rattle.fleet_replay.specs.declared.refused.TextRefused.TheVariants.{Fault, NoMemory}

-- a fault is the one that is named
named : (input : List ℕ) (due fault : ReplayFault) → (let r : Result (List ℕ) ReplayFault = Err due in r ≡ Err fault) → IsReplayFault input (fault_of due) → IsReplayFault input (fault_of fault)
named input due fault e is =
    let same : due ≡ fault = cc in
    subst (λ f. IsReplayFault input (fault_of f)) same is

-- the place of a replay's fault may be the first bad line of its journal
bad_journal : (input : List ℕ) (front : FrontValue) (at : At) → front_of input ≡ Ok front → journal_of front.scenario.names (drop front.used input) ≡ Err at → IsBadJournal input (record { line = front.lines + at.line; code = at.code })
unfolding journal_of
bad_journal input front at begins is = record {
  front = front;
  begins = begins;
  line = at.line;
  number = refl;
  bad = first_fault (read_line front.scenario.names) read_all 1 Begun (ended_lines (drop front.used input)) at is;
}

-- or the first entry that differs, or the first line of more than one segment, or the first line of what stands behind the journal that differs
in_state : (input : List ℕ) (replay : ReplayValue) → replay_of input ≡ Ok replay → (o : Option ℕ) → first_differing (opening_of replay.scenario) replay.entries ≡ o → (fault : ReplayFault)
    → with_tail replay (with_header replay (unless_differs o (reached_text replay.scenario replay.entries))) ≡ Err fault → IsReplayFault input (fault_of fault)
in_state input replay is (Some n) first fault e = named input (Entry n) fault e (record { replay = replay; is = is; differs = first_differs (opening_of replay.scenario) replay.entries n first })
in_state input replay is None first fault e = by_header (is_one_segment (opening_of replay.scenario) replay.entries) refl e
  where
    state : List ℕ
    state = reached_text replay.scenario replay.entries

    place : At
    place = record { line = replay.lines + differing_line replay.tail state; code = T1 }

    header : At
    header = record { line = replay.above + 1; code = T2 }

    by_tail : is_one_segment (opening_of replay.scenario) replay.entries ≡ true → (good : Bool) → is_tail state replay.tail ≡ good → (let r : Result (List ℕ) ReplayFault = if good then Ok state else Err (Line place) in r ≡ Err fault) → IsReplayFault input (fault_of fault)
    by_tail one true good e = absurd (cc)
    by_tail one false good e =
        let bad : IsBadTail input place = record { replay = replay; is = is; legal = none_differs (opening_of replay.scenario) replay.entries first; one = one; differs = good; place = refl } in
        named input (Line place) fault e (inr (inr (inr bad)))

    by_header : (one : Bool) → is_one_segment (opening_of replay.scenario) replay.entries ≡ one → with_tail replay (if one then Ok state else Err (Line header)) ≡ Err fault → IsReplayFault input (fault_of fault)
    by_header true one e = by_tail one (is_tail state replay.tail) refl e
    by_header false one e =
        let bad : IsBadHeader input header = record { replay = replay; is = is; legal = none_differs (opening_of replay.scenario) replay.entries first; more = one; place = refl } in
        named input (Line header) fault e (inr (inr (inl bad)))

in_journal : (input : List ℕ) (front : FrontValue) (r : Result Front At) → front_of input ≡ Ok front → journal_of front.scenario.names (drop front.used input) ≡ r → (fault : ReplayFault)
    → printed_or (mapped (λ journal. replay_value front journal input) (numbered_on front.lines r)) ≡ Err fault → IsReplayFault input (fault_of fault)
in_journal input front (Ok journal) begins is fault e =
    let replay = replay_value front journal input in
    let whole : replay_of input ≡ Ok replay = ap (with_journal input) begins ∙ ap (λ r. mapped (λ (j : Front). replay_value front j input) (numbered_on front.lines r)) is in
    in_state input replay whole (first_differing (opening_of replay.scenario) replay.entries) refl fault e
in_journal input front (Err at) begins is fault e = named input (Line (record { line = front.lines + at.line; code = at.code })) fault e (inr (inl (bad_journal input front at begins is)))

in_replay : (input : List ℕ) (r : Result FrontValue At) → front_of input ≡ r → (fault : ReplayFault) → printed_or (with_journal input r) ≡ Err fault → IsReplayFault input (fault_of fault)
in_replay input (Ok front) is fault e = in_journal input front (journal_of front.scenario.names (drop front.used input)) is refl fault e
in_replay input (Err at) is fault e = named input (Line at) fault e (inl (bad_front input at is))

-- a fault that is answered is in the input
pub fault_in : (input : List ℕ) (fault : ReplayFault) → replay_text input ≡ Err fault → IsReplayFault input (fault_of fault)
fault_in input fault is = in_replay input (front_of input) refl fault is

by_cause : (input : List ℕ) (refused : TextRefused) → Fails refused (replay_text input) → Answers replay_form input (Err (stop_of refused))
by_cause input (Fault fault) is = record { may = sym (ap reported is); cause = fault_in input fault is }
by_cause input NoMemory is = tt

pub refused_answer : (input : List ℕ) (refused : TextRefused) {stop : Stop} → stop ≡ stop_of refused → Fails refused (replay_text input) → Answers replay_form input (Err stop)
refused_answer input refused same is = subst (λ (s : Stop). Answers replay_form input (Err s)) (sym same) (by_cause input refused is)

-- a text is that of a replay
by_replay : (r : Result ReplayValue At) (text : List ℕ) → printed_or r ≡ Ok text → (replay : ReplayValue) × (r ≡ Ok replay)
by_replay (Ok replay) text told = (replay, refl)
by_replay (Err at) text told = absurd (cc)

pub text_answer : {input text : List ℕ} → replay_text input ≡ Ok text → ((replay : ReplayValue) → replay_of input ≡ Ok replay → ReplaysSoundly replay text) → IsAnswer replay_form input (Ok (done text))
text_answer {input} {text} told sound =
    let from = by_replay (replay_of input) text told in
    record { may = sym (ap reported told); cause = record { replay = from.0; is = from.1; sound = sound from.0 from.1 } }
