-- The form `replay`.
use Rattle.std.specs.Prelude.{◌≡◌, ◌⊎◌, ℕ, ◌+◌, true, false, List, Some, drop, Ok, Err, Result}
use Rattle.fleet_model.specs.Journals.{IsJournal}
use Rattle.journal_replay.specs.Differing.{DiffersAt}
use Rattle.plan_journal.specs.Reading.{Begun, ended_lines, read_all, read_line}
use Rattle.scenario_reader.specs.Reading.{FrontValue, front_of}
use Rattle.site_lines.specs.declared.fault.At.{At}
use Rattle.site_lines.specs.declared.fault.Code.TheVariants.{T1, T2}
use Rattle.site_lines.specs.Readings.{IsFirstFault}
use Rattle.form_base.specs.declared.fault.Fault.{Fault}
use Rattle.form_base.specs.declared.fault.Fault.TheVariants as faults
use Rattle.form_base.specs.declared.fault.Stop.{Stop}
use Rattle.form_base.specs.declared.fault.Stop.TheVariants.{NoMemory, Refused}
use Rattle.form_base.specs.Forms.{FormSpec, Report, done, of_function}
use Rattle.run_base.specs.Openings.{IsBadFront, is_one_segment, opening_of, reached_text}
use Rattle.fleet_replay.specs.Replay.{ReplayValue, replay_of, replay_text}
use Rattle.fleet_replay.specs.Sound.{ReplaysSoundly}
use Rattle.fleet_replay.specs.Tails.{differing_line, is_tail}
use Rattle.fleet_replay.specs.declared.refused.ReplayFault.{ReplayFault}
use Rattle.fleet_replay.specs.declared.refused.ReplayFault.TheVariants.{Line, Entry}
use Rattle.fleet_replay.specs.declared.refused.TextRefused.{TextRefused}
use Rattle.fleet_replay.specs.declared.refused.TextRefused.TheVariants as refused

-- the input begins with a scenario, and this is the first bad line of the journal behind it, counted on from the scenario's lines
pub record IsBadJournal (input : List ℕ) (at : At) : Type 0 where
  pub front : FrontValue
  pub begins : front_of input ≡ Ok front
  pub line : ℕ
  pub number : at.line ≡ front.lines + line
  pub bad : IsFirstFault (read_line front.scenario.names) read_all 1 Begun (ended_lines (drop front.used input)) (record { line = line; code = at.code })

-- the journal is legal, and more than one segment, so that this, its first line, isn't the one that it would be printed with
pub record IsBadHeader (input : List ℕ) (at : At) : Type 0 where
  pub replay : ReplayValue
  pub is : replay_of input ≡ Ok replay
  pub legal : IsJournal (opening_of replay.scenario) replay.entries
  pub more : is_one_segment (opening_of replay.scenario) replay.entries ≡ false
  pub place : at ≡ record { line = replay.above + 1; code = T2 }

-- the journal is legal and one segment, and this is the first line in which what stands behind it differs from the state's text
pub record IsBadTail (input : List ℕ) (at : At) : Type 0 where
  pub replay : ReplayValue
  pub is : replay_of input ≡ Ok replay
  pub legal : IsJournal (opening_of replay.scenario) replay.entries
  pub one : is_one_segment (opening_of replay.scenario) replay.entries ≡ true
  pub differs : is_tail (reached_text replay.scenario replay.entries) replay.tail ≡ false
  pub place : at ≡ record { line = replay.lines + differing_line replay.tail (reached_text replay.scenario replay.entries); code = T1 }

-- the first bad line of an input: of its scenario, of the journal behind it, the first of a journal of more than one segment, or the first of what stands behind that differs
abbrev pub IsBadReplay : List ℕ → At → Type 0
IsBadReplay input at = IsBadFront input at ⊎ (IsBadJournal input at ⊎ (IsBadHeader input at ⊎ IsBadTail input at))

-- the input is a replay, and this is the first of its entries that differs
pub record IsEntryFault (input : List ℕ) (entry : ℕ) : Type 0 where
  pub replay : ReplayValue
  pub is : replay_of input ≡ Ok replay
  pub differs : DiffersAt (opening_of replay.scenario) replay.entries entry

-- what a fault says of the input: other faults don't come
abbrev pub IsReplayFault : List ℕ → Fault → Type 0
IsReplayFault input (faults.Line at) = IsBadReplay input at
IsReplayFault input faults.TooBig = ⊥
IsReplayFault input faults.UnknownFrom = ⊥
IsReplayFault input faults.UnknownTo = ⊥
IsReplayFault input (faults.Entry entry) = IsEntryFault input entry

-- the input is a replay of a sound run, and the text is that of the state that it reaches
pub record IsSoundReplay (input text : List ℕ) : Type 0 where
  pub replay : ReplayValue
  pub is : replay_of input ≡ Ok replay
  pub sound : ReplaysSoundly replay text

-- a fault of a replay as one of the program's forms
abbrev pub fault_of : ReplayFault → Fault
fault_of (Line at) = faults.Line at
fault_of (Entry entry) = faults.Entry entry

abbrev pub stop_of : TextRefused → Stop
stop_of (refused.Fault fault) = Refused (fault_of fault)
stop_of refused.NoMemory = NoMemory

-- the report of a text, or the fault
abbrev pub reported : Result (List ℕ) ReplayFault → Result Report Fault
reported (Ok text) = Ok (done text)
reported (Err fault) = Err (fault_of fault)

-- the form: one text for each input, which is that of the state of a sound run
abbrev pub replay_form : FormSpec
replay_form = record {
  limit = Some 67108864;
  output = of_function (λ input. reported (replay_text input));
  fault = IsReplayFault;
  holds = λ input report. IsSoundReplay input report.text;
}
