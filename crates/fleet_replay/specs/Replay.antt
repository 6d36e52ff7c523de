-- Replays: a scenario with a journal behind it and what follows, and what is printed of them.
use Rattle.std.specs.Prelude.{ℕ, ◌+◌, if◌then◌else◌, List, drop, Option, Some, None, Result, Ok, Err}
use Rattle.fleet_base.specs.declared.entries.Entry.{Entry}
use Rattle.run_base.specs.Openings.{is_one_segment, opening_of, reached_text}
use Rattle.journal_replay.specs.Differing.{first_differing}
use Rattle.plan_journal.specs.Reading.{Front, journal_of}
use Rattle.scenario.specs.Scenarios.{ScenarioValue}
use Rattle.scenario_reader.specs.Reading.{FrontValue, front_of}
use Rattle.scenario_reader.specs.Tables.{mapped}
use Rattle.site_lines.specs.declared.fault.At.{At}
use Rattle.site_lines.specs.declared.fault.Code.TheVariants.{T1, T2}
use Rattle.fleet_replay.specs.Tails.{differing_line, is_tail}
use Rattle.fleet_replay.specs.declared.refused.ReplayFault.{ReplayFault}
use Rattle.fleet_replay.specs.declared.refused.ReplayFault.TheVariants.{Line, Entry as EntryFault}

-- a scenario, the entries of the journal behind it, how many lines the scenario has and how many both, and what stands behind them
pub record ReplayValue : Type 0 where
  pub scenario : ScenarioValue
  pub entries : List Entry
  pub above : ℕ
  pub lines : ℕ
  pub tail : List ℕ

-- the lines of what stands behind so many others are numbered on from them
abbrev pub numbered_on : {T : Type 0} → ℕ → Result T At → Result T At
numbered_on lines (Ok t) = Ok t
numbered_on lines (Err at) = Err (record { line = lines + at.line; code = at.code })

-- a scenario with the journal that what stands behind it begins with
abbrev pub replay_value : FrontValue → Front → List ℕ → ReplayValue
replay_value front journal text = record { scenario = front.scenario; entries = journal.entries; above = front.lines; lines = front.lines + journal.lines; tail = drop (front.used + journal.used) text }

abbrev pub with_journal : List ℕ → Result FrontValue At → Result ReplayValue At
with_journal text (Ok front) = mapped (λ journal. replay_value front journal text) (numbered_on front.lines (journal_of front.scenario.names (drop front.used text)))
with_journal text (Err at) = Err at

-- the replay that a text is, or its first bad line with its least code
abbrev pub replay_of : List ℕ → Result ReplayValue At
replay_of text = with_journal text (front_of text)

-- a value, or the first entry that differs
abbrev pub unless_differs : {A : Type 0} → Option ℕ → A → Result A ReplayFault
unless_differs None value = Ok value
unless_differs (Some entry) value = Err (EntryFault entry)

-- the text of the state that entries reach, or the first that differs
abbrev pub state_or : ScenarioValue → List Entry → Result (List ℕ) ReplayFault
state_or scenario entries = unless_differs (first_differing (opening_of scenario) entries) (reached_text scenario entries)

-- the text of the state, where the journal is one segment; else its first line isn't the one that it would be printed with
abbrev pub with_header : ReplayValue → Result (List ℕ) ReplayFault → Result (List ℕ) ReplayFault
with_header replay (Ok state) = if is_one_segment (opening_of replay.scenario) replay.entries then Ok state else Err (Line (record { line = replay.above + 1; code = T2 }))
with_header replay (Err fault) = Err fault

-- the text of the state, where what stands behind the journal agrees with it; else the first line that doesn't
abbrev pub with_tail : ReplayValue → Result (List ℕ) ReplayFault → Result (List ℕ) ReplayFault
with_tail replay (Ok state) = if is_tail state replay.tail then Ok state else Err (Line (record { line = replay.lines + differing_line replay.tail state; code = T1 }))
with_tail replay (Err fault) = Err fault

-- what is printed of a replay, or its fault
abbrev pub printed_or : Result ReplayValue At → Result (List ℕ) ReplayFault
printed_or (Ok replay) = with_tail replay (with_header replay (state_or replay.scenario replay.entries))
printed_or (Err at) = Err (Line at)

-- what is printed of the replay that a text is, or the text's fault
abbrev pub replay_text : List ℕ → Result (List ℕ) ReplayFault
replay_text text = printed_or (replay_of text)
