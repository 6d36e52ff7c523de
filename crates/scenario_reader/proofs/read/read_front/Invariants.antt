use Rattle.std.proofs.Common.{◌≡◌, ◌+◌, ◌-◌, ◌≤◌, ℕ, length, drop, false}
use Rattle.site_lines.specs.Lines.{lines_of}
use Rattle.site_lines.specs.Readings.{read_from}
use Rattle.scenario_reader.specs.Kept.{IsReached}
use Rattle.scenario_reader.specs.Readers.{state_of}
use Rattle.scenario_reader.specs.Reading.{bytes_of_lines, front_done, front_step, is_ended}
use Rattle.scenario_reader.specs.States.{AtHeader}
use Rattle.scenario_reader.proofs.read.read_front.Given as goal

abbrev pub invariant-loop-line : goal.invariant-loop-line
invariant-loop-line l = record {
  rest : read_from front_step front_done (l.lines + 1) (state_of l.reader, l.lines) (lines_of (drop l.at l.bytes)) ≡ read_from front_step front_done 1 (AtHeader, 0) (lines_of l.bytes);
  place : l.at ≤ length l.bytes;
  count : l.lines ≤ l.at;
  used : (k : ℕ) → bytes_of_lines (l.lines + k) l.bytes ≡ l.at + bytes_of_lines k (drop l.at l.bytes);
  reached : IsReached (state_of l.reader);
  going : is_ended (state_of l.reader) ≡ false;
}

abbrev pub decreases-loop-line : goal.decreases-loop-line
decreases-loop-line l = length l.bytes - l.at
