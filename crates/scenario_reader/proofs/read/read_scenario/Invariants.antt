use Rattle.std.proofs.Common.{◌≡◌, ◌+◌, ◌-◌, ◌≤◌, length, drop}
use Rattle.site_lines.specs.Lines.{lines_of}
use Rattle.site_lines.specs.Readings.{read_from}
use Rattle.scenario_reader.specs.Kept.{IsReached}
use Rattle.scenario_reader.specs.Readers.{state_of}
use Rattle.scenario_reader.specs.Reading.{done, step}
use Rattle.scenario_reader.specs.States.{AtHeader}
use Rattle.scenario_reader.proofs.read.read_scenario.Given as goal

abbrev pub invariant-loop-line : goal.invariant-loop-line
invariant-loop-line l = record {
  rest : read_from step done l.number (state_of l.reader) (lines_of (drop l.at l.bytes)) ≡ read_from step done 1 AtHeader (lines_of l.bytes);
  place : l.at ≤ length l.bytes;
  count : l.number ≤ l.at + 1;
  reached : IsReached (state_of l.reader);
}

abbrev pub decreases-loop-line : goal.decreases-loop-line
decreases-loop-line l = length l.bytes - l.at
