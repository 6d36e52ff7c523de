use Rattle.std.proofs.Common.{◌≡◌, ◌+◌, ◌-◌, ◌≤◌, length, drop, map, Ok, All}
use Rattle.site_lines.specs.Lines.{lines_of, without_return}
use Rattle.site_lines.specs.Readings.{read_from}
use Rattle.fleet_commands.specs.Commands.{IsDeclared}
use Rattle.fleet_commands.specs.Reading.{with_line, commands_of}
use Rattle.fleet_commands.proofs.read.read_commands.Given as goal

abbrev pub invariant-loop-line : goal.invariant-loop-line
invariant-loop-line l = record {
  rest : read_from (with_line l.names) (λ commands. Ok commands) l.number l.commands.items (map without_return (lines_of (drop l.place l.bytes))) ≡ commands_of l.names l.first_line (drop l.from l.bytes);
  declared : All (IsDeclared l.names) l.commands.items;
  within : l.place ≤ length l.bytes;
  from : l.from ≤ l.place;
  count : l.number + l.from ≤ l.first_line + l.place;
}

abbrev pub decreases-loop-line : goal.decreases-loop-line
decreases-loop-line l = length l.initial.bytes - l.place
