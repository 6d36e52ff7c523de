use Rattle.std.proofs.Common.{◌≡◌, ◌+◌, ◌≤◌}
use Rattle.fleet_replay.specs.Tails.{differing_line}
use Rattle.fleet_replay.proofs.Lines.{feeds_from}
use Rattle.fleet_replay.proofs.tail.differing_line.Given as goal

abbrev pub invariant-loop-place : goal.invariant-loop-place
invariant-loop-place l = record {
  counted : l.line + feeds_from l.text l.other l.place ≡ differing_line l.text l.other;
  small : l.line ≤ l.place + 1;
}
