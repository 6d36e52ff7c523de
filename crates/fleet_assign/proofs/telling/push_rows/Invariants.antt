use Rattle.std.proofs.Common.{◌≡◌, ◌++◌}
use Rattle.scenario.specs.Canonical.{each}
use Rattle.fleet_assign.specs.Texts.{row_line}
use Rattle.fleet_assign.proofs.telling.push_rows.Given as goal

abbrev pub invariant-loop-robot : goal.invariant-loop-robot
invariant-loop-robot l = l.text.items ≡ l.initial.text.items ++ each (row_line l.scenario l.found) l.robot
