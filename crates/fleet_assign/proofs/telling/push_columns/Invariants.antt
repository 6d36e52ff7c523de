use Rattle.std.proofs.Common.{◌≡◌, ◌++◌}
use Rattle.scenario.specs.Canonical.{each}
use Rattle.fleet_assign.specs.Texts.{column_line}
use Rattle.fleet_assign.proofs.telling.push_columns.Given as goal

abbrev pub invariant-loop-column : goal.invariant-loop-column
invariant-loop-column l = l.text.items ≡ l.initial.text.items ++ each (column_line l.found) l.column
