use Rattle.std.proofs.Common.{◌≡◌, map}
use Rattle.std.specs.List.{range_with_len}
use Rattle.scenario_gen.specs.Grids.{cell}
use Rattle.scenario_gen.proofs.sites.row_cells.Given as goal

abbrev pub invariant-loop-column : goal.invariant-loop-column
invariant-loop-column l = l.cells.items ≡ map cell (range_with_len l.first l.column)
