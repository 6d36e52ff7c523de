use Rattle.std.proofs.Common.{◌≡◌, take}
use Rattle.fleet_model.specs.Lists.{has_cell}
use Rattle.fleet_base.specs.declared.numbers.CellNo.{CellNo}
use Rattle.route_plan.specs.Labels.{has}
use Rattle.route_plan.proofs.goals.set_of.Given as goal

abbrev pub invariant-loop-cell : goal.invariant-loop-cell
invariant-loop-cell l = (cell : CellNo) → has l.set cell ≡ has_cell (take l.cell-index l.cells) cell
