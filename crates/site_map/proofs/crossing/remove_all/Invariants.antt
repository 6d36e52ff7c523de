use Rattle.std.proofs.Common.{◌≡◌, ◌&&◌, not, take}
use Rattle.std.specs.FinSet as set
use Rattle.fleet_model.specs.Lists.{has_cell}
use Rattle.fleet_base.specs.declared.numbers.CellNo.{CellNo}
use Rattle.site_map.proofs.crossing.remove_all.Given as goal

abbrev pub invariant-loop-cell : goal.invariant-loop-cell
invariant-loop-cell l = (c : CellNo) → set.contains l.free c.0 ≡ (set.contains l.initial.free c.0 && not (has_cell (take l.cell-index l.cells) c))
