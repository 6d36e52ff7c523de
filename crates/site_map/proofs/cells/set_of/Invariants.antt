use Rattle.std.proofs.Common.{take}
use Rattle.site_map.proofs.CellLemmas.{IsSeen}
use Rattle.site_map.proofs.cells.set_of.Given as goal

abbrev pub invariant-loop-cell : goal.invariant-loop-cell
invariant-loop-cell l = IsSeen l.seen (take l.cell-index l.cells)
