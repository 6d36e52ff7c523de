use Rattle.std.proofs.Common.{ap, ◌∙◌}
use Rattle.std.specs.FinSet as set
use Rattle.site_map.proofs.CellLemmas.{removed_more}
use Rattle.site_map.proofs.crossing.remove_all.Goals as goal

pub loop-cell-preserved : goal.loop-cell-preserved
loop-cell-preserved c = λ d. ap (λ s. set.contains s d.0) c.remove.ensures ∙ removed_more c.loop-cell.free c.args.free.now c.args.cells.now c.loop-cell.cell-index c.loop-cell-test.true c.loop-cell.invariant d
