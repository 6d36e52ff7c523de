use Rattle.std.proofs.Common.{ap, sym, ◌∙◌}
use Rattle.std.specs.FinSet as set
use Rattle.std.specs.FinSet.{contains-empty}
use Rattle.std.specs.Ordering.{nat_cmp}
use Rattle.site_map.proofs.CellLemmas.{common_more, common_same}
use Rattle.site_map.proofs.crossing.common.Goals as goal
use Rattle.site_map.proofs.crossing.common.Goals.{then-contains, else-contains}

pub loop-cell-init : goal.loop-cell-init
loop-cell-init c = λ d. ap (λ s. set.contains s d.0) c.new-found.ensures ∙ contains-empty nat_cmp d.0

pub loop-cell-preserved : goal.loop-cell-preserved
loop-cell-preserved c = elim c.if-contains.branch [
  | then-contains w ↦ λ d. ap (λ s. set.contains s d.0) (w.found-is ∙ w.insert.ensures) ∙ common_more c.loop-cell.found c.args.members.now c.args.cells.now c.loop-cell.cell-index c.loop-cell-test.true (sym c.contains.ensures.found ∙ w.if-contains.true) c.loop-cell.invariant d
  | else-contains w ↦ λ d. ap (λ s. set.contains s d.0) w.found-is ∙ common_same c.loop-cell.found c.args.members.now c.args.cells.now c.loop-cell.cell-index c.loop-cell-test.true (sym c.contains.ensures.found ∙ w.if-contains.false) c.loop-cell.invariant d
]
