use Rattle.std.proofs.Common.{ap, ◌∙◌}
use Rattle.std.specs.FinSet.{contains-empty}
use Rattle.std.specs.Ordering.{nat_cmp}
use Rattle.route_plan.specs.Labels.{has}
use Rattle.site_map.proofs.CellLemmas.{numbers_more}
use Rattle.route_plan.proofs.goals.set_of.Goals as goal

pub loop-cell-init : goal.loop-cell-init
loop-cell-init c = λ cell. ap (λ s. has s cell) c.new-set.ensures ∙ contains-empty nat_cmp cell.0

pub loop-cell-preserved : goal.loop-cell-preserved
loop-cell-preserved c = λ cell. ap (λ s. has s cell) c.put.ensures ∙ numbers_more c.loop-cell.set c.args.cells.now c.loop-cell.cell-index c.loop-cell-test.true c.loop-cell.invariant cell
