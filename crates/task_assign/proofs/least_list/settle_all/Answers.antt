use Rattle.task_assign.specs.Bounds.{column_in}
use Rattle.task_assign.proofs.Settling.{least_more}
use Rattle.task_assign.proofs.least_list.settle_all.Goals as goal

pub loop-row-preserved : goal.loop-row-preserved
loop-row-preserved c = (
  c.loop-row.invariant.0,
  c.settle.ensures.placed,
  least_more c.args.costs.now c.args.numbers.now (column_in c.loop-row.pairing) (column_in c.settle.new.pairing) c.loop-row.row c.settle.ensures.kept c.settle.ensures.least c.loop-row.invariant.2,
)
