use Rattle.std.proofs.Common.{refl}
use Rattle.task_assign.specs.Bounds.{column_in}
use Rattle.task_assign.proofs.Lifting.{raising_small, raising_more}
use Rattle.task_assign.proofs.least_total.raise.Goals as goal

pub raise_row-requires-clause-small : goal.raise_row-requires-clause-small
raise_row-requires-clause-small c =
    raising_small (column_in c.args.pairing.now) c.args.tree.now c.args.by c.args.numbers.now c.loop-row.numbers c.loop-row.row c.loop-row-test.true (c.requires.small c.loop-row.row c.loop-row-test.true) c.loop-row.invariant.1

pub loop-row-preserved : goal.loop-row-preserved
loop-row-preserved c =
    (refl, raising_more (column_in c.args.pairing.now) c.args.tree.now c.args.by c.args.numbers.now c.loop-row.numbers c.raise_row.new.numbers c.loop-row.row c.requires.pairing c.loop-row-test.true c.raise_row.ensures.raised c.raise_row.ensures.other_rows c.raise_row.ensures.other_columns c.loop-row.invariant.1)
