use Rattle.merge_op.proofs.RemovableTails.{removed_by}
use Rattle.merge_op.proofs.withdrawal.removable.Goals as goal

pub returns : goal.returns
returns c = λ m good over events.
    removed_by c.args.site.now m c.args.robot.0 c.cell_count.result c.first_free-first.result c.left.result c.args.graph.now.groups c.args.graph.now.events
    c.cell_count.ensures.site good over c.cell_count.ensures.count c.requires.groups events c.left.ensures c.first_free-first.ensures
