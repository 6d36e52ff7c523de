use Rattle.scenario.specs.Canonical.{cell_text}
use Rattle.scenario.proofs.Prints.{then_more}
use Rattle.scenario.proofs.print.push_cells.Goals as goal

pub loop-cell-preserved : goal.loop-cell-preserved
loop-cell-preserved c = then_more c.args.text.now.items c.loop-cell.text.items c.push_one.new.text.items (cell_text c.args.names.now) c.loop-cell.cell c.loop-cell.invariant c.in_ok-push_one.ensures
