use Rattle.scenario.specs.Canonical.{links_text}
use Rattle.scenario.proofs.Prints.{then_more}
use Rattle.scenario.proofs.print.push_links.Goals as goal

pub loop-cell-preserved : goal.loop-cell-preserved
loop-cell-preserved c = then_more c.args.text.now.items c.loop-cell.text.items c.push_links_from.new.text.items (links_text c.args.names.now c.args.site.now) c.loop-cell.cell c.loop-cell.invariant c.in_ok-push_links_from.ensures
