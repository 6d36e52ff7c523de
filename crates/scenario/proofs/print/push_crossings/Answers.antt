use Rattle.scenario.specs.Canonical.{crossing_text}
use Rattle.scenario.proofs.Prints.{then_more}
use Rattle.scenario.proofs.print.push_crossings.Goals as goal

pub loop-crossing-preserved : goal.loop-crossing-preserved
loop-crossing-preserved c = record {
  text = then_more c.args.text.now.items c.loop-crossing.text.items c.push_crossing.new.text.items (crossing_text c.args.names.now c.args.site.now) c.loop-crossing.crossing c.loop-crossing.invariant.text c.in_ok-push_crossing.ensures;
  first = c.claims_behind-first.ensures;
}
