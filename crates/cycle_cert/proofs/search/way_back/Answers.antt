use Rattle.fleet_base.specs.EdgeSets.{leads}
use Rattle.std.proofs.Common.{subst, sym, ◌-◌, arith}
use Rattle.cycle_cert.proofs.Levels.{IsUnderway, leads_below_64, underway_some, underway_more}
use Rattle.cycle_cert.proofs.search.way_back.Goals as goal

pub next_of-at-requires-clause-some : goal.next_of-at-requires-clause-some
next_of-at-requires-clause-some c = underway_some (leads c.args.edges.now) c.args.robot.0 c.args.between c.loop-left.cycle c.loop-left.at.0 c.loop-left.left c.args.levels.now (leads_below_64 c.args.edges.now) c.requires.leveled (omega arith) c.loop-left.invariant

pub loop-left-preserved : goal.loop-left-preserved
loop-left-preserved c =
    subst (λ cycle. IsUnderway (leads c.args.edges.now) c.args.robot.0 c.args.between cycle c.next_of-at.result.0 (c.loop-left.left - 1)) (sym c.push-in-loop-left.ensures)
    (underway_more (leads c.args.edges.now) c.args.robot.0 c.args.between c.loop-left.cycle c.loop-left.at.0 c.loop-left.left c.args.levels.now c.next_of-at.result (leads_below_64 c.args.edges.now) c.requires.leveled (omega arith) c.next_of-at.ensures.follows c.next_of-at.ensures.inside c.next_of-at.ensures.least c.loop-left.invariant)
