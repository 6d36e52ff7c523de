use Rattle.std.proofs.Common.{rules, ◌∙◌, sym, subst, arith, length-set}
use Rattle.fleet_base.specs.EdgeSets.{leads}
use Rattle.fleet_base.specs.Lists.{numbers_of}
use Rattle.fleet_model.specs.Cycles.{IsLeastCycle}
use Rattle.cycle_cert.proofs.LeastWays.{shown_least, none_least}
use Rattle.cycle_cert.proofs.ModelCycles.{least_is_model}
use Rattle.cycle_cert.proofs.Levels.{leads_below_64, searched_all, searched_first, searched_more}
use Rattle.cycle_cert.proofs.search.cycle_through.Goals as goal

pub returns-then-has-clause-least : goal.returns-then-has-clause-least
returns-then-has-clause-least c = shown_least (leads c.args.edges.now) c.args.robot.0 c.loop-between.between (numbers_of c.way_back.result) c.way_back.ensures c.loop-between.invariant.1.none

pub returns-then-has-clause-found : goal.returns-then-has-clause-found
returns-then-has-clause-found c = λ n bounded.
    least_is_model (leads c.args.edges.now) n c.args.robot.0 bounded (numbers_of c.way_back.result)
    (shown_least (leads c.args.edges.now) c.args.robot.0 c.loop-between.between (numbers_of c.way_back.result) c.way_back.ensures c.loop-between.invariant.1.none)

pub loop-between-init : goal.loop-between-init
loop-between-init c = (
  search rules,
  searched_first (leads c.args.edges.now) c.args.robot.0 _ c.before-level.result c.with.result c.with.ensures c.before-level.ensures,
)

pub returns-then-reached-seen-clause-least : goal.returns-then-reached-seen-clause-least
returns-then-reached-seen-clause-least c =
    subst (λ cycle. IsLeastCycle (leads c.args.edges.now) c.args.robot.0 (numbers_of cycle)) (sym c.new.ensures)
    (none_least (leads c.args.edges.now) 64 c.args.robot.0 (leads_below_64 c.args.edges.now)
    (λ k l. searched_all (leads c.args.edges.now) c.args.robot.0 c.loop-between.levels c.loop-between.level c.loop-between.seen c.loop-between.between (leads_below_64 c.args.edges.now) c.requires c.if-reached-seen.true c.loop-between.invariant.1 k))

pub returns-then-reached-seen-clause-found : goal.returns-then-reached-seen-clause-found
returns-then-reached-seen-clause-found c = λ n bounded.
    least_is_model (leads c.args.edges.now) n c.args.robot.0 bounded (numbers_of c.new.result) (returns-then-reached-seen-clause-least c)

pub loop-between-preserved : goal.loop-between-preserved
loop-between-preserved c = (
  length-set c.loop-between.levels c.loop-between.between c.loop-between.level ∙ c.loop-between.invariant.0,
  searched_more (leads c.args.edges.now) c.args.robot.0 c.loop-between.levels c.loop-between.level c.loop-between.seen c.loop-between.between c.before-level-in-loop-between.result (leads_below_64 c.args.edges.now) c.before-level-in-loop-between.ensures c.requires (omega (arith, c.loop-between.invariant.0)) (sym c.has.ensures ∙ c.if-has.false) c.loop-between.invariant.1,
)

pub returns-clause-least : goal.returns-clause-least
returns-clause-least c =
    subst (λ cycle. IsLeastCycle (leads c.args.edges.now) c.args.robot.0 (numbers_of cycle)) (sym c.new-2.ensures)
    (none_least (leads c.args.edges.now) 64 c.args.robot.0 (leads_below_64 c.args.edges.now) (λ k l. c.loop-between.invariant.1.none k (omega arith)))

pub returns-clause-found : goal.returns-clause-found
returns-clause-found c = λ n bounded. least_is_model (leads c.args.edges.now) n c.args.robot.0 bounded (numbers_of c.new-2.result) (returns-clause-least c)
