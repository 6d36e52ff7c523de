use Rattle.std.proofs.Common.{true, false, sym, ◌∙◌}
use Rattle.fleet_outcomes.proofs.Chains.{any_more}
use Rattle.fleet_outcomes.proofs.outcomes.is_in.Goals as goal

pub returns-then-eq : goal.returns-then-eq
returns-then-eq c =
    sym (any_more c.args.robots.now c.args.robot.0 c.loop-place.place c.in-Some.other true (sym c.in-Some.ensures) c.loop-place.invariant (sym c.eq.ensures ∙ c.if-eq.true))

pub loop-place-preserved : goal.loop-place-preserved
loop-place-preserved c =
    any_more c.args.robots.now c.args.robot.0 c.loop-place.place c.in-Some.other false (sym c.in-Some.ensures) c.loop-place.invariant (sym c.eq.ensures ∙ c.if-eq.false)
