use Rattle.std.proofs.Common.{◌+◌, ◌-◌, ◌++◌, length, length-append, sym, ap, ◌∙◌, arith}
use Rattle.scenario_reader.specs.MissionLines.{repeated}
use Rattle.scenario_reader.proofs.Repeats.{repeated_less, repeated_all, length-repeated}
use Rattle.scenario_reader.proofs.mission.append_times.Goals as goal

pub loop-preserved : goal.loop-preserved
loop-preserved c = ap (λ ls. ls ++ repeated (c.args.times - (c.loop.counter + 1)) c.args.more.now) c.in_ok-append.ensures.ok ∙ repeated_less c.loop.legs c.args.more.now c.args.times c.loop.counter (omega arith) ∙ c.loop.invariant

pub returns-clause-legs : goal.returns-clause-legs
returns-clause-legs c = sym (repeated_all c.loop.legs c.args.more.now (c.args.times - c.loop.counter) (omega arith)) ∙ c.loop.invariant

pub returns-clause-count : goal.returns-clause-count
returns-clause-count c =
    let e = sym (repeated_all c.loop.legs c.args.more.now (c.args.times - c.loop.counter) (omega arith)) ∙ c.loop.invariant in
    ap length e ∙ length-append c.args.legs.now (repeated c.args.times c.args.more.now) ∙ ap (λ n. length c.args.legs.now + n) (length-repeated c.args.times c.args.more.now)
