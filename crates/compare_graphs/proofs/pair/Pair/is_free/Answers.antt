use Rattle.std.proofs.Common.{◌-◌, refl, arith}
use Rattle.compare_graphs.proofs.Pairs.{free_more, free_tail, own_one}
use Rattle.compare_graphs.proofs.pair.Pair.is_free.Goals as goal

pub awaited-requires : goal.awaited-requires
awaited-requires c = (c.in-Some.event, own_one c.args.robot.0 c.args.self.now.plain.events c.loop-place.place c.in-Some.event c.in-Some.ensures, refl)

pub loop-place-preserved : goal.loop-place-preserved
loop-place-preserved c = free_more c.args.self.now.plain.groups c.args.self.now.plain.events c.args.robot.0 (c.left-left.result - c.args.count) c.loop-place.place c.in-Some.event c.awaited.result c.in-Some.ensures c.awaited.ensures c.if-awaited.false c.loop-place.invariant

pub returns : goal.returns
returns c = λ _. free_tail c.args.self.now.plain.groups c.args.self.now.plain.events c.args.robot.0 c.args.count c.left-left.result c.loop-place.place c.left-left.ensures (let done = c.loop-place-test.false in omega arith) c.loop-place.invariant
