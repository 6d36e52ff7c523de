use Rattle.std.proofs.Common.{refl}
use Rattle.compare_graphs.proofs.Pairs.{own_one, ready_in}
use Rattle.compare_graphs.proofs.pair.Pair.finish.Goals as goal

pub ready-requires : goal.ready-requires
ready-requires c = (c.in-Some.event, own_one c.args.robot.0 c.args.self.now.plain.events 0 c.in-Some.event c.in-Some.ensures, refl)

pub finish-requires : goal.finish-requires
finish-requires c = ready_in c.args.self.now.plain c.args.self.now.fast c.requires.pair.alike c.in-Some.event.no
    (c.in-Some.event, refl, (c.ready.ensures c.in-Some.event (own_one c.args.robot.0 c.args.self.now.plain.events 0 c.in-Some.event c.in-Some.ensures) refl).0 c.if-not-ready.false)

pub finish-requires-2 : goal.finish-requires-2
finish-requires-2 c = (c.in-Some.event, refl, (c.ready.ensures c.in-Some.event (own_one c.args.robot.0 c.args.self.now.plain.events 0 c.in-Some.event c.in-Some.ensures) refl).0 c.if-not-ready.false)
