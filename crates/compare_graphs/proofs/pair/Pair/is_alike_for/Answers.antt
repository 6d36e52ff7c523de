use Rattle.std.proofs.Common.{refl}
use Rattle.compare_graphs.proofs.Pairs.{own_one}
use Rattle.compare_graphs.proofs.pair.Pair.is_alike_for.Goals as goal

pub is_alike_at-requires-clause-number : goal.is_alike_at-requires-clause-number
is_alike_at-requires-clause-number c = (c.in-Some.event, own_one c.args.robot.0 c.args.self.now.plain.events c.loop-place.place c.in-Some.event c.in-Some.ensures, refl)
