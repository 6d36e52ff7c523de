use Rattle.compare_graphs.proofs.Pairs.{pair_apart, pair_known, unchanged_twice}
use Rattle.compare_graphs.proofs.pair.Pair.append.Goals as goal

pub append-fast-requires-clause-known : goal.append-fast-requires-clause-known
append-fast-requires-clause-known c =
    let p = c.args.self.now in
    pair_known p c.requires.pair c.args.kinds.now (c.are_fit.ensures c.if-not-are_fit.false) c.reserve.new.self
    (unchanged_twice p.plain p.fast c.reserve.new.self c.requires.pair.alike c.reserve.ensures.unchanged)

pub append-fast-requires-clause-apart : goal.append-fast-requires-clause-apart
append-fast-requires-clause-apart c =
    let p = c.args.self.now in
    pair_apart p c.requires.pair c.args.kinds.now (c.are_fit.ensures c.if-not-are_fit.false) c.reserve.new.self
    (unchanged_twice p.plain p.fast c.reserve.new.self c.requires.pair.alike c.reserve.ensures.unchanged) c.args.robot.0 c.has_numbers.ensures.graph

pub append-plain-requires-clause-known : goal.append-plain-requires-clause-known
append-plain-requires-clause-known c =
    let p = c.args.self.now in
    pair_known p c.requires.pair c.args.kinds.now (c.are_fit.ensures c.if-not-are_fit.false) c.reserve-2.new.self c.reserve-2.ensures.unchanged

pub append-plain-requires-clause-apart : goal.append-plain-requires-clause-apart
append-plain-requires-clause-apart c =
    let p = c.args.self.now in
    pair_apart p c.requires.pair c.args.kinds.now (c.are_fit.ensures c.if-not-are_fit.false) c.reserve-2.new.self c.reserve-2.ensures.unchanged c.args.robot.0 c.has_numbers.ensures.graph
