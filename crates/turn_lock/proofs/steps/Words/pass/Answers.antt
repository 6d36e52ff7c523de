use Rattle.std.proofs.Common.{rules}
use Rattle.turn_lock.proofs.Keeps.{passes}
use Rattle.turn_lock.proofs.steps.Words.pass.Goals as goal

pub fetch_add-served-requires : goal.fetch_add-served-requires
fetch_add-served-requires g c = let r = c.requires.known in (search rules, search rules, passes g.T.Counted.history g.T.Counted.maker _ _ _ _ c.args.seat.now.me r.0 r.1 r.2 r.3 r.4 r.5)
