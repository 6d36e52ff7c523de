use Rattle.std.proofs.Common.{rules}
use Rattle.turn_lock.proofs.Keeps.{raises}
use Rattle.turn_lock.proofs.steps.Words.raise.Goals as goal

pub fetch_add-requires : goal.fetch_add-requires
fetch_add-requires g c = let r = c.requires.more in (search rules, search rules, raises _ _ _ _ _ _ c.args.seat.now.me r.0 r.1 r.2 r.3 r.4 r.5 r.6 r.7 r.8 r.9)
