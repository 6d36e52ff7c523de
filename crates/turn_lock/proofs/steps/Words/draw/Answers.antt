use Rattle.std.proofs.Common.{rules}
use Rattle.turn_lock.proofs.Keeps.{draws}
use Rattle.turn_lock.proofs.steps.Words.draw.Goals as goal

pub fetch_add-requires : goal.fetch_add-requires
fetch_add-requires g c = (search rules, search rules, draws _ _ _ _ _ _ c.args.seat.now.me c.requires.free.0)
