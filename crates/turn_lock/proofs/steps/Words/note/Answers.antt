use Rattle.std.proofs.Common.{rules}
use Rattle.turn_lock.proofs.Keeps.{counts}
use Rattle.turn_lock.proofs.steps.Words.note.Goals as goal

pub load-requires : goal.load-requires
load-requires g c = (search rules, search rules, counts _ _ _ _ _ _ c.args.seat.now.me c.requires.turn.0 c.requires.turn.1)
