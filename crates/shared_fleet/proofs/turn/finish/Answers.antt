use Rattle.shared_fleet.specs.Resting.{holding}
use Rattle.shared_fleet.proofs.Through.{give_history, given}
use Rattle.shared_fleet.proofs.turn.finish.Goals as goal

pub returns-clause-seat : goal.returns-clause-seat
returns-clause-seat c = λ book added took grown. given c.args.seat.now c.give.new.seat book c.args.fleet added grown (c.give.ensures (holding book) took)

pub give-requires-clause-history : goal.give-requires-clause-history
give-requires-clause-history c = let g = c.requires.grown in give_history c.args.seat.now.number c.args.seat.now.taken g.0 c.args.fleet g.1 g.2 g.3 g.4
