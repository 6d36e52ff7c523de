use Rattle.std.proofs.Common.{ap, ◌∙◌}
use Rattle.turn_lock.proofs.Wholes.{begins}
use Rattle.turn_lock.proofs.lock.TurnLock.take.Goals as goal

pub returns-clause-begins : goal.returns-clause-begins
returns-clause-begins g c =
    let d = c.draw-ticket.ensures.drew in let w = c.wait.ensures.turn in
    begins g.T.Counted.history g.T.Counted.maker g.T.Counted.fixed c.args.self.now.opening c.seat.inside.seat.me.0 c.draw-ticket.new.seat.me c.wait.new.seat.me d.0 w.0 c.pull.result
    (ap (λ s. s.opening) c.seat.view_is ∙ c.requires.own.opening_is) d.2 w.2 w.1 c.pull.ensures.value
