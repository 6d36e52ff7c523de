use Rattle.std.proofs.Common.{rules, ap, ◌∙◌}
use Rattle.turn_lock.proofs.Keeps.{joins}
use Rattle.turn_lock.proofs.Resting.{is_alive, is_free}
use Rattle.turn_lock.proofs.lock.TurnLock.join.Goals as goal

pub join_seat-requires : goal.join_seat-requires
join_seat-requires g c =
    let v = c.seat.inside.seat.me.0 in let w = c.gone.inside.seat.me.0 in (
      search rules,
      search rules,
      search rules,
      search rules,
      joins g.T.Counted.history g.T.Counted.maker g.T.Counted.fixed _ _ _ v w (ap (λ s. s.number) c.seat.view_is ∙ c.requires.first) (is_alive v.stage c.seat.inside.seat.me.1 c.seat.invariant.2)
          (is_free w.stage c.gone.inside.seat.me.1 c.gone.invariant.2 (ap (λ s. s.taken) c.gone.view_is ∙ c.requires.gone_idle)),
    )
