use Rattle.std.proofs.Common.{rules, ap, ◌∙◌}
use Rattle.turn_lock.proofs.Keeps.{splits}
use Rattle.turn_lock.proofs.Resting.{is_alive}
use Rattle.turn_lock.proofs.lock.TurnLock.split.Goals as goal

pub split_seat-child-requires : goal.split_seat-child-requires
split_seat-child-requires g c =
    let v = c.seat.inside.seat.me.0 in (
      search rules,
      search rules,
      splits g.T.Counted.history g.T.Counted.maker g.T.Counted.fixed _ _ v (ap (λ s. s.number) c.seat.view_is ∙ c.requires.first) (is_alive v.stage c.seat.inside.seat.me.1 c.seat.invariant.2) (search rules),
    )
