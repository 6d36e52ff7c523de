use Rattle.std.proofs.Common.{IsSome, ap, sym, refl, subst}
use Rattle.turn_lock.proofs.Wholes.{closing, closing_is}
use Rattle.turn_lock.proofs.lock.TurnLock.close.Goals as goal

pub unwrap-requires : goal.unwrap-requires
unwrap-requires g c =
    let r = closing g.T.Counted.history g.T.Counted.maker g.T.Counted.fixed _ c.args.self.opening c.seat.inside.seat.table_id _ _ c.seat.inside.seat.id c.seat.inside.seat.me c.args.seat c.take-value.result
    (ap (λ l. l.opening) c.self.view_is) c.seat.view_is c.seat.invariant.2 c.requires.first c.requires.idle c.requires.all c.close_with-closed.ensures.values.2 c.take-value.ensures.value in
    subst (λ a. IsSome a) (sym r.1) refl

pub returns : goal.returns
returns g c =
    let r = closing g.T.Counted.history g.T.Counted.maker g.T.Counted.fixed _ c.args.self.opening c.seat.inside.seat.table_id _ _ c.seat.inside.seat.id c.seat.inside.seat.me c.args.seat c.take-value.result
    (ap (λ l. l.opening) c.self.view_is) c.seat.view_is c.seat.invariant.2 c.requires.first c.requires.idle c.requires.all c.close_with-closed.ensures.values.2 c.take-value.ensures.value in
    let e = closing_is g.T.Counted.history g.T.Counted.maker g.T.Counted.fixed c.args.self.opening c.args.seat c.take-value.result c.unwrap.result r c.unwrap.ensures in
    record { fixed = e.fixed_is; begins = e.begins_with; known = e.first; joined = e.joined; others = e.others }
