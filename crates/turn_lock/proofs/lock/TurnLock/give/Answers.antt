use Rattle.std.proofs.Common.{ap, ◌∙◌, ◌≡◌, sym, subst, Some, IsSome}
use Rattle.turn_lock.specs.Locks.{IsGrown}
use Rattle.turn_lock.specs.Places.{Passes, taken_of}
use Rattle.turn_lock.proofs.Resting.{has_turn}
use Rattle.turn_lock.proofs.Wholes.{raises_by, passes_by, passes_raised}
use Rattle.turn_lock.proofs.lock.TurnLock.give.Goals as goal
use Rattle.turn_lock.proofs.lock.TurnLock.give.Goals.{then-note-count, else-note-count}

pub note-requires-clause-turn : goal.note-requires-clause-turn
note-requires-clause-turn g c =
    let h = has_turn c.seat.inside.seat.me.0.stage c.seat.inside.seat.me.1 c.seat.invariant.2 (subst (λ t. IsSome t) (sym (ap (λ s. s.taken) c.seat.view_is)) c.requires.turn) in
    (h.0, ap (λ m. m.0.stage) c.put.ensures.me ∙ h.1)

pub raise-requires-clause-more : goal.raise-requires-clause-more
raise-requires-clause-more g c =
    let n = c.note.ensures.seen in let v = c.seat.inside.seat.me.0 in
    let took : c.args.seat.now.taken ≡ Some n.0 = sym (ap (λ s. s.taken) c.seat.view_is) ∙ ap taken_of (sym (ap (λ m. m.0.stage) c.put.ensures.me) ∙ n.1) in
    let grown : IsGrown g.T.Counted.maker v.number (g.T.Counted.history n.0) (g.T.Counted.history c.args.value) = subst (λ k. IsGrown g.T.Counted.maker k (g.T.Counted.history n.0) (g.T.Counted.history c.args.value)) (sym (ap (λ s. s.number) c.seat.view_is)) (c.requires.history n.0 took) in
    raises_by g.T.Counted.history g.T.Counted.maker g.T.Counted.fixed v c.put.new.seat.me c.note.new.seat.me n.0 c.args.value c.count-count.result c.note.result
    c.put.ensures.me n.1 n.3 (c.requires.fixed n.0 took) grown c.count-count.ensures c.count-count.type_inv n.2 c.if-note-count.true

pub pass-requires-clause-known : goal.pass-requires-clause-known
pass-requires-clause-known g c =
    let n = c.note.ensures.seen in let v = c.seat.inside.seat.me.0 in
    let took : c.args.seat.now.taken ≡ Some n.0 = sym (ap (λ s. s.taken) c.seat.view_is) ∙ ap taken_of (sym (ap (λ m. m.0.stage) c.put.ensures.me) ∙ n.1) in
    let grown : IsGrown g.T.Counted.maker v.number (g.T.Counted.history n.0) (g.T.Counted.history c.args.value) = subst (λ k. IsGrown g.T.Counted.maker k (g.T.Counted.history n.0) (g.T.Counted.history c.args.value)) (sym (ap (λ s. s.number) c.seat.view_is)) (c.requires.history n.0 took) in
    elim c.if-note-count.branch [
      | then-note-count w ↦ let r = w.raise.ensures.raised in
          subst (λ s. Passes g.T.Counted.history g.T.Counted.fixed s.seat.me) (sym w.seat-inside-is) (passes_raised g.T.Counted.history g.T.Counted.maker g.T.Counted.fixed c.note.new.seat.me w.raise.new.seat.me r.0 r.1 r.2)
      | else-note-count w ↦ subst (λ s. Passes g.T.Counted.history g.T.Counted.fixed s.seat.me) (sym w.seat-inside-is)
          (passes_by g.T.Counted.history g.T.Counted.maker g.T.Counted.fixed v c.put.new.seat.me c.note.new.seat.me n.0 c.args.value c.count-count.result c.note.result
          c.put.ensures.me n.1 n.3 (c.requires.fixed n.0 took) grown c.count-count.ensures n.2 w.if-note-count.false)
    ]
