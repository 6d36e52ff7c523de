use Rattle.std.proofs.Common.{◌≡◌, ◌%◌, ◌^◌, ◌∷◌, [], Some, ap, sym, subst, ◌∙◌}
use Rattle.turn_lock.specs.Turns.{Fits, having}
use Rattle.turn_lock.proofs.steps.Words.wait.Goals as goal

pub returns-then-serving-ticket-clause-turn : goal.returns-then-serving-ticket-clause-turn
returns-then-serving-ticket-clause-turn g c =
    let t = c.look-serving.ensures.turn (c.if-serving-ticket.true ∙ sym c.requires.ticket ∙ sym (ap (λ m. m.0.ticket % 2 ^ 64) c.loop.invariant.3)) in
    subst (λ m. (x : g.row.T.Denot) × (c.look-serving.new.seat.me ≡ (having m.0 x, (0, Some x) ∷ [])) × Fits g.T.Counted.history g.T.Counted.maker g.T.Counted.fixed m.0 x) c.loop.invariant.3 t
