use Rattle.std.proofs.Common.{◌≡◌, ◌∙◌, ◌++◌, ◌∷◌, [], ap, cond, not}
use Rattle.mission_model.specs.Outcomes.{outcome_of}
use Rattle.coordinator.specs.Books.{opening_of}
use Rattle.fleet_outcomes.specs.Fleets.{missions_in}
use Rattle.fleet_outcomes.proofs.Judging.{all_more}
use Rattle.fleet_outcomes.proofs.outcomes.outcomes.Goals as goal

pub loop-number-preserved : goal.loop-number-preserved
loop-number-preserved c =
    let book = c.args.fleet.now in
    let old = c.loop-number.all.items in
    let grown : c.push.new.self.items ≡ old ++ c.in_ok-one.one ∷ [] = c.push.ensures.items ∙ ap (λ b. cond b (old ++ c.in_ok-one.one ∷ []) old) (c.is_err.ensures.negation ∙ ap not c.if-is_err.false) in
    all_more (outcome_of (missions_in book c.args.missions.now) (opening_of book) book.journal) c.loop-number.number c.in_ok-one.one old c.push.new.self.items grown c.loop-number.invariant c.in_ok-one.ensures
