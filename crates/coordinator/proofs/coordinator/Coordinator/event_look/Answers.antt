use Rattle.std.proofs.Common.{◌≡◌, ap, sym, subst, ◌∙◌, refl}
use Rattle.fleet_base.specs.declared.answers.EventLook.TheVariants.{Ready, Waits}
use Rattle.fleet_model.specs.Calls.{look_at_event, look_at_next, next_event}
use Rattle.coordinator.specs.Books.{Book, state_of}
use Rattle.coordinator.proofs.Reporting.{has_number, looked_at}
use Rattle.coordinator.proofs.coordinator.Coordinator.event_look.Goals as goal

pub greatest_before-requires : goal.greatest_before-requires
greatest_before-requires c = has_number c.self.inside c.self.invariant c.args.robot.0 c.in-Some.next c.in-Some.next.no (sym c.next.ensures ∙ c.in-Some.is) refl

pub returns-in-None : goal.returns-in-None
returns-in-None c =
    let is = looked_at c.self.inside c.self.invariant c.args.robot.0 c.in-Some.next c.in-Some.next.no (sym c.next.ensures ∙ c.in-Some.is) refl c.greatest_before.result c.greatest_before.ensures in
    subst (λ (b : Book). Ready c.in-Some.next.no c.in-Some.next.kind ≡ look_at_next (state_of b).fleet (next_event (state_of b).fleet c.args.robot.0)) c.self.view_is
    (sym (is ∙ ap (look_at_event c.in-Some.next) c.in-None.is))

pub returns-in-Some-greatest_before : goal.returns-in-Some-greatest_before
returns-in-Some-greatest_before c =
    let is = looked_at c.self.inside c.self.invariant c.args.robot.0 c.in-Some.next c.in-Some.next.no (sym c.next.ensures ∙ c.in-Some.is) refl c.greatest_before.result c.greatest_before.ensures in
    subst (λ (b : Book). Waits c.in-Some.next.no c.in-Some-greatest_before.on ≡ look_at_next (state_of b).fleet (next_event (state_of b).fleet c.args.robot.0)) c.self.view_is
    (sym (is ∙ ap (look_at_event c.in-Some.next) c.in-Some-greatest_before.is))
