use Rattle.std.proofs.Common.{◌≡◌, ◌<◌, length, ap, sym, subst, ◌∙◌, arith}
use Rattle.std.proofs.lemmas.Bool.{eqb-true}
use Rattle.std.specs.Prelude.{Err}
use Rattle.fleet_base.specs.declared.answers.ReportRefused.{ReportRefused}
use Rattle.fleet_base.specs.declared.answers.ReportRefused.TheVariants.{Early}
use Rattle.fleet_model.specs.Calls.{Step, report}
use Rattle.coordinator.specs.Books.{Book, state_of}
use Rattle.coordinator.specs.Endings.{IsReportable}
use Rattle.coordinator.proofs.Reporting.{early_is, has_number, next_is, same_no, waits_is}
use Rattle.coordinator.proofs.coordinator.Coordinator.reportable.Goals as goal

pub greatest_before-requires : goal.greatest_before-requires
greatest_before-requires c =
    let next = sym c.next.ensures ∙ c.in-Some.is in
    let same = eqb-true c.in-Some.next.no.0 c.args.event.0 (sym c.eq.ensures ∙ c.if-eq.true) in
    has_number c.self.inside c.self.invariant c.args.robot.0 c.in-Some.next c.args.event next same

pub returns-in-Some-greatest_before-clause-refused : goal.returns-in-Some-greatest_before-clause-refused
returns-in-Some-greatest_before-clause-refused c =
    let start : c.args.robot.0 < length c.self.inside.from.at.items = omega (arith, c.if-robot-robots.false, c.robots.ensures.starts, ap (λ (b : Book). length b.starts) c.self.view_is) in
    let next = sym c.next.ensures ∙ c.in-Some.is in
    let same = eqb-true c.in-Some.next.no.0 c.args.event.0 (sym c.eq.ensures ∙ c.if-eq.true) in
    let waits = waits_is c.self.inside c.self.invariant c.args.robot.0 c.in-Some.next c.args.event next same c.greatest_before.result c.greatest_before.ensures ∙ c.in-Some-greatest_before.is in
    subst (λ (b : Book). (report (state_of b) c.args.robot.0 c.args.event).answer ≡ Err (Early c.in-Some-greatest_before.on)) c.self.view_is
    (ap (λ (t : Step (Unit {0}) ReportRefused). t.answer) (early_is c.self.inside c.self.invariant c.args.robot.0 c.in-Some.next c.args.event next same c.in-Some-greatest_before.on start waits))

pub returns-clause-found : goal.returns-clause-found
returns-clause-found c =
    let start : c.args.robot.0 < length c.self.inside.from.at.items = omega (arith, c.if-robot-robots.false, c.robots.ensures.starts, ap (λ (b : Book). length b.starts) c.self.view_is) in
    let next = sym c.next.ensures ∙ c.in-Some.is in
    let same = eqb-true c.in-Some.next.no.0 c.args.event.0 (sym c.eq.ensures ∙ c.if-eq.true) in
    subst (λ b. IsReportable b c.args.robot.0 c.args.event c.in-Some.next) c.self.view_is
    (record {
      known = start;
      next = next_is c.self.inside c.self.invariant c.args.robot.0 c.in-Some.next c.args.event next same;
      number = same_no c.self.inside c.self.invariant c.args.robot.0 c.in-Some.next c.args.event next same;
      free = waits_is c.self.inside c.self.invariant c.args.robot.0 c.in-Some.next c.args.event next same c.greatest_before.result c.greatest_before.ensures ∙ c.in_default-greatest_before.is;
    })
