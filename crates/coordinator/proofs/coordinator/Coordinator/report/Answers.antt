use Rattle.std.proofs.Common.{◌≡◌, ap, sym, subst}
use Rattle.std.specs.Prelude.{Ok}
use Rattle.std.specs.Option.{option_to_list}
use Rattle.fleet_base.specs.declared.answers.ReportRefused.{ReportRefused}
use Rattle.fleet_model.specs.Calls.{Step, report}
use Rattle.coordinator.specs.Books.{state_of, with_entries}
use Rattle.coordinator.specs.Endings.{IsReportable}
use Rattle.coordinator.specs.Kept.{shown}
use Rattle.coordinator.proofs.Reporting.{book_then, done_is, has_place, has_ready, has_tables, kept_then}
use Rattle.coordinator.proofs.coordinator.Coordinator.report.Goals as goal

pub finish-requires-clause-ready : goal.finish-requires-clause-ready
finish-requires-clause-ready c =
    let found = subst (λ b. IsReportable b c.args.robot.0 c.args.event c.in_ok-next.next) (sym c.self.view_is) c.in_ok-next.ensures.found in
    has_ready c.self.inside c.self.invariant c.args.robot.0 c.in_ok-next.next c.args.event found

pub finish-requires-clause-known : goal.finish-requires-clause-known
finish-requires-clause-known c =
    let found = subst (λ b. IsReportable b c.args.robot.0 c.args.event c.in_ok-next.next) (sym c.self.view_is) c.in_ok-next.ensures.found in
    has_tables c.self.inside c.self.invariant c.args.robot.0 c.in_ok-next.next c.args.event found

pub finish-requires-clause-place : goal.finish-requires-clause-place
finish-requires-clause-place c =
    let found = subst (λ b. IsReportable b c.args.robot.0 c.args.event c.in_ok-next.next) (sym c.self.view_is) c.in_ok-next.ensures.found in
    has_place c.self.inside c.self.invariant c.args.robot.0 c.in_ok-next.next c.args.event found

pub invariant_of-self : goal.invariant_of-self
invariant_of-self c =
    let found = subst (λ b. IsReportable b c.args.robot.0 c.args.event c.in_ok-next.next) (sym c.self.view_is) c.in_ok-next.ensures.found in
    kept_then c.self.inside c.self.invariant c.args.robot.0 c.in_ok-next.next c.args.event found c.push_reserved.new.self c.finish.new.self c.finish.ensures c.push_reserved.ensures.items c.push_reserved.ensures.len c.push_reserved.ensures.capacity

pub returns-clause-answer : goal.returns-clause-answer
returns-clause-answer c =
    let found = subst (λ b. IsReportable b c.args.robot.0 c.args.event c.in_ok-next.next) (sym c.self.view_is) c.in_ok-next.ensures.found in
    subst (λ b. Ok tt ≡ (report (state_of b) c.args.robot.0 c.args.event).answer) c.self.view_is
    (sym (ap (λ (t : Step (Unit {0}) ReportRefused). t.answer) (done_is c.self.inside c.self.invariant c.args.robot.0 c.in_ok-next.next c.args.event found)))

pub returns-clause-book : goal.returns-clause-book
returns-clause-book c =
    let found = subst (λ b. IsReportable b c.args.robot.0 c.args.event c.in_ok-next.next) (sym c.self.view_is) c.in_ok-next.ensures.found in
    subst (λ b. shown (record c.self.inside { journal = c.push_reserved.new.self; tables = c.finish.new.self }) ≡ with_entries b (option_to_list (report (state_of b) c.args.robot.0 c.args.event).entry)) c.self.view_is
    (book_then c.self.inside c.self.invariant c.args.robot.0 c.in_ok-next.next c.args.event found c.push_reserved.new.self c.finish.new.self c.finish.ensures c.push_reserved.ensures.items c.push_reserved.ensures.len c.push_reserved.ensures.capacity)
