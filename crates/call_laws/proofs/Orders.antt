-- Reports of an allowed order are accepted.
use Rattle.std.proofs.Common.{◌≡◌, List, [], ◌∷◌, Ok, Some, refl, sym, ap, subst, ◌∙◌, ◌+◌}
use Rattle.fleet_base.specs.declared.answers.ReportRefused.{ReportRefused}
use Rattle.fleet_base.specs.declared.numbers.Event.{Event}
use Rattle.fleet_model.specs.Calls.{Reports, Step, answers, report, reported}
use Rattle.fleet_model.specs.Good.{IsGoodPlan}
use Rattle.fleet_model.specs.Plans.{IsAllowed}
use Rattle.fleet_model.specs.States.{State}
use Rattle.fleet_model.proofs.GoodStates.{report_good}
use Rattle.fleet_model.proofs.Reports.{report_accepted}
use Rattle.call_laws.specs.Orders.{all_accepted, report_calls}

-- the first event is accepted, and behind it the rest is allowed
pub first_accepted : (s : State) (e : Event) (rest : List Event) → IsGoodPlan s.fleet → IsAllowed s.fleet (e ∷ rest) → ((report s e.robot.0 e.no).answer ≡ Ok tt) × IsAllowed (report s e.robot.0 e.no).after.fleet rest
first_accepted s e rest good allowed =
    let is = report_accepted s e good allowed.0 in (
      ap (λ x. x.answer) is,
      subst (λ (t : State). IsAllowed t.fleet rest) (ap (λ x. x.after) (sym is)) allowed.1,
    )

pub all_accepted_so : (s : State) (order : List Event) → IsGoodPlan s.fleet → IsAllowed s.fleet order → answers s (report_calls order) ≡ all_accepted order
all_accepted_so s [] good allowed = refl
all_accepted_so s (e ∷ es) good allowed =
    let is = report_accepted s e good allowed.0 in
    let done : State = record s { fleet = reported s.fleet (Some e); count = s.count + 1 } in
    ap (λ (x : Step (Unit {0}) ReportRefused). Reports x.answer ∷ answers x.after (report_calls es)) is
    ∙ ap (λ rest. Reports (Ok tt) ∷ rest) (all_accepted_so done es (report_good s.fleet e good allowed.0) allowed.1)
