use Rattle.std.proofs.Common.{◌≡◌, List, Some, None, sym, subst, ap, ◌∙◌}
use Rattle.fleet_base.specs.declared.numbers.CellNo.{CellNo}
use Rattle.fleet_model.specs.Sites.{IsSite}
use Rattle.fleet_model.specs.Plans.{IsRoute}
use Rattle.fleet_model.specs.States.{State, pending_of}
use Rattle.plan_events.specs.Shapes.{shape_cause}
use Rattle.site_map.specs.Claims.{site_of}
use Rattle.coordinator.specs.Books.{state_of}
use Rattle.coordinator_tests.proofs.coordinator_calls.made_again.Goals as goal

pub needs-needed-requires : goal.needs-needed-requires
needs-needed-requires c =
    let s : State = state_of c.args.fleet.now in
    let kept = c.journal-journal.ensures in
    let route : List CellNo = c.in-Some.cells.now in
    let pending : pending_of s c.loop-number.number ≡ Some route = sym c.in-Some.ensures in
    let legal : IsRoute s.fleet c.loop-number.number route = kept.state.routes c.loop-number.number route pending in
    let site : IsSite s.fleet.site = subst IsSite (sym kept.same_site) kept.site in
    subst (λ z. shape_cause z route ≡ None) (kept.same_site ∙ ap site_of (sym c.site-in-Some.ensures))
    (c.legal_routes_have_shapes.ensures s.fleet c.loop-number.number route site legal)
