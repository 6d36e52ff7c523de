use Rattle.std.proofs.Common.{◌≡◌, sym, ap, ◌∙◌, subst, get_or, None, Some, arith}
use Rattle.fleet_model.specs.States.{pending_of}
use Rattle.site_map.specs.Claims.{site_of}
use Rattle.coordinator.specs.Books.{opening_of}
use Rattle.plan_events.specs.Shapes.{shape_cause}
use Rattle.plan_events.proofs.Routes.{walk_shape}
use Rattle.fleet_outcomes.proofs.Ways.{get_or_some}
use Rattle.fleet_outcomes.proofs.course.first_pending.Goals as goal

pub way_of-requires : goal.way_of-requires
way_of-requires c =
    let book = c.args.fleet.now in
    let site = site_of book.site in
    let kept = c.journal-kept.ensures in
    let there : pending_of (opening_of book) c.args.robot.0 ≡ Some c.in-Some.route
    = get_or_some book.pending c.args.robot.0 c.in-Some.route c.index.result.now (let places = kept.opening.places in let known = c.requires in omega arith) (ap (λ ps. get_or ps c.args.robot.0 c.index.result.now) (sym c.opening.ensures.pending) ∙ (sym c.index.ensures ∙ c.in-Some.is)) in
    let route = kept.opening.routes c.args.robot.0 c.in-Some.route there in
    let shape = walk_shape site kept.site c.in-Some.route route.long route.short route.linked in
    let at : shape_cause site c.cells.result.now ≡ None = subst (λ cells. shape_cause site cells ≡ None) (sym c.cells.ensures) shape in
    subst (λ s. shape_cause (site_of s) c.cells.result.now ≡ None) (sym c.site.ensures) at
