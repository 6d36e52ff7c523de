use Rattle.std.proofs.Common.{ap, ◌∙◌}
use Rattle.fleet_model.specs.Plans.{own}
use Rattle.mission_model.specs.Stops.{serve_along, stops_of}
use Rattle.coordinator.specs.Books.{opening_of, state_of}
use Rattle.robot_worker.specs.Legs.{plain_legs}
use Rattle.fleet_outcomes.specs.Courses.{Course, kept_along}
use Rattle.fleet_outcomes.proofs.Following.{served_along}
use Rattle.fleet_outcomes.proofs.Ways.{plain_at}
use Rattle.fleet_outcomes.proofs.served.served.Goals as goal

pub returns : goal.returns
returns c =
    let book = c.args.fleet.now in
    let r = c.args.robot.0 in
    let stops = stops_of (opening_of book) book.journal r in
    let legs = plain_legs book.site c.legs.result.now in
    let kept = c.deref.ensures.value ∙ ap (λ (x : Course). x.stops) c.course.view_is in
    c.serve_along.ensures
    ∙ (ap (λ site. kept_along (plain_legs site c.legs.result.now) 0 c.deref.result.now) c.site.ensures
    ∙ (ap (kept_along legs 0) kept
    ∙ (served_along legs (own r (state_of book).fleet.plan) 0 stops c.in_ok-course.course.stops c.in_ok-course.ensures
    ∙ ap (λ legs. serve_along legs 0 stops) (ap (plain_legs book.site) c.legs.ensures.legs ∙ plain_at book.site c.args.missions.now r))))
