use Rattle.std.proofs.Common.{◌∙◌, ap}
use Rattle.std.specs.Option.{is_some}
use Rattle.coordinator.specs.Books.{state_of}
use Rattle.fleet_outcomes.proofs.Acting.{way_here}
use Rattle.fleet_outcomes.proofs.outcomes.can_reach.Goals as goal

pub returns : goal.returns
returns c =
    c.is_some.ensures
    ∙ ap is_some (way_here (state_of c.args.fleet.now) c.args.robot.0 c.args.goal c.site.result.now c.args.fleet.now.site c.end.result c.in_ok-route.route c.journal-kept.ensures.same_site c.site.ensures c.end.ensures.value c.in_ok-route.ensures)
