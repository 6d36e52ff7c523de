use Rattle.mission_model.specs.Stops.{legs_of}
use Rattle.coordinator.specs.Books.{opening_of}
use Rattle.robot_worker.specs.Legs.{leg_cells}
use Rattle.fleet_outcomes.specs.Fleets.{missions_in}
use Rattle.fleet_outcomes.proofs.Acting.{leads_on, leg_next}
use Rattle.fleet_outcomes.proofs.going.next_leg.Goals as goal

pub returns-clause-leg : goal.returns-clause-leg
returns-clause-leg c =
    leg_next c.args.fleet.now c.args.missions.now c.args.robot.0 c.in_ok-count.count c.leg_at.result c.legs.result.now c.legs.ensures.legs c.in_ok-count.ensures c.leg_at.ensures

pub returns-clause-on : goal.returns-clause-on
returns-clause-on c =
    let book = c.args.fleet.now in
    let kept = c.journal-kept.ensures in
    let next = leg_next book c.args.missions.now c.args.robot.0 c.in_ok-count.count c.leg_at.result c.legs.result.now c.legs.ensures.legs c.in_ok-count.ensures c.leg_at.ensures in
    leads_on (legs_of (missions_in book c.args.missions.now) c.args.robot.0) (opening_of book) book.journal c.args.robot.0 (leg_cells book.site c.leg_at.result) kept.site kept.opening kept.legal next
