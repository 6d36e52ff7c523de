use Rattle.std.proofs.Common.{refl, Some, None}
use Rattle.coordinator.specs.Books.{state_of}
use Rattle.mission_model.specs.declared.doing.Doing.TheVariants as doing
use Rattle.fleet_outcomes.proofs.Acting.{goal_of, picked}
use Rattle.fleet_outcomes.proofs.going.policy_request.Goals as goal

pub returns-in-Report-clause-act : goal.returns-in-Report-clause-act
returns-in-Report-clause-act c =
    let s = state_of c.args.fleet.now in
    picked s c.args.robot.0 c.args.fleet.now.site c.args.leg c.args.leg c.is_some.result (doing.Report c.in-Report.event) refl c.is_some.ensures (c.in-Report.ensures s c.args.robot.0 c.look_at-look.ensures)

pub returns-in-Retry-clause-act : goal.returns-in-Retry-clause-act
returns-in-Retry-clause-act c =
    let s = state_of c.args.fleet.now in
    picked s c.args.robot.0 c.args.fleet.now.site c.args.leg c.args.leg c.is_some.result doing.Retry refl c.is_some.ensures (c.in-Retry.ensures s c.args.robot.0 c.look_at-look.ensures)

pub returns-in-Some-clause-act : goal.returns-in-Some-clause-act
returns-in-Some-clause-act c =
    let s = state_of c.args.fleet.now in
    picked s c.args.robot.0 c.args.fleet.now.site c.args.leg (Some c.in-Some.goal) c.is_some.result doing.Replan c.in-Some.is c.is_some.ensures (c.in-Replan.ensures s c.args.robot.0 c.look_at-look.ensures)

pub returns-in-None-clause-act : goal.returns-in-None-clause-act
returns-in-None-clause-act c =
    let s = state_of c.args.fleet.now in
    picked s c.args.robot.0 c.args.fleet.now.site c.args.leg None c.is_some.result doing.Replan c.in-None.is c.is_some.ensures (c.in-Replan.ensures s c.args.robot.0 c.look_at-look.ensures)

pub proposal-requires-clause-known : goal.proposal-requires-clause-known
proposal-requires-clause-known c = c.requires.known

pub proposal-requires-clause-goal : goal.proposal-requires-clause-goal
proposal-requires-clause-goal c = goal_of c.args.fleet.now.site c.args.leg c.in-Some-leg.goal c.requires.goal c.in-Some-leg.is

pub returns-in-Rest-clause-act : goal.returns-in-Rest-clause-act
returns-in-Rest-clause-act c =
    let s = state_of c.args.fleet.now in
    picked s c.args.robot.0 c.args.fleet.now.site c.args.leg c.args.leg c.is_some.result doing.Rest refl c.is_some.ensures (c.in-Rest.ensures s c.args.robot.0 c.look_at-look.ensures)
