use Rattle.std.proofs.Common.{◌≡◌, ◌*◌, ◌+◌, ◌∙◌, ap, arith, length, [], set, suc}
use Rattle.scenario.specs.Scenarios.{legs_of}
use Rattle.scenario_gen.specs.Generated.{after_mission, before_robot, mission}
use Rattle.scenario_gen.proofs.Fills.{filled_at, filled_more, length-filled}
use Rattle.scenario_gen.proofs.missions.missions.Goals as goal

pub add_mission-requires-clause-known : goal.add_mission-requires-clause-known
add_mission-requires-clause-known c =
    let cells = c.args.grid.width * c.args.grid.height in
    let long = ap length c.loop-robot.invariant.made ∙ length-filled (λ r. mission cells (before_robot c.args.draws.now.number r)) [] c.args.robots c.loop-robot.robot (omega arith) in
    omega arith

pub add_mission-requires-clause-none : goal.add_mission-requires-clause-none
add_mission-requires-clause-none c =
    let cells = c.args.grid.width * c.args.grid.height in
    ap (λ ms. legs_of ms c.loop-robot.robot) c.loop-robot.invariant.made ∙ filled_at (λ r. mission cells (before_robot c.args.draws.now.number r)) [] c.args.robots c.loop-robot.robot (omega arith)

pub loop-robot-preserved : goal.loop-robot-preserved
loop-robot-preserved c =
    let cells = c.args.grid.width * c.args.grid.height in
    let x = c.args.draws.now.number in
    let r = c.loop-robot.robot in
    let number = c.loop-robot.draws.number in
    let more : suc r ≡ r + 1 = omega arith in
    record {
      made = c.in_ok-add_mission.ensures.legs
          ∙ (ap (λ ms. set ms r (mission cells number)) c.loop-robot.invariant.made
          ∙ filled_more (λ q. mission cells (before_robot x q)) [] c.args.robots r (mission cells number) (omega arith) (ap (mission cells) c.loop-robot.invariant.number));
      number = c.in_ok-add_mission.ensures.number ∙ (ap after_mission c.loop-robot.invariant.number ∙ ap (before_robot x) more);
    }
