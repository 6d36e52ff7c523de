use Rattle.std.proofs.Common.{List, ◌++◌, ap, ◌∙◌}
use Rattle.site_map.specs.declared.goal.Goal.{Goal}
use Rattle.scenario.specs.Canonical.{legs_text, mission_text}
use Rattle.scenario.proofs.Prints.{then_more}
use Rattle.scenario.proofs.print.push_missions.Goals as goal

pub loop-robot-preserved : goal.loop-robot-preserved
loop-robot-preserved c =
    then_more c.args.text.now.items c.loop-robot.text.items c.push_mission.new.text.items (mission_text c.args.names.now c.args.missions.now) c.loop-robot.robot c.loop-robot.invariant
    (c.in_ok-push_mission.ensures ∙ ap (λ (legs : List Goal). c.loop-robot.text.items ++ legs_text c.args.names.now c.loop-robot.robot legs) c.legs.ensures.legs)
