use Rattle.scenario.specs.Canonical.{robot_text}
use Rattle.scenario.proofs.Prints.{then_more}
use Rattle.scenario.proofs.print.push_robots.Goals as goal

pub loop-robot-preserved : goal.loop-robot-preserved
loop-robot-preserved c = then_more c.args.text.now.items c.loop-robot.text.items c.push_two.new.text.items (robot_text c.args.names.now c.args.starts.now) c.loop-robot.robot c.loop-robot.invariant c.in_ok-push_two.ensures
