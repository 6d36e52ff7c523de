use Rattle.coordinator.specs.Books.{state_of}
use Rattle.fleet_texts.specs.StateTexts.{robot_lines}
use Rattle.fleet_report.proofs.Lines.{numbers_more}
use Rattle.fleet_report.proofs.state.push_robots.Goals as goal

pub loop-number-preserved : goal.loop-number-preserved
loop-number-preserved c =
    numbers_more (robot_lines c.args.names.now c.args.fleet.now.site (state_of c.args.fleet.now)) c.loop-number.number c.loop-number.text.items c.push_robot_lines.new.text.items c.args.text.now.items
    c.loop-number.invariant c.in_ok-push_robot_lines.ensures.ok
