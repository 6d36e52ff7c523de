use Rattle.scenario.proofs.Prints.{then_more}
use Rattle.fleet_assign.specs.Texts.{row_line}
use Rattle.fleet_assign.proofs.telling.push_rows.Goals as goal

pub loop-robot-preserved : goal.loop-robot-preserved
loop-robot-preserved c =
    then_more c.args.text.now.items c.loop-robot.text.items c.push_row.new.text.items (row_line c.args.scenario.now c.args.found.now) c.loop-robot.robot c.loop-robot.invariant
    c.in_ok-push_row.ensures
