use Rattle.scenario.proofs.Prints.{then_more}
use Rattle.fleet_assign.specs.Texts.{column_line}
use Rattle.fleet_assign.proofs.telling.push_columns.Goals as goal

pub loop-column-preserved : goal.loop-column-preserved
loop-column-preserved c =
    then_more c.args.text.now.items c.loop-column.text.items c.push_column.new.text.items (column_line c.args.found.now) c.loop-column.column c.loop-column.invariant
    c.in_ok-push_column.ensures
