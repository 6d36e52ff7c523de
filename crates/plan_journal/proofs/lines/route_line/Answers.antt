use Rattle.std.proofs.lemmas.List.{take_rest}
use Rattle.plan_journal.proofs.Shapes.{route_short, route_long}
use Rattle.plan_journal.proofs.lines.route_line.Goals as goal

pub returns-in_default : goal.returns-in_default
returns-in_default c = route_short c.args.names.now c.args.full c.args.words.now c.in_default.len_below

pub returns-in-len3-up : goal.returns-in-len3-up
returns-in-len3-up c = route_long c.args.names.now c.args.full c.has_empty.result c.args.words.now _ c.route_by.result c.in-len3-up.len_at_least c.has_empty.ensures (rw take_rest at c.route_by.ensures)
