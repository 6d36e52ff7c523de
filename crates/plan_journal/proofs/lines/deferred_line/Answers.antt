use Rattle.std.proofs.lemmas.List.{take_rest}
use Rattle.std.proofs.lemmas.Result.{err_from_is_err_and}
use Rattle.plan_journal.proofs.Shapes.{deferred_refused, deferred_long}
use Rattle.plan_journal.proofs.lines.deferred_line.Goals as goal

pub returns-in_err-count-in-len2-up : goal.returns-in_err-count-in-len2-up
returns-in_err-count-in-len2-up c =
    let p = err_from_is_err_and c.from_residual.result c.from_residual.ensures.1 in
    rw (p.1, p.2) (deferred_refused c.args.names.now c.args.full c.args.words.now _ _ c.in_err-count-in-len2-up.field-0.0 c.in-len2-up.len_at_least c.in_err-count-in-len2-up.ensures.is)

pub returns-in_ok-count-in-len2-up : goal.returns-in_ok-count-in-len2-up
returns-in_ok-count-in-len2-up c =
    deferred_long c.args.names.now c.args.full c.has_empty.result c.args.words.now _ _ c.deferred_by.result c.in-len2-up.len_at_least c.has_empty.ensures c.in_ok-count-in-len2-up.ensures.is (rw take_rest at c.deferred_by.ensures)
