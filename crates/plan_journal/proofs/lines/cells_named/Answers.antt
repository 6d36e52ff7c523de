use Rattle.std.proofs.Common.{map, arith}
use Rattle.std.proofs.lemmas.Result.{err_from_is_err_and}
use Rattle.plan_journal.specs.Entries.{is_cell, cell_in}
use Rattle.plan_journal.proofs.Lists.{refuses_all}
use Rattle.plan_journal.proofs.lines.cells_named.Goals as goal

pub returns-in_err-cell : goal.returns-in_err-cell
returns-in_err-cell c =
    let p = err_from_is_err_and c.from_residual.result c.from_residual.ensures.1 in
    let names = c.args.names.now in
    rw (p.1, p.2)
    (refuses_all (is_cell names) (λ w. w.now) c.args.words.now c.loop-word.word-index _ c.in_err-cell.field-0.0 _ _ (map (cell_in names) (map (λ w. w.now) c.args.words.now)) (omega arith) c.loop-word.invariant.left c.in_err-cell.ensures.is)
