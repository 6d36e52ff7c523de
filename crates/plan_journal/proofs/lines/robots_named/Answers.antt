use Rattle.std.proofs.Common.{map, sym, arith}
use Rattle.std.proofs.lemmas.Result.{err_from_is_err_and}
use Rattle.plan_journal.specs.Entries.{is_robot, robot_in}
use Rattle.plan_journal.proofs.Lists.{refuses_all}
use Rattle.plan_journal.proofs.lines.robots_named.Goals as goal

pub returns-in_err-robot_named : goal.returns-in_err-robot_named
returns-in_err-robot_named c =
    let p = err_from_is_err_and c.from_residual.result c.from_residual.ensures.1 in
    let names = c.args.names.now in
    rw (p.1, p.2)
    (sym (refuses_all (is_robot names) (λ w. w.now) c.args.words.now c.loop-word.word-index _ c.in_err-robot_named.field-0.0 _ _ (map (robot_in names) (map (λ w. w.now) c.args.words.now)) (omega arith) c.loop-word.invariant.left c.in_err-robot_named.ensures.is))
