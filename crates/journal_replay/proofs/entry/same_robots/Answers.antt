use Rattle.std.proofs.Common.{◌≡◌, List, length, sym, ◌∙◌, arith}
use Rattle.std.proofs.lemmas.Bool.{eqb-true}
use Rattle.fleet_base.specs.declared.numbers.RobotNo.{RobotNo}
use Rattle.journal_replay.proofs.Robots.{same_by_places}
use Rattle.journal_replay.proofs.entry.same_robots.Goals as goal

pub returns-clause-same : goal.returns-clause-same
returns-clause-same c = λ same.
    let one : List RobotNo = c.args.one.now in
    let other : List RobotNo = c.args.other.now in
    let lens = eqb-true c.len.result c.len-2.result same in
    let past = c.loop-place-test.false in
    let len : length one ≡ length other = sym c.len.ensures ∙ lens ∙ c.len-2.ensures in
    same_by_places one other len (λ k within. c.loop-place.invariant k (omega (arith, within, past, c.len.ensures)))
