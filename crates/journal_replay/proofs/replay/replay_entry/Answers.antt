use Rattle.std.proofs.Common.{ap, length, arith}
use Rattle.journal_replay.proofs.Counts.{entries_few}
use Rattle.journal_replay.proofs.replay.replay_entry.Goals as goal

pub overflow_cast-before : goal.overflow_cast-before
overflow_cast-before c =
    let kept = c.journal.ensures in
    let few = entries_few c.args.fleet kept.site kept.opening kept.legal kept.state in
    let same = ap length kept.entries in
    omega (arith, few, same)

pub overflow_add-result : goal.overflow_add-result
overflow_add-result c =
    let kept = c.journal.ensures in
    let few = entries_few c.args.fleet kept.site kept.opening kept.legal kept.state in
    let same = ap length kept.entries in
    omega (arith, few, same)
