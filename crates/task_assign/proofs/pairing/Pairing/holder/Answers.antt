use Rattle.std.proofs.Common.{◌<◌, arith}
use Rattle.task_assign.specs.Bounds.{column_in}
use Rattle.task_assign.proofs.PairingLemmas.{row_of}
use Rattle.task_assign.proofs.pairing.Pairing.holder.Goals as goal

pub unreachable-requires : goal.unreachable-requires
unreachable-requires c =
    let found = row_of c.args.size (column_in c.args.self.now) c.requires.pairing c.args.column c.requires.known in
    let below : found.0 < c.args.size = found.1 in
    c.loop-row.invariant found.0 (omega arith) found.2
