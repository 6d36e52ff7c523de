use Rattle.bit_set.proofs.Walks.{IsPassed}
use Rattle.bit_set.proofs.BitSet.next.Given as goal

abbrev pub invariant-loop-place : goal.invariant-loop-place
invariant-loop-place g l = IsPassed l.self l.from l.low l.place
