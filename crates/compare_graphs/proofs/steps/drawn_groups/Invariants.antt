use Rattle.std.proofs.Common.{◌≤◌, length}
use Rattle.compare_graphs.proofs.steps.drawn_groups.Given as goal

abbrev pub invariant-loop-claim : goal.invariant-loop-claim
invariant-loop-claim l = length l.groups.items ≤ l._claim
