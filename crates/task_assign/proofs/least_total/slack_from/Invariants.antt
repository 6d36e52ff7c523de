use Rattle.std.proofs.Common.{◌≡◌, ℕ, ◌+◌, ◌<◌, ◌≤◌}
use Rattle.task_assign.specs.Squares.{cost_at}
use Rattle.task_assign.specs.Bounds.{column_in, raised_in, lowered_in}
use Rattle.task_assign.specs.Trees.{IsLeft}
use Rattle.task_assign.proofs.least_total.slack_from.Given as goal

abbrev pub invariant-loop-other : goal.invariant-loop-other
invariant-loop-other l = (l.other-end ≡ l.costs.size) × (l.other-end ≤ 64) × (1 ≤ l.least) × (l.least ≤ l.most) × ((b : ℕ) → b < l.other → IsLeft l.tree b → raised_in l.numbers l.from + l.least ≤ cost_at l.costs l.from (column_in l.pairing b) + lowered_in l.numbers (column_in l.pairing b))
