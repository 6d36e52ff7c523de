use Rattle.std.proofs.Common.{◌≡◌, ℕ, ◌<◌, ◌≤◌, true}
use Rattle.task_assign.specs.Bounds.{column_in}
use Rattle.task_assign.specs.Trees.{is_reached}
use Rattle.task_assign.specs.Lifts.{IsRoom}
use Rattle.task_assign.proofs.least_total.least_slack.Given as goal

abbrev pub invariant-loop-from : goal.invariant-loop-from
invariant-loop-from l = (l.from-end ≡ l.costs.size) × (l.from-end ≤ 64) × (1 ≤ l.least) × (l.least ≤ 1000000000000) × ((a : ℕ) → a < l.from → is_reached l.tree a ≡ true → IsRoom l.costs l.numbers (column_in l.pairing) l.tree a l.least)
