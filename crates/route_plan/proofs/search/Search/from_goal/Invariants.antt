use Rattle.std.specs.BinaryHeap.{heap_items}
use Rattle.route_plan.specs.Labels.{has}
use Rattle.route_plan.specs.Search.{IsBegun}
use Rattle.route_plan.proofs.search.Search.from_goal.Given as goal

abbrev pub invariant-loop-number : goal.invariant-loop-number
invariant-loop-number l = IsBegun l.number (has l.goal) (has l.avoid) l.labels.items (heap_items l.queue)
