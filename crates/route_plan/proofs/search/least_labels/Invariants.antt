use Rattle.std.specs.BinaryHeap.{heap_items}
use Rattle.site_map.specs.Claims.{site_of}
use Rattle.route_plan.specs.Labels.{has}
use Rattle.route_plan.specs.Search.{work, AreLow, IsSettled}
use Rattle.route_plan.proofs.search.least_labels.Given as goal

abbrev pub invariant-loop-label : goal.invariant-loop-label
invariant-loop-label l = record {
  settled : IsSettled (site_of l.site) (has l.goal) (has l.avoid) l.search.labels.items (heap_items l.search.queue);
  low : AreLow l.search.labels.items;
}

abbrev pub decreases-loop-label : goal.decreases-loop-label
decreases-loop-label l = work l.search.labels.items (heap_items l.search.queue)
