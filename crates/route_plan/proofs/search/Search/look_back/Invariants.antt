use Rattle.std.proofs.Common.{◌≡◌, ◌+◌, ◌*◌, ◌^◌, ◌≤◌, Bool, drop, length}
use Rattle.std.specs.BinaryHeap.{heap_items}
use Rattle.fleet_base.specs.declared.numbers.CellNo.{CellNo}
use Rattle.fleet_model.specs.Sites.{IsSite, Site}
use Rattle.route_plan.specs.Labels.{has}
use Rattle.route_plan.specs.Search.{gaps, work, AreLow, IsSearch}
use Rattle.route_plan.proofs.search.Search.look_back.Given as goal

abbrev pub invariant-loop-entry : goal.invariant-loop-entry
invariant-loop-entry l = record {
  kept : (site : Site) (goal : CellNo → Bool) → IsSite site → IsSearch site goal (has l.avoid) l.fn.cell l.label l.row l.initial.self.labels.items (heap_items l.initial.self.queue) → IsSearch site goal (has l.avoid) l.fn.cell l.label (drop l.entry-index l.row) l.self.labels.items (heap_items l.self.queue);
  long : length l.self.labels.items ≡ length l.initial.self.labels.items;
  low : AreLow l.self.labels.items;
  lies : l.label + 2 ^ 32 * gaps l.self.labels.items ≤ 2 ^ 32 * length l.self.labels.items;
  nearer : work l.self.labels.items (heap_items l.self.queue) ≤ work l.initial.self.labels.items (heap_items l.initial.self.queue);
}
