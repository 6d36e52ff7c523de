use Rattle.std.proofs.Common.{◌≡◌, ◌<◌, ℕ, Some, map, length}
use Rattle.std.specs.Prelude.{slice_get}
use Rattle.std.specs.declared.collections.VecDeque.{VecDeque}
use Rattle.std.specs.declared.alloc.Global.{Global}
use Rattle.number_queues.specs.Queues.{items_of, AreRoomy, IsRoomy}
use Rattle.number_queues.proofs.NumberQueues.reserve.Given as goal

abbrev pub invariant-loop-queue : goal.invariant-loop-queue
invariant-loop-queue l = record {
  count : length l.self-inside.queues.items ≡ length l.initial.self-inside.queues.items;
  items : map items_of l.self-inside.queues.items ≡ map items_of l.initial.self-inside.queues.items;
  room : l.self-inside.room ≡ l.initial.self-inside.room;
  old : AreRoomy l.initial.self-inside.room l.self-inside.queues.items;
  roomy : (k : ℕ) (q : VecDeque ℕ Global) → k < l.queue → slice_get l.self-inside.queues.items k ≡ Some q → IsRoomy l.more q;
}
