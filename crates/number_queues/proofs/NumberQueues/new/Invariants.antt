use Rattle.std.proofs.Common.{◌≡◌, ℕ, Some, [], replicate, map, vec_len}
use Rattle.std.specs.Prelude.{slice_get}
use Rattle.std.specs.VecDeque.{deque_len}
use Rattle.std.specs.declared.collections.VecDeque.{VecDeque}
use Rattle.std.specs.declared.alloc.Global.{Global}
use Rattle.number_queues.specs.Queues.{items_of, IsRoomy}
use Rattle.number_queues.proofs.NumberQueues.new.Given as goal

abbrev pub invariant-loop-queue : goal.invariant-loop-queue
invariant-loop-queue l = record {
  items : map items_of l.queues.items ≡ replicate l._queue [];
  roomy : (k : ℕ) (q : VecDeque ℕ Global) → slice_get l.queues.items k ≡ Some q → IsRoomy 0 q;
}
