use Rattle.std.proofs.Common.{◌≡◌, ◌++◌, ℕ, [], replicate, drop, map, length}
use Rattle.number_queues.specs.Queues.{items_of, AreRoomy}
use Rattle.number_queues.proofs.NumberQueues.clear.Given as goal

abbrev pub invariant-loop-queue : goal.invariant-loop-queue
invariant-loop-queue l = record {
  count : length l.self-inside.queues.items ≡ length l.initial.self-inside.queues.items;
  items : map items_of l.self-inside.queues.items ≡ replicate l.queue [] ++ drop l.queue (map items_of l.initial.self-inside.queues.items);
  room : l.self-inside.room ≡ l.initial.self-inside.room;
  roomy : AreRoomy l.initial.self-inside.room l.self-inside.queues.items;
}
