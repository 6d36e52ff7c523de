use Rattle.std.proofs.Common.{◌≡◌, ◌≤◌, ◌<◌, length, arith, ap, ◌∙◌, sym, [], replicate, drop, map}
use Rattle.std.proofs.lemmas.List.{length-set}
use Rattle.number_queues.specs.Queues.{items_of}
use Rattle.number_queues.proofs.Edits.{one_cleared, roomy_set, old_roomy}
use Rattle.number_queues.proofs.NumberQueues.clear.Goals as goal

pub loop-queue-preserved : goal.loop-queue-preserved
loop-queue-preserved c =
    let count = c.len-queue-end.ensures in
    let below = c.loop-queue-test.true in
    let same = c.loop-queue.invariant.count in
    let within : c.loop-queue.queue < length c.loop-queue.self-inside.queues.items = omega arith in
    let old = old_roomy c.loop-queue.self-inside.queues.items c.loop-queue.queue c.index_mut.result.now within c.index_mut.ensures.value c.self.inside.room c.loop-queue.invariant.roomy in
    record {
      count = length-set c.loop-queue.self-inside.queues.items c.loop-queue.queue c.clear.new.self ∙ same;
      items = one_cleared c.loop-queue.self-inside.queues.items c.self.inside.queues.items c.loop-queue.queue c.clear.new.self (omega arith) c.clear.ensures.items c.loop-queue.invariant.items;
      room = c.loop-queue.invariant.room;
      roomy = roomy_set c.self.inside.room c.loop-queue.self-inside.queues.items c.loop-queue.queue c.clear.new.self c.loop-queue.invariant.roomy (
        omega (arith, c.clear.ensures.len, c.clear.ensures.capacity, old.0),
        omega (arith, c.clear.ensures.len, old.1),
      );
    }
