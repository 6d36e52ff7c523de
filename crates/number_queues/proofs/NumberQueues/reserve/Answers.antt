use Rattle.std.proofs.Common.{◌≡◌, ◌<◌, ◌∙◌, ap, sym, subst, length, arith, map, inl, inr}
use Rattle.std.proofs.lemmas.List.{length-map, length-set, get_or_default}
use Rattle.std.specs.VecDeque.{deque_len}
use Rattle.std.proofs.lemmas.Option.{slice_get_within}
use Rattle.number_queues.specs.Queues.{items_of, IsRoomy}
use Rattle.number_queues.proofs.Edits.{queue_same, roomy_set, old_roomy, get_set}
use Rattle.number_queues.proofs.NumberQueues.reserve.Goals as goal

pub returns-in_err-reserve-clause-unchanged : goal.returns-in_err-reserve-clause-unchanged
returns-in_err-reserve-clause-unchanged c =
    let count = c.len-queue-end.ensures in
    let below = c.loop-queue-test.true in
    let same = c.loop-queue.invariant.count in
    rw (← c.self.view_is) (queue_same c.loop-queue.self-inside.queues.items c.loop-queue.queue c.index_mut.result.now (omega arith) c.index_mut.ensures.value c.reserve.new.self c.in_err-reserve.ensures.items ∙ c.loop-queue.invariant.items)

pub loop-queue-preserved : goal.loop-queue-preserved
loop-queue-preserved c =
    let count = c.len-queue-end.ensures in
    let below = c.loop-queue-test.true in
    let same = c.loop-queue.invariant.count in
    let within : c.loop-queue.queue < length c.loop-queue.self-inside.queues.items = omega arith in
    let one : c.index.result.now ≡ c.index_mut.result.now = c.index.ensures ∙ (get_or_default c.loop-queue.self-inside.queues.items c.loop-queue.queue c.index.result.now c.index_mut.result.now within ∙ sym c.index_mut.ensures.value) in
    let long : c.index.result.now.len ≡ c.index_mut.result.now.len = ap (λ q. deque_len q) one in
    let short = c.if-more-len.false in
    let len = c.len.ensures in
    let old = old_roomy c.loop-queue.self-inside.queues.items c.loop-queue.queue c.index_mut.result.now within c.index_mut.ensures.value c.self.inside.room c.loop-queue.invariant.old in
    record {
      count = length-set c.loop-queue.self-inside.queues.items c.loop-queue.queue c.reserve.new.self ∙ same;
      items = queue_same c.loop-queue.self-inside.queues.items c.loop-queue.queue c.index_mut.result.now within c.index_mut.ensures.value c.reserve.new.self c.in_ok-reserve.ensures.items ∙ c.loop-queue.invariant.items;
      room = c.loop-queue.invariant.room;
      old = roomy_set c.self.inside.room c.loop-queue.self-inside.queues.items c.loop-queue.queue c.reserve.new.self c.loop-queue.invariant.old (omega (arith, old.0, c.in_ok-reserve.ensures.len, c.in_ok-reserve.ensures.capacity), omega (arith, old.1, c.in_ok-reserve.ensures.len));
      roomy = λ k q l h. elim (get_set c.loop-queue.self-inside.queues.items c.loop-queue.queue k c.reserve.new.self q h) [
        | inl e ↦ subst (λ x. IsRoomy c.args.more x) (sym e.1) (omega (arith, c.in_ok-reserve.ensures.ok), omega (arith, c.in_ok-reserve.ensures.len))
        | inr e ↦ c.loop-queue.invariant.roomy k q (omega (arith, l, e.0)) e.1
      ];
    }

pub invariant_of-self-2 : goal.invariant_of-self-2
invariant_of-self-2 c =
    let same = c.loop-queue.invariant.count in
    record {
      few = c.loop-queue.invariant.old.few;
      roomy = λ k q h. c.loop-queue.invariant.roomy k q (let w = slice_get_within c.loop-queue.self-inside.queues.items k q h in let done = c.loop-queue-test.false in let count = c.len-queue-end.ensures in omega (arith, length-map c.loop-queue.self-inside.queues.items items_of, length-map c.self.inside.queues.items items_of)) h;
    }
