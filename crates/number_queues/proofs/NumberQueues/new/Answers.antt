use Rattle.std.proofs.Common.{◌≡◌, ap, ◌∙◌, [], ◌∷◌, ◌++◌, map, replicate, subst, sym, inl, inr, Some, arith}
use Rattle.std.specs.Prelude.{slice_get}
use Rattle.std.proofs.lemmas.List.{map_push, replicate_more}
use Rattle.number_queues.specs.Queues.{items_of, IsRoomy}
use Rattle.number_queues.proofs.Edits.{get_push}
use Rattle.number_queues.proofs.NumberQueues.new.Goals as goal

pub loop-queue-preserved : goal.loop-queue-preserved
loop-queue-preserved c = record {
  items = ap (λ qs. map items_of qs) c.in_ok-push.ensures.items ∙ (map_push items_of c.loop-queue.queues.items c.new.result ∙ (ap (λ xs. xs ++ items_of c.new.result ∷ []) c.loop-queue.invariant.items ∙ (ap (λ x. replicate c.loop-queue._queue [] ++ x ∷ []) c.new.ensures.items ∙ replicate_more c.loop-queue._queue [])));
  roomy = λ k q h. elim (get_push c.loop-queue.queues.items k c.new.result q (subst (λ qs. slice_get qs k ≡ Some q) c.in_ok-push.ensures.items h)) [
    | inl g ↦ c.loop-queue.invariant.roomy k q g
    | inr e ↦ subst (λ x. IsRoomy 0 x) (sym e) (omega (arith, c.new.ensures.len), omega (arith, c.new.ensures.len))
  ];
}
