use Rattle.std.proofs.Common.{◌≡◌, ◌-◌, ◌≤◌, ◌++◌, ◌∷◌, [], ◌∙◌, ℕ, List, Option, Some, None, inl, inr, refl, length, take, get_or, ap, sym, arith}
use Rattle.std.specs.Prelude.{slice_get}
use Rattle.std.specs.Option.{option_to_list}
use Rattle.std.proofs.lemmas.Bool.{cases_lt}
use Rattle.std.proofs.lemmas.Option.{slice_get-get_or}
use Rattle.std.proofs.lemmas.List.{length-map, length-append}
use Rattle.number_queues.specs.Queues.{items_of}
use Rattle.number_queues.proofs.Edits.{queue_set, queue_read}
use Rattle.number_queues.proofs.NumberQueues.pop_back.Goals as goal

none_left : (old new : List ℕ) (o : Option ℕ) → old ≡ new ++ option_to_list o → length old ≤ 0 → o ≡ slice_get old (length old - 1)
none_left [] new None h l = refl
none_left [] new (Some x) h l = let a = ap length h in let b = length-append new (x ∷ []) in absurd (omega arith)
none_left (y ∷ old) new o h l = absurd (omega arith)

pub returns-clause-queues : goal.returns-clause-queues
returns-clause-queues c =
    let within = rw (← c.self.view_is) at c.requires in
    let count : c.index_mut.result.now.len ≡ length c.index_mut.result.now.items = omega arith in
    rw (← c.self.view_is) (queue_set c.self.inside.queues.items c.args.queue c.index_mut.result.now (omega (arith, within, length-map c.self.inside.queues.items items_of)) c.index_mut.ensures.value c.pop_back.new.self (λ xs. take (length xs - 1) xs) (c.pop_back.ensures.rest ∙ ap (λ n. take (n - 1) c.index_mut.result.now.items) count))

pub returns-clause-last : goal.returns-clause-last
returns-clause-last c =
    let within = rw (← c.self.view_is) at c.requires in
    let count : c.index_mut.result.now.len ≡ length c.index_mut.result.now.items = omega arith in
    let read = queue_read c.self.inside.queues.items c.args.queue c.index_mut.result.now (omega (arith, within, length-map c.self.inside.queues.items items_of)) c.index_mut.ensures.value in
    rw (← c.self.view_is, read) (elim (cases_lt 0 c.index_mut.result.now.len) [
      | inl l ↦ c.pop_back.ensures.value 0 l ∙ (ap (λ n. Some (get_or c.index_mut.result.now.items (n - 1) 0)) count ∙ sym (slice_get-get_or c.index_mut.result.now.items (length c.index_mut.result.now.items - 1) 0 (omega arith)))
      | inr g ↦ none_left c.index_mut.result.now.items c.pop_back.new.self.items c.pop_back.result c.pop_back.ensures.items (omega arith)
    ])
