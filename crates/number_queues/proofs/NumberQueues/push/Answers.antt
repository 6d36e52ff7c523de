use Rattle.std.proofs.Common.{◌++◌, ◌∷◌, [], arith}
use Rattle.std.proofs.lemmas.List.{length-map}
use Rattle.number_queues.specs.Queues.{items_of}
use Rattle.number_queues.proofs.Edits.{queue_set}
use Rattle.number_queues.proofs.NumberQueues.push.Goals as goal

pub returns-clause-queues : goal.returns-clause-queues
returns-clause-queues c =
    let within = rw (← c.self.view_is) at c.requires.queue in
    rw (← c.self.view_is) (queue_set c.self.inside.queues.items c.args.queue c.index_mut.result.now (omega (arith, within, length-map c.self.inside.queues.items items_of)) c.index_mut.ensures.value c.push_back_reserved.new.self (λ xs. xs ++ c.args.number ∷ []) c.push_back_reserved.ensures.items)
