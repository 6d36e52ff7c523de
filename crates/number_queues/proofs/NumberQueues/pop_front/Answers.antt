use Rattle.std.proofs.Common.{drop, arith}
use Rattle.std.proofs.lemmas.List.{length-map}
use Rattle.number_queues.specs.Queues.{items_of}
use Rattle.number_queues.proofs.Edits.{queue_set}
use Rattle.number_queues.proofs.NumberQueues.pop_front.Goals as goal

pub returns-clause-queues : goal.returns-clause-queues
returns-clause-queues c =
    let within = rw (← c.self.view_is) at c.requires in
    rw (← c.self.view_is) (queue_set c.self.inside.queues.items c.args.queue c.index_mut.result.now (omega (arith, within, length-map c.self.inside.queues.items items_of)) c.index_mut.ensures.value c.pop_front.new.self (λ xs. drop 1 xs) c.pop_front.ensures.rest)
