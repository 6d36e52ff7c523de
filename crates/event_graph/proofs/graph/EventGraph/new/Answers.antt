use Rattle.event_graph.proofs.Storing.{empty_stored}
use Rattle.event_graph.proofs.graph.EventGraph.new.Goals as goal

pub invariant_of-result : goal.invariant_of-result
invariant_of-result c =
    let groups = c.in_ok-from_slice.ensures.items in
    empty_stored _ _ _ _ _ _ c.args.robots c.requires.robots (rw groups c.requires.claims) (rw groups c.in_ok-reaches.ensures) c.new.ensures.items c.in_ok-new.ensures c.in_ok-new-2.ensures.keys (rw groups c.in_ok-new-2.ensures.chains)
