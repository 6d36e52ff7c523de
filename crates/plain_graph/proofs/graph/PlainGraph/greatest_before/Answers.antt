use Rattle.std.proofs.Common.{◌≡◌}
use Rattle.fleet_base.specs.declared.numbers.Event.{Event}
use Rattle.event_graph.specs.Graphs.{greatest_after}
use Rattle.event_graph.proofs.Scanning.{at_one}
use Rattle.plain_graph.proofs.graph.PlainGraph.greatest_before.Goals as goal

pub returns : goal.returns
returns c =
    let among = rw c.deref-3.ensures.value at c.event_at.ensures.among in
    let answer = rw (c.deref.ensures.value, c.deref-2.ensures.value) at c.greatest.ensures in
    rw (← c.self.view_is) (at_one (λ (e : Event). c.greatest.result ≡ greatest_after c.self.inside.groups.items c.self.inside.kept.items e) 0 c.self.inside.kept.items c.args.event c.event_at.result c.self.invariant.ascends among c.event_at.ensures.number answer)
