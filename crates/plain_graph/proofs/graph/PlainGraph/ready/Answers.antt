use Rattle.std.proofs.Common.{◌↔◌, IsTrue}
use Rattle.fleet_base.specs.declared.numbers.Event.{Event}
use Rattle.event_graph.specs.Graphs.{IsReadyAmong}
use Rattle.event_graph.proofs.Scanning.{at_one}
use Rattle.plain_graph.proofs.graph.PlainGraph.ready.Goals as goal

pub returns : goal.returns
returns c =
    let among = rw c.deref-3.ensures.value at c.event_at.ensures.among in
    let answer = rw (c.deref.ensures.value, c.deref-2.ensures.value) at c.is_ready.ensures in
    rw (← c.self.view_is) (at_one (λ (e : Event). IsTrue c.is_ready.result ↔ IsReadyAmong c.self.inside.groups.items c.self.inside.kept.items e) 0 c.self.inside.kept.items c.args.event c.event_at.result c.self.invariant.ascends among c.event_at.ensures.number answer)
