use Rattle.std.proofs.Common.{refl}
use Rattle.event_graph.specs.Example.{example_events}
use Rattle.event_graph.proofs.Deciding.{has_number}
use Rattle.plan_tests.proofs.event_graph_calls.graph_answers.Goals as goal

pub ready-requires : goal.ready-requires
ready-requires g c = has_number c.in_ok-graph.graph.events example_events 1 c.in_ok-graph.ensures.events refl

pub ready-requires-2 : goal.ready-requires-2
ready-requires-2 g c = has_number c.in_ok-graph.graph.events example_events 2 c.in_ok-graph.ensures.events refl

pub ready-requires-3 : goal.ready-requires-3
ready-requires-3 g c = has_number c.in_ok-graph.graph.events example_events 7 c.in_ok-graph.ensures.events refl

pub greatest_before-requires : goal.greatest_before-requires
greatest_before-requires g c = has_number c.in_ok-graph.graph.events example_events 7 c.in_ok-graph.ensures.events refl

pub greatest_before-requires-2 : goal.greatest_before-requires-2
greatest_before-requires-2 g c = has_number c.in_ok-graph.graph.events example_events 10 c.in_ok-graph.ensures.events refl

pub greatest_before-requires-3 : goal.greatest_before-requires-3
greatest_before-requires-3 g c = has_number c.in_ok-graph.graph.events example_events 4 c.in_ok-graph.ensures.events refl

pub awaited-requires : goal.awaited-requires
awaited-requires g c = has_number c.in_ok-graph.graph.events example_events 3 c.in_ok-graph.ensures.events refl

pub awaited-requires-2 : goal.awaited-requires-2
awaited-requires-2 g c = has_number c.in_ok-graph.graph.events example_events 9 c.in_ok-graph.ensures.events refl
