use Rattle.std.proofs.Common.{◌∙◌, ap, refl, List}
use Rattle.fleet_base.specs.declared.numbers.Event.{Event}
use Rattle.fleet_model.specs.Sites.{in_conflict}
use Rattle.event_graph.specs.Graphs.{without_number}
use Rattle.event_graph.specs.Example.{example_groups, example_events}
use Rattle.event_graph.proofs.Deciding.{has_ready, tail_free}
use Rattle.plan_tests.proofs.event_graph_calls.graph_changes.Goals as goal

pub finish-requires : goal.finish-requires
unfolding in_conflict
finish-requires g c = has_ready c.in_ok-graph.graph.groups example_groups c.in_ok-graph.graph.events example_events 1 c.in_ok-graph.ensures.groups c.in_ok-graph.ensures.events refl

pub cut_tail-requires-clause-unawaited : goal.cut_tail-requires-clause-unawaited
unfolding in_conflict
cut_tail-requires-clause-unawaited g c =
    tail_free c.finish.new.self.groups example_groups c.finish.new.self.events (without_number example_events (record { 0 = 1 })) 2 2 (c.finish.ensures.setting.groups ∙ c.in_ok-graph.ensures.groups)
    (c.finish.ensures.events ∙ ap (λ (es : List Event). without_number es (record { 0 = 1 })) c.in_ok-graph.ensures.events) refl
