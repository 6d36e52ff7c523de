use Rattle.std.proofs.Common.{◌∙◌, refl, []}
use Rattle.fleet_model.specs.Sites.{in_conflict}
use Rattle.event_graph.specs.Example.{example_groups, over}
use Rattle.event_graph.proofs.Deciding.{apart_at, known_at}
use Rattle.plan_tests.proofs.merge_op_calls.plan_over.Goals as goal

pub merge-requires-clause-known : goal.merge-requires-clause-known
merge-requires-clause-known c = known_at c.in_ok-graph.graph.groups example_groups over (c.in_ok-graph.ensures.groups ∙ c.alone_groups.ensures) refl

pub merge-requires-clause-apart : goal.merge-requires-clause-apart
unfolding in_conflict
merge-requires-clause-apart c =
    apart_at c.in_ok-graph.graph.groups example_groups c.in_ok-graph.graph.events [] c.in_ok-graph.graph.next 1 0 over (c.in_ok-graph.ensures.groups ∙ c.alone_groups.ensures) c.in_ok-graph.ensures.events c.in_ok-graph.ensures.next refl
