use Rattle.std.proofs.Common.{refl}
use Rattle.fleet_model.specs.Sites.{in_conflict}
use Rattle.fleet_model.specs.Plans.{numbered}
use Rattle.event_graph.specs.Example.{behind, example_groups, over}
use Rattle.event_graph.proofs.Deciding.{apart_at, known_at}
use Rattle.plan_tests.proofs.merge_op_calls.merge_behind.Goals as goal

pub merge-requires-clause-known : goal.merge-requires-clause-known
merge-requires-clause-known c = known_at c.args.graph.now.groups example_groups behind c.requires.groups refl

pub merge-requires-clause-apart : goal.merge-requires-clause-apart
unfolding in_conflict
merge-requires-clause-apart c =
    apart_at c.args.graph.now.groups example_groups c.args.graph.now.events (numbered 1 0 over) c.args.graph.now.next 7 1 behind c.requires.groups c.requires.events c.requires.next refl
