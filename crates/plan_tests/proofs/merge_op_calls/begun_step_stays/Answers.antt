use Rattle.std.proofs.Common.{refl}
use Rattle.fleet_model.specs.Sites.{in_conflict}
use Rattle.fleet_model.specs.Plans.{numbered}
use Rattle.event_graph.specs.Example.{example_groups, over}
use Rattle.event_graph.proofs.Deciding.{has_ready}
use Rattle.plan_tests.proofs.merge_op_calls.begun_step_stays.Goals as goal

pub finish-requires : goal.finish-requires
unfolding in_conflict
finish-requires g c = has_ready c.in_ok-graph.graph.groups example_groups c.in_ok-graph.graph.events (numbered 1 0 over) 1 c.in_ok-graph.ensures.groups c.in_ok-graph.ensures.events refl
