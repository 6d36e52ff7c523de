use Rattle.std.proofs.Common.{◌≡◌, take}
use Rattle.site_map.specs.Claims.{site_of}
use Rattle.event_graph.specs.Example.{example_groups}
use Rattle.plan_tests.proofs.merge_op_calls.check_groups.Given as goal

abbrev pub invariant-loop-number : goal.invariant-loop-number
invariant-loop-number g l = take l.number (site_of l.site).groups ≡ take l.number example_groups
