use Rattle.fleet_model.specs.Plans.{own}
use Rattle.merge_op.proofs.FirstFree.{IsScanned}
use Rattle.merge_op.proofs.withdrawal.first_free.Given as goal

abbrev pub invariant-loop-place : goal.invariant-loop-place
invariant-loop-place l = IsScanned l.cells l.graph.groups l.graph.events (own l.robot.0 l.graph.events) l.place l.first
