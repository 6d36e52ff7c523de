use Rattle.std.proofs.Common.{◌-◌}
use Rattle.fleet_model.specs.Plans.{own}
use Rattle.compare_graphs.proofs.Pairs.{AreFree}
use Rattle.compare_graphs.proofs.pair.Pair.is_free.Given as goal

abbrev pub invariant-loop-place : goal.invariant-loop-place
invariant-loop-place l = AreFree l.self.plain.groups l.self.plain.events (own l.robot.0 l.self.plain.events) (l.left - l.count) l.place
