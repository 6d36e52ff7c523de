use Rattle.std.proofs.Common.{◌≡◌, ◌==◌, drop}
use Rattle.std.specs.List.{list_any}
use Rattle.fleet_base.specs.declared.numbers.RobotNo.{RobotNo}
use Rattle.fleet_outcomes.proofs.outcomes.is_in.Given as goal

abbrev pub invariant-loop-place : goal.invariant-loop-place
invariant-loop-place l = list_any (λ (q : RobotNo). q.0 == l.robot.0) l.robots ≡ list_any (λ (q : RobotNo). q.0 == l.robot.0) (drop l.place l.robots)
