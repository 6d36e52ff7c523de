use Rattle.std.proofs.Common.{◌≡◌, ◌*◌, ◌-◌, ◌++◌, [], map, replicate}
use Rattle.fleet_model.specs.Lists.{numbers_below}
use Rattle.scenario_gen.specs.Generated.{before_robot, mission}
use Rattle.scenario_gen.proofs.missions.missions.Given as goal

abbrev pub invariant-loop-robot : goal.invariant-loop-robot
invariant-loop-robot l = record {
  made : l.missions ≡ map (λ r. mission (l.grid.width * l.grid.height) (before_robot l.fn.draws.number r)) (numbers_below l.robot) ++ replicate (l.robots - l.robot) [];
  number : l.draws.number ≡ before_robot l.fn.draws.number l.robot;
}
