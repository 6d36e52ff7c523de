use Rattle.std.proofs.Common.{◌≡◌, ◌*◌, map, set}
use Rattle.fleet_model.specs.Lists.{numbers_below}
use Rattle.scenario.specs.Scenarios.{legs_of}
use Rattle.scenario_gen.specs.Draws.{after_draws, drawn}
use Rattle.scenario_gen.specs.Generated.{leg}
use Rattle.scenario_gen.proofs.missions.add_mission.Given as goal

abbrev pub invariant-loop : goal.invariant-loop
invariant-loop l = record {
  same : l.missions ≡ set l.fn.missions l.robot.0 (legs_of l.missions l.robot.0);
  legs : legs_of l.missions l.robot.0 ≡ map (λ i. leg (l.grid.width * l.grid.height) (after_draws (2 * i) (drawn l.fn.draws.number))) (numbers_below l.counter);
  number : l.draws.number ≡ after_draws (2 * l.counter) (drawn l.fn.draws.number);
}
