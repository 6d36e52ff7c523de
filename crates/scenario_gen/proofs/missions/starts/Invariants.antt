use Rattle.std.proofs.Common.{◌≡◌, map}
use Rattle.fleet_model.specs.Lists.{numbers_below}
use Rattle.scenario_gen.specs.Generated.{start}
use Rattle.scenario_gen.proofs.missions.starts.Given as goal

abbrev pub invariant-loop-robot : goal.invariant-loop-robot
invariant-loop-robot l = l.cells.items ≡ map (start l.grid.width) (numbers_below l.robot)
