use Rattle.std.proofs.Common.{◌≡◌, take}
use Rattle.std.specs.Prelude.{All}
use Rattle.site_map.specs.Goals.{IsGoal}
use Rattle.fleet_assign.specs.Tasks.{tasks_of}
use Rattle.fleet_assign.proofs.tasks.tasks_of.Given as goal

abbrev pub invariant-loop-robot : goal.invariant-loop-robot
invariant-loop-robot l = record {
  are : l.tasks.items ≡ tasks_of (take l.robot l.missions);
  known : All (IsGoal l.scenario.site) l.tasks.items;
}
