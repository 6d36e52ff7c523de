use Rattle.std.proofs.Common.{◌-◌, length}
use Rattle.fleet_base.specs.declared.limits.TheConstants.{MAX_COUNT}
use Rattle.fleet_outcomes.specs.Fleets.{HasMissions}
use Rattle.fleet_sim.specs.Drives.{AreCounts, HasDriven}
use Rattle.fleet_sim.proofs.drive.drive.Given as goal

abbrev pub invariant-serial : goal.invariant-serial
invariant-serial l = record {
  driven : HasDriven l.missions l.fn.fleet l.fleet;
  missions : HasMissions l.fleet l.missions;
  counts : AreCounts l.fleet l.missions l.counts.items;
}

abbrev pub decreases-serial : goal.decreases-serial
decreases-serial l = MAX_COUNT - length l.fleet.journal
