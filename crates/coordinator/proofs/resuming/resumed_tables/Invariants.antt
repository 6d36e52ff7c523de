use Rattle.fleet_model.specs.States.{opening_state}
use Rattle.site_map.specs.Claims.{site_of}
use Rattle.coordinator.specs.Kept.{Shows}
use Rattle.coordinator.proofs.Resumed.{first_routes}
use Rattle.coordinator.proofs.resuming.resumed_tables.Given as goal

abbrev pub invariant-loop-robot : goal.invariant-loop-robot
invariant-loop-robot l = Shows l.tables (opening_state (site_of l.site) l.from.at.items (first_routes l.robot l.from.pending.items) l.from.next.0 0)
