use Rattle.fleet_model.proofs.Deferrals.{cycle_of_least}
use Rattle.fleet_model.proofs.cycle_laws.cycle_is_least.Goals as goal

pub returns : goal.returns
returns c = record { least = cycle_of_least }
