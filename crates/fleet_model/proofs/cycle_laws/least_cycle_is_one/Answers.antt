use Rattle.fleet_model.proofs.Cycles.{one_least}
use Rattle.fleet_model.proofs.cycle_laws.least_cycle_is_one.Goals as goal

pub returns : goal.returns
returns c = record { one = one_least }
