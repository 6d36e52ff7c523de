use Rattle.fleet_model.proofs.Blockers.{blockers_In, In_blockers}
use Rattle.fleet_model.proofs.cycle_laws.blockers_are_listed.Goals as goal

pub returns : goal.returns
returns c = record { listed = λ m r route claim q. (blockers_In m r route claim q, In_blockers m r route claim q) }
