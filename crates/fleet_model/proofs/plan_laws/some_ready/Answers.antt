use Rattle.fleet_model.proofs.Good.{ready_event}
use Rattle.fleet_model.proofs.plan_laws.some_ready.Goals as goal

pub returns : goal.returns
returns c = record { ready = λ m e good planned undone. ready_event m good e planned undone }
