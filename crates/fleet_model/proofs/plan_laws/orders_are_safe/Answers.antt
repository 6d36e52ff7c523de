use Rattle.fleet_model.proofs.Good.{good_safe}
use Rattle.fleet_model.proofs.plan_laws.orders_are_safe.Goals as goal

pub returns : goal.returns
returns c = record { safe = λ m is_site good. good_safe m is_site good }
