use Rattle.fleet_model.proofs.LeastMerge.{least}
use Rattle.fleet_model.proofs.plan_laws.merge_is_least.Goals as goal

pub returns : goal.returns
returns c = record { allowed = λ m r cells pairs order is_site good insertion safe allowed. least m r cells is_site good pairs insertion safe order allowed }
