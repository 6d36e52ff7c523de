use Rattle.fleet_model.proofs.Merge.{allowed_still}
use Rattle.fleet_model.proofs.plan_laws.merge_allows.Goals as goal

pub returns : goal.returns
returns c = record { allowed = λ m r cells order good allowed. allowed_still m r cells order good allowed }
