use Rattle.fleet_model.proofs.Ends.{ends_apart}
use Rattle.fleet_model.proofs.plan_laws.ends_do_not_conflict.Goals as goal

pub returns : goal.returns
returns c = record { apart = λ m r q a b x y is_site good apart hr hq conflict hx hy. ends_apart m is_site good r q a b x y apart hr hq conflict hx hy }
