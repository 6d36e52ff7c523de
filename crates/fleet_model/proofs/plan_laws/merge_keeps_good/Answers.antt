use Rattle.fleet_model.proofs.GoodMerge.{merge_good}
use Rattle.fleet_model.proofs.plan_laws.merge_keeps_good.Goals as goal

pub returns : goal.returns
returns c = record { good = λ m r a cells is_site good robot walk none. merge_good m r a cells is_site good robot walk none }
