use Rattle.fleet_model.proofs.Insert.{blocked_unsafe}
use Rattle.fleet_model.proofs.LeastMerge.{unblocked_safe}
use Rattle.fleet_model.proofs.plan_laws.deferral_is_exact.Goals as goal

pub returns : goal.returns
returns c = record {
  blocked = λ m r cells c q pairs is_site good b insertion safe. blocked_unsafe m r cells is_site good pairs insertion c q b safe;
  unblocked = λ m r a cells is_site good robot walk none. unblocked_safe m r cells is_site good a robot walk none;
}
