use Rattle.fleet_model.proofs.Walks.{steps_stand}
use Rattle.fleet_model.proofs.plan_laws.walks_alone.Goals as goal

pub returns : goal.returns
returns c = record {
  legal = λ site s a cells is_site stands. (steps_stand site is_site s a cells stands).0;
  stands = λ site s a cells is_site stands. (steps_stand site is_site s a cells stands).1;
}
