use Rattle.fleet_model.proofs.StepCounts.{steps_long, steps_short, steps_few}
use Rattle.fleet_model.proofs.route_laws.routes_are_short.Goals as goal

pub returns : goal.returns
returns c = record {
  some = λ site route h. steps_long site route h;
  each = λ site route is_site. steps_short site is_site route;
  most = λ site route is_site h. steps_few site is_site route h;
}
