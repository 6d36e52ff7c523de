use Rattle.fleet_model.proofs.LeastRoutes.{least_route_least, least_route_none, one_least_route, least_route_found}
use Rattle.fleet_model.proofs.route_laws.least_route_is_least.Goals as goal

pub returns : goal.returns
returns c = record {
  found = λ site goal avoid from route is_site h. least_route_least site goal avoid from is_site route h;
  none = λ site goal avoid from is_site h other begins walk leads. least_route_none site goal avoid from is_site h other begins walk leads;
  one = λ site goal avoid from v w h g. one_least_route site goal avoid from v w h g;
  met = λ site goal avoid from route is_site h. least_route_found site goal avoid from is_site route h;
}
