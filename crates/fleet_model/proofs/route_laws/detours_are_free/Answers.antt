use Rattle.fleet_model.proofs.Detours.{detour_route, detour_free, detour_to_last}
use Rattle.fleet_model.proofs.route_laws.detours_are_free.Goals as goal

pub returns : goal.returns
returns c = record {
  legal = λ m r goal route is_site away h. detour_route m r goal route is_site away h;
  free = λ m r goal route c q is_site h b. detour_free m r goal is_site route h c q b;
  last = λ m r goal route is_site h. detour_to_last m r goal is_site route h;
}
