use Rattle.std.proofs.Common.{refl, arith}
use Rattle.fleet_model.proofs.Room.{pending_none, pending_other, pending_own}
use Rattle.fleet_model.proofs.table_laws.pending_routes_change.Goals as goal

pub returns : goal.returns
returns c = record {
  own_route = λ s fleet r route good robot. pending_own s r fleet route (let p = good.places in omega arith);
  none = λ s fleet r. pending_none s r fleet;
  other_route = λ s fleet r q route apart. pending_other s r fleet route q apart;
  report = λ s e q. refl;
}
