use Rattle.call_laws.proofs.Orders.{all_accepted_so, first_accepted}
use Rattle.call_laws.proofs.laws.allowed_orders_are_accepted.Goals as goal

pub returns : goal.returns
returns c = record {
  whole = λ s order good allowed. all_accepted_so s order good.plan allowed;
  first = λ s e rest good allowed. first_accepted s e rest good.plan allowed;
}
