use Rattle.std.proofs.Common.{length}
use Rattle.fleet_model.specs.Replays.{opening}
use Rattle.plan_events.proofs.Legal.{legal_order, order_legal, starts_within}
use Rattle.plan_events.proofs.laws.legal_orders_have_no_clash.Goals as goal

pub returns : goal.returns
returns c = λ site starts events known. (
  order_legal site (length starts) (opening site starts) events (starts_within site starts) known,
  legal_order site (length starts) (opening site starts) events (starts_within site starts) known,
)
