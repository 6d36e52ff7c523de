use Rattle.fleet_model.proofs.Tails.{tail_is, tail_longest}
use Rattle.fleet_model.proofs.Withdraw.{withdrawn_good, withdrawn_end}
use Rattle.fleet_model.proofs.plan_laws.withdrawal_keeps_good.Goals as goal

pub returns : goal.returns
returns c = record {
  removable = λ m r good. tail_is m r good;
  longest = λ m r tail good h. tail_longest m r good tail h;
  good = λ m r good. withdrawn_good m r good;
  ends = λ m r q good apart. withdrawn_end m r q good apart;
}
