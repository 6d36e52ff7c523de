use Rattle.std.proofs.Common.{refl}
use Rattle.fleet_model.specs.Plans.{removable_tail}
use Rattle.fleet_model.proofs.Tables.{ends-withdrawn, own_before, own_others, tail_from, unfinished-cut, unfinished-withdrawn}
use Rattle.fleet_model.proofs.Tails.{tail_is}
use Rattle.fleet_model.proofs.table_laws.withdrawals_change_tables.Goals as goal

pub returns : goal.returns
returns c = record {
  unfinished = λ m r. unfinished-withdrawn m (removable_tail m r);
  own_events = λ m r good. own_before m r (removable_tail m r) good (tail_is m r good);
  other_events = λ m r q good apart. own_others m r (removable_tail m r) good (tail_is m r good) q apart;
  tail = λ m r t ts e good begins i. tail_from m r (removable_tail m r) good (tail_is m r good) t ts begins e i;
  left = λ m r t ts good begins. unfinished-cut m r (removable_tail m r) good (tail_is m r good) t ts begins;
  ends = λ m r good. ends-withdrawn m r good;
  places = λ m r. refl;
  holdings = λ m r. refl;
}
