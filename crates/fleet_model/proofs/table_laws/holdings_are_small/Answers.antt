use Rattle.fleet_model.proofs.Holdings.{acquired_room, held_few, held_rise}
use Rattle.fleet_model.proofs.table_laws.holdings_are_small.Goals as goal

pub returns : goal.returns
returns c = record {
  ascending = λ m r. held_rise m r;
  small = λ m r is_site good. held_few m r is_site good;
  room = λ m e c is_site counts good ready kind. acquired_room m e c is_site counts good ready kind;
}
