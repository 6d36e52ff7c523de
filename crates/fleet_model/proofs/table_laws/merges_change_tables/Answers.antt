use Rattle.std.proofs.Common.{refl}
use Rattle.fleet_model.proofs.Tables.{ends-merged, unfinished-merged}
use Rattle.fleet_model.proofs.table_laws.merges_change_tables.Goals as goal

pub returns : goal.returns
returns c = record {
  unfinished = λ m r route good. unfinished-merged m r route good;
  ends = λ m r a bs long. ends-merged m r a bs long;
  places = λ m r route. refl;
  holdings = λ m r route. refl;
  starts = λ m r route. refl;
  site = λ m r route. refl;
}
