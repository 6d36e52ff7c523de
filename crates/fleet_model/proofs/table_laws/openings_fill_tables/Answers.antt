use Rattle.std.proofs.Common.{refl, arith}
use Rattle.fleet_model.proofs.Holdings.{holdings-opening}
use Rattle.fleet_model.proofs.Tables.{ends-opening, places-opening}
use Rattle.fleet_model.proofs.table_laws.openings_fill_tables.Goals as goal

pub returns : goal.returns
returns c = record {
  unfinished = λ site starts pending next cap. refl;
  ends = λ site starts pending next cap. ends-opening site starts pending next cap;
  places = λ site starts pending next cap. places-opening site starts pending next cap;
  holdings = λ site starts pending next cap is_site counts. holdings-opening site starts pending next cap is_site counts;
  owed = λ site starts pending next cap. omega arith;
}
