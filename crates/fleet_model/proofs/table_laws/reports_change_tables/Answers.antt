use Rattle.std.proofs.Common.{refl}
use Rattle.fleet_model.proofs.Holdings.{acquired_missing, holdings-acquired, holdings-moved, holdings-released, released_there}
use Rattle.fleet_model.proofs.Tables.{places-moved, places-other, unfinished-reported}
use Rattle.fleet_model.proofs.table_laws.reports_change_tables.Goals as goal

pub returns : goal.returns
returns c = record {
  unfinished = λ m e. unfinished-reported m e;
  ends = λ m e. refl;
  moved_place = λ m e a b kind. places-moved m e a b kind;
  moved_holding = λ m e a b kind. holdings-moved m e a b kind;
  other_place = λ m e c kind. places-other m e c kind;
  acquired = λ m e c is_site counts good ready kind. holdings-acquired m e c is_site counts good ready kind;
  missing = λ m e c is_site good ready kind has. acquired_missing m e c is_site good ready kind has;
  present = λ m e c is_site counts good ready kind. released_there m e c is_site counts good ready kind;
  released = λ m e c kind. holdings-released m e c kind;
}
