use Rattle.std.proofs.Common.{length}
use Rattle.std.proofs.lemmas.List.FromFn.{length-map-range_with_len}
use Rattle.fleet_model.specs.Plans.{cell_of, end_of}
use Rattle.fleet_model.specs.Tables.{held_by}
use Rattle.fleet_model.proofs.Tables.{table_get}
use Rattle.fleet_model.proofs.table_laws.tables_are_by_robot.Goals as goal

pub returns : goal.returns
returns c = record {
  ends = λ m r h. table_get (end_of m) (length m.starts) r h;
  places = λ m r h. table_get (cell_of m) (length m.starts) r h;
  holdings = λ m r h. table_get (held_by m) (length m.starts) r h;
  end_count = λ m. length-map-range_with_len (end_of m) 0 (length m.starts);
  place_count = λ m. length-map-range_with_len (cell_of m) 0 (length m.starts);
  holding_count = λ m. length-map-range_with_len (held_by m) 0 (length m.starts);
}
