use Rattle.std.proofs.Common.{◌≡◌, true, length}
use Rattle.std.specs.List.{list_all}
use Rattle.fleet_names.specs.Names.{is_name}
use Rattle.scenario_reader.specs.SiteLines.{has_taken, with_cell_names}
use Rattle.scenario_reader.proofs.named.add_cell_names.Given as goal

abbrev pub invariant-loop-word : goal.invariant-loop-word
invariant-loop-word l = record {
  good : list_all is_name l.words ≡ true;
  taken : has_taken l.names l.words ≡ has_taken l.initial.names l.initial.words;
  added : with_cell_names l.names l.words ≡ with_cell_names l.initial.names l.initial.words;
}

abbrev pub decreases-loop-word : goal.decreases-loop-word
decreases-loop-word l = length l.words
