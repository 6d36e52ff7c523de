use Rattle.std.proofs.Common.{◌≡◌, ◌+◌, ◌++◌, true, length}
use Rattle.fleet_names.specs.Names.{count_of}
use Rattle.fleet_names.specs.Things.{is_cell}
use Rattle.site_map.specs.Cells.{are_known}
use Rattle.scenario_reader.specs.SiteLines.{are_cells, cells_named}
use Rattle.scenario_reader.proofs.named.cells_named.Given as goal

abbrev pub invariant-loop-word : goal.invariant-loop-word
invariant-loop-word l = record {
  all : are_cells l.names l.words ≡ are_cells l.names l.initial.words;
  cells : l.cells.items ++ cells_named l.names l.words ≡ cells_named l.names l.initial.words;
  count : length l.cells.items + length l.words ≡ length l.initial.words;
  known : are_known (count_of is_cell l.names) l.cells.items ≡ true;
}

abbrev pub decreases-loop-word : goal.decreases-loop-word
decreases-loop-word l = length l.words
