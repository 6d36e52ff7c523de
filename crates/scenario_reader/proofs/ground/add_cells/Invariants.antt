use Rattle.std.proofs.Common.{◌≡◌, ◌+◌, ◌≤◌, length}
use Rattle.fleet_base.specs.declared.limits.TheConstants.{MAX_CELLS}
use Rattle.site_map.specs.Built.{link_total}
use Rattle.scenario_reader.specs.SiteLines.{with_cells}
use Rattle.scenario_reader.proofs.ground.add_cells.Given as goal

abbrev pub invariant-loop-builder : goal.invariant-loop-builder
invariant-loop-builder l = record {
  rows : length l.builder.links ≡ l.builder.cells;
  links : link_total l.builder.links ≡ link_total l.initial.builder.links;
  few : l.builder.cells ≤ MAX_CELLS;
  count : l.builder.cells + length l.words ≡ l.initial.builder.cells + length l.initial.words;
  added : with_cells l.builder l.words ≡ with_cells l.initial.builder l.initial.words;
}

abbrev pub decreases-loop-builder : goal.decreases-loop-builder
decreases-loop-builder l = length l.words
