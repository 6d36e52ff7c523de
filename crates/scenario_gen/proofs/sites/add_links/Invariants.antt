use Rattle.std.proofs.Common.{◌≡◌, ◌*◌, ◌-◌, ◌++◌, [], map, replicate}
use Rattle.fleet_model.specs.Lists.{numbers_below}
use Rattle.scenario_gen.specs.Grids.{before_cell, links_of}
use Rattle.scenario_gen.proofs.sites.add_links.Given as goal

abbrev pub invariant-loop-cell : goal.invariant-loop-cell
invariant-loop-cell l = record {
  built : l.builder ≡ record l.fn.builder {
    links = map (λ c. links_of l.grid.width l.grid.height c (before_cell l.grid.width l.grid.height l.fn.draws.number c)) (numbers_below l.cell)
        ++ replicate (l.grid.width * l.grid.height - l.cell) [];
  };
  number : l.draws.number ≡ before_cell l.grid.width l.grid.height l.fn.draws.number l.cell;
}
