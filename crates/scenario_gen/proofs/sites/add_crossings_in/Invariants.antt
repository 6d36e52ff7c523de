use Rattle.std.proofs.Common.{◌≡◌, ◌+◌, ◌*◌, ◌++◌, map, take}
use Rattle.std.specs.Prelude.{nat_lt}
use Rattle.std.specs.List.{filter}
use Rattle.scenario_gen.specs.Grids.{crossing}
use Rattle.scenario_gen.proofs.sites.add_crossings_in.Given as goal

abbrev pub invariant-loop-column : goal.invariant-loop-column
invariant-loop-column l = l.builder ≡ record l.fn.builder { crossings = l.fn.builder.crossings ++ map (λ x. crossing (l.grid.width * l.grid.height) l.grid.width x l.row) (filter (λ k. nat_lt (k + 1) l.grid.width) (take l.column-index l.column-items)) }
