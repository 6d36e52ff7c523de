use Rattle.std.proofs.Common.{◌≡◌, ◌+◌, ◌*◌, ◌++◌, take}
use Rattle.std.specs.Prelude.{nat_lt, flat_map}
use Rattle.std.specs.List.{filter}
use Rattle.scenario_gen.specs.Grids.{crossings_in}
use Rattle.scenario_gen.proofs.sites.add_crossings.Given as goal

abbrev pub invariant-loop-row : goal.invariant-loop-row
invariant-loop-row l = l.builder ≡ record l.fn.builder { crossings = l.fn.builder.crossings ++ flat_map (crossings_in (l.grid.width * l.grid.height) l.grid.width) (filter (λ k. nat_lt (k + 1) l.grid.height) (take l.row-index l.row-items)) }
