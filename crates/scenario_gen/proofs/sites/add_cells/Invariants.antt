use Rattle.std.proofs.Common.{◌≡◌, [], replicate}
use Rattle.site_map.specs.Built.{no_site}
use Rattle.scenario_gen.proofs.sites.add_cells.Given as goal

abbrev pub invariant-loop : goal.invariant-loop
invariant-loop l = l.builder ≡ record no_site { cells = l.counter; links = replicate l.counter [] }
