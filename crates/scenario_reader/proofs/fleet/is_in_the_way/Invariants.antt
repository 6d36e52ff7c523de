use Rattle.std.proofs.Common.{◌≡◌, drop}
use Rattle.std.specs.List.{list_any}
use Rattle.scenario.specs.Scenarios.{do_conflict}
use Rattle.scenario_reader.proofs.fleet.is_in_the_way.Given as goal

abbrev pub invariant-loop-cell : goal.invariant-loop-cell
invariant-loop-cell l = list_any (λ c. do_conflict l.site c l.start) (drop l.cell-index l.cells) ≡ list_any (λ c. do_conflict l.site c l.start) l.cells
