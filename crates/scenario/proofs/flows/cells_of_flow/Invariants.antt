use Rattle.std.proofs.Common.{◌≡◌, ◌++◌, ◌==◌, drop}
use Rattle.std.specs.List.{filter}
use Rattle.site_map.specs.Built.{crossing_at}
use Rattle.site_map.specs.Crossings.{flow_of}
use Rattle.scenario.specs.Canonical.{cells_of_flow}
use Rattle.scenario.proofs.flows.cells_of_flow.Given as goal

abbrev pub invariant-loop-cell : goal.invariant-loop-cell
invariant-loop-cell l = l.cells.items ++ filter (λ c. flow_of (crossing_at l.site l.crossing) c == l.flow) (drop l.cell-index l.cell-items) ≡ cells_of_flow (crossing_at l.site l.crossing) l.flow
