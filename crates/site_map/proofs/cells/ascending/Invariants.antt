use Rattle.std.proofs.Common.{◌≡◌}
use Rattle.std.specs.List.{filter}
use Rattle.std.specs.FinSet as set
use Rattle.site_map.specs.Cells.{cells_below}
use Rattle.site_map.proofs.cells.ascending.Given as goal

abbrev pub invariant-loop-number : goal.invariant-loop-number
invariant-loop-number l = l.cells.items ≡ filter (λ c. set.contains l.members c.0) (cells_below l.number)
