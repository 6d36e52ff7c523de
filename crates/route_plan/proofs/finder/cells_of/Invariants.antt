use Rattle.std.proofs.Common.{◌≡◌, ℕ, ◌<◌, List, ◌++◌, Some}
use Rattle.std.specs.Option.{unwrap_or}
use Rattle.fleet_base.specs.declared.numbers.CellNo.{CellNo}
use Rattle.site_map.specs.Claims.{site_of}
use Rattle.route_plan.specs.Labels.{label_at}
use Rattle.route_plan.specs.Tight.{IsDescent, IsDescentFrom}
use Rattle.route_plan.proofs.finder.cells_of.Given as goal

abbrev pub invariant-loop-next : goal.invariant-loop-next
invariant-loop-next l = record {
  known : l.at.0 < l.site.cells;
  labelled : (e : ℕ) × (label_at l.labels l.at ≡ Some e);
  goes_on : (rest : List CellNo) → IsDescent (site_of l.site) (label_at l.labels) l.at rest → IsDescentFrom (site_of l.site) (label_at l.labels) l.fn.from (l.cells.items ++ rest);
}

abbrev pub decreases-loop-next : goal.decreases-loop-next
decreases-loop-next l = unwrap_or (label_at l.labels l.at) 0
