use Rattle.std.proofs.Common.{◌<◌, drop}
use Rattle.site_map.specs.Claims.{site_of}
use Rattle.route_plan.specs.Labels.{label_at}
use Rattle.route_plan.specs.Tight.{IsDescent}
use Rattle.route_plan.proofs.checker.descends.Given as goal

abbrev pub invariant-loop-cell : goal.invariant-loop-cell
invariant-loop-cell l = record {
  known : l.at.0 < l.site.cells;
  forth : IsDescent (site_of l.site) (label_at l.labels) l.at (drop l.cell-index l.cells) → IsDescent (site_of l.site) (label_at l.labels) l.fn.from l.cells;
  back : IsDescent (site_of l.site) (label_at l.labels) l.fn.from l.cells → IsDescent (site_of l.site) (label_at l.labels) l.at (drop l.cell-index l.cells);
}
