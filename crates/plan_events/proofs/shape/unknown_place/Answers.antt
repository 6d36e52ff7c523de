use Rattle.std.proofs.Common.{sym, ◌∙◌, arith}
use Rattle.site_map.specs.Claims.{site_of}
use Rattle.plan_events.proofs.Causes.{cell_count-site_of, no_cell, unknown_begin, unknown_end, unknown_found, unknown_more}
use Rattle.plan_events.proofs.shape.unknown_place.Goals as goal

pub loop-at-init : goal.loop-at-init
loop-at-init c = unknown_begin (site_of c.args.site.now) c.args.cells.now

pub loop-at-preserved : goal.loop-at-preserved
loop-at-preserved c =
    let e = cell_count-site_of c.args.site.now in
    c.loop-at.invariant ∙ unknown_more (site_of c.args.site.now) c.args.cells.now c.loop-at.at no_cell (omega arith) (omega arith)

pub returns-then-cell-count : goal.returns-then-cell-count
returns-then-cell-count c =
    let e = cell_count-site_of c.args.site.now in
    sym (c.loop-at.invariant ∙ unknown_found (site_of c.args.site.now) c.args.cells.now c.loop-at.at no_cell (omega arith) (omega arith))

pub returns : goal.returns
returns c = sym (c.loop-at.invariant ∙ unknown_end (site_of c.args.site.now) c.args.cells.now c.loop-at.at (omega arith))
