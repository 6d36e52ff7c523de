use Rattle.std.proofs.Common.{◌-◌, not, sym, ap, ◌∙◌, arith}
use Rattle.std.specs.Option.{is_some}
use Rattle.site_map.specs.Claims.{site_of}
use Rattle.plan_events.proofs.Causes.{known_at, no_cell, unlinked_begin, unlinked_end, unlinked_found, unlinked_more}
use Rattle.plan_events.proofs.shape.unlinked_place.Goals as goal

pub loop-at-init : goal.loop-at-init
loop-at-init c = unlinked_begin (site_of c.args.site.now) c.args.cells.now

pub loop-at-preserved : goal.loop-at-preserved
loop-at-preserved c =
    c.loop-at.invariant
    ∙ unlinked_more (site_of c.args.site.now) c.args.cells.now c.loop-at.at (omega arith) (omega arith) (sym (ap is_some c.cost.ensures) ∙ c.is_none.ensures ∙ ap not c.if-is_none.false)

pub cost-requires : goal.cost-requires
cost-requires c = known_at c.args.site.now c.args.cells.now c.requires.known (c.loop-at.at - 1) no_cell (omega arith)

pub returns-then-is_none : goal.returns-then-is_none
returns-then-is_none c =
    sym (c.loop-at.invariant ∙ unlinked_found (site_of c.args.site.now) c.args.cells.now c.loop-at.at (omega arith) (sym (ap is_some c.cost.ensures) ∙ c.is_none.ensures ∙ ap not c.if-is_none.true))

pub returns : goal.returns
returns c = sym (c.loop-at.invariant ∙ unlinked_end (site_of c.args.site.now) c.args.cells.now c.loop-at.at (omega arith))
