use Rattle.std.proofs.Common.{List, ◌++◌, ◌∷◌, ap, ◌∙◌}
use Rattle.std.specs.Prelude.{codes}
use Rattle.fleet_base.specs.declared.numbers.CellNo.{CellNo}
use Rattle.fleet_names.specs.declared.thing.Thing.TheVariants as things
use Rattle.scenario.specs.Canonical.{area_text, cell_names, line, name}
use Rattle.scenario.proofs.Prints.{then_more}
use Rattle.scenario.proofs.print.push_areas.Goals as goal

pub loop-area-preserved : goal.loop-area-preserved
loop-area-preserved c =
    then_more c.args.text.now.items c.loop-area.text.items c.push_set.new.text.items (area_text c.args.names.now c.args.site.now) c.loop-area.area c.loop-area.invariant
    (c.in_ok-push_set.ensures ∙ ap (λ (cells : List CellNo). c.loop-area.text.items ++ line (codes "area") (name c.args.names.now (things.Area c.loop-area.area) ∷ cell_names c.args.names.now cells)) c.area_cells.ensures.cells)
