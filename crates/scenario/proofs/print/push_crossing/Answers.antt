use Rattle.std.proofs.Common.{ℕ, ◌<◌, ◌==◌, List, ◌++◌, ◌∷◌, sym, ap, subst, ◌∙◌, arith}
use Rattle.std.specs.Prelude.{All, codes}
use Rattle.std.proofs.lemmas.List.Elements.{All-filter, All-weaker}
use Rattle.fleet_base.specs.declared.numbers.CellNo.{CellNo}
use Rattle.fleet_names.specs.declared.thing.Thing.TheVariants as things
use Rattle.fleet_names.specs.Names.{count_of}
use Rattle.fleet_names.specs.Things.{is_cell}
use Rattle.site_map.specs.Built.{crossing_at}
use Rattle.site_map.specs.Crossings.{flow_of}
use Rattle.scenario.specs.Canonical.{cell_names, flow_text, line, name}
use Rattle.scenario.proofs.Prints.{then_more}
use Rattle.scenario.proofs.print.push_crossing.Goals as goal

pub push_set-requires-in-loop-flow-clause-cells : goal.push_set-requires-in-loop-flow-clause-cells
push_set-requires-in-loop-flow-clause-cells c =
    let few : ℕ = count_of is_cell c.args.names.now in
    let known : All (λ (d : CellNo). d.0 < c.args.site.now.cells) (crossing_at c.args.site.now c.args.crossing).cells = subst (λ (ds : List CellNo). All (λ (d : CellNo). d.0 < c.args.site.now.cells) ds) c.crossing_cells.ensures.cells c.crossing_cells.ensures.known in
    let named : All (λ (d : CellNo). d.0 < few) (crossing_at c.args.site.now c.args.crossing).cells = All-weaker (λ (d : CellNo). d.0 < c.args.site.now.cells) (λ (d : CellNo). d.0 < few) (λ d h. omega (arith, h, c.requires.cells)) _ known in
    subst (λ (ds : List CellNo). All (λ (d : CellNo). d.0 < few) ds) (sym (c.deref.ensures.value ∙ c.in_ok-cells.ensures))
    (All-filter (λ (d : CellNo). flow_of (crossing_at c.args.site.now c.args.crossing) d == c.loop-flow.flow) (λ (d : CellNo). d.0 < few) (crossing_at c.args.site.now c.args.crossing).cells named)

pub loop-flow-preserved : goal.loop-flow-preserved
loop-flow-preserved c =
    then_more c.push_set.new.text.items c.loop-flow.text.items c.push_set-in-loop-flow.new.text.items (flow_text c.args.names.now c.args.crossing (crossing_at c.args.site.now c.args.crossing)) c.loop-flow.flow c.loop-flow.invariant
    (c.in_ok-push_set-2.ensures ∙ ap (λ (cells : List CellNo). c.loop-flow.text.items ++ line (codes "flow") (name c.args.names.now (things.Crossing c.args.crossing) ∷ cell_names c.args.names.now cells)) (c.deref.ensures.value ∙ c.in_ok-cells.ensures))
