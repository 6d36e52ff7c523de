use Rattle.std.proofs.Common.{◌*◌, ◌∙◌, [], ◌∷◌}
use Rattle.scenario_gen.proofs.Crossed.{rows_more, rows_same}
use Rattle.scenario_gen.proofs.sites.add_crossings.Goals as goal
use Rattle.scenario_gen.proofs.sites.add_crossings.Goals.{then-row-grid+in_ok-add_crossings_in, else-row-grid}

pub loop-row-preserved : goal.loop-row-preserved
loop-row-preserved c =
    let old = c.args.builder.now in
    let b = c.loop-row.builder in
    let width = c.args.grid.width in
    let height = c.args.grid.height in
    let rows = 1 ∷ 5 ∷ 9 ∷ 13 ∷ [] in
    elim c.if-row-grid.branch [
      | then-row-grid+in_ok-add_crossings_in w ↦ w.builder-is ∙ rows_more old b w.add_crossings_in.new.builder (width * height) width height rows c.loop-row.row-index c.loop-row-test.true w.if-row-grid.true c.loop-row.invariant w.in_ok-add_crossings_in.ensures
      | else-row-grid w ↦ w.builder-is ∙ rows_same old b (width * height) width height rows c.loop-row.row-index c.loop-row-test.true w.if-row-grid.false c.loop-row.invariant
    ]
