use Rattle.std.proofs.Common.{◌≡◌, ◌*◌, ◌+◌, ◌∙◌, ap, suc, arith}
use Rattle.scenario_gen.specs.Grids.{after_link, before_cell}
use Rattle.scenario_gen.proofs.Filling.{cell_built, cell_next}
use Rattle.scenario_gen.proofs.sites.add_links.Goals as goal

pub loop-cell-preserved : goal.loop-cell-preserved
loop-cell-preserved c =
    let width = c.args.grid.width in
    let height = c.args.grid.height in
    let x = c.args.draws.now.number in
    let number = c.loop-cell.draws.number in
    let next = c.add_link.new.draws.number in
    record {
      built = cell_built c.args.builder.now c.loop-cell.builder c.add_link.new.builder c.add_link-in-loop-cell.new.builder width height x (width * height) c.loop-cell.cell number next c.across.result c.along.result
          (omega arith) c.loop-cell.invariant.built c.loop-cell.invariant.number c.across.ensures c.in_ok-add_link.ensures.built c.in_ok-add_link.ensures.number c.along.ensures c.in_ok-add_link-2.ensures.built;
      number = cell_next width height x c.loop-cell.cell number next c.add_link-in-loop-cell.new.draws.number c.across.result c.along.result c.loop-cell.invariant.number c.across.ensures c.in_ok-add_link.ensures.number c.along.ensures c.in_ok-add_link-2.ensures.number;
    }
