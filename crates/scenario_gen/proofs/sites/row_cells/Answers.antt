use Rattle.std.proofs.Common.{◌+◌, ◌*◌, ◌++◌, ◌∷◌, [], ◌∙◌, refl, sym, ap}
use Rattle.std.proofs.lemmas.List.FromFn.{map-range_with_len_more}
use Rattle.scenario_gen.specs.Grids.{cell}
use Rattle.scenario_gen.proofs.sites.row_cells.Goals as goal

pub loop-column-preserved : goal.loop-column-preserved
loop-column-preserved c =
    let first = c.args.row * c.args.grid.width in
    let column = c.loop-column.column in
    c.in_ok-extend_from_slice.ensures.items ∙ (ap (λ xs. xs ++ cell (first + column) ∷ []) c.loop-column.invariant ∙ sym (map-range_with_len_more cell first column (first + column) refl))
