use Rattle.std.proofs.Common.{◌≡◌, ◌++◌, ◌∷◌, drop}
use Rattle.std.specs.Prelude.{flat_map}
use Rattle.scenario.specs.Canonical.{cell_names}
use Rattle.scenario.proofs.lines.push_cells.Given as goal

abbrev pub invariant-loop-cell : goal.invariant-loop-cell
invariant-loop-cell l = l.text.items ++ flat_map (λ word. 32 ∷ word) (cell_names l.names (drop l.cell-index l.cells)) ≡ l.initial.text.items ++ flat_map (λ word. 32 ∷ word) (cell_names l.names l.cells)
