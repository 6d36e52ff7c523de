use Rattle.std.proofs.Common.{◌≡◌, ◌++◌, drop, map}
use Rattle.fleet_texts.specs.Words.{behind, cell_text}
use Rattle.fleet_texts.proofs.words.push_cells.Given as goal

abbrev pub invariant-loop-cell : goal.invariant-loop-cell
invariant-loop-cell l = l.text.items ++ behind (map (cell_text l.names) (drop l.cell-index l.cells)) ≡ l.initial.text.items ++ behind (map (cell_text l.names) l.cells)
