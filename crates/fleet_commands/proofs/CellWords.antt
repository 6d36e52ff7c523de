-- The cells that words name are as many as the words.
use Rattle.std.proofs.Common.{◌≡◌, ℕ, suc, List, [], ◌∷◌, length, Option, Some, None, refl, sym, ap, ◌∙◌}
use Rattle.std.specs.Prelude.{option_and_then}
use Rattle.std.specs.Option.{option_map}
use Rattle.fleet_base.specs.declared.numbers.CellNo.{CellNo}
use Rattle.fleet_names.specs.Names.{Named}
use Rattle.fleet_commands.specs.UsedNames.{cell_named, cells_named}

-- some cells are these
same_cells : (cs ds : List CellNo) → (let o : Option (List CellNo) = Some cs in o ≡ Some ds) → cs ≡ ds
same_cells cs ds e = cc

-- one cell and others are one more
one_more : (cell : Option CellNo) (others : Option (List CellNo)) (cells : List CellNo) (n : ℕ) → ((cs : List CellNo) → others ≡ Some cs → length cs ≡ n)
    → option_and_then (λ c. option_map (λ cs. c ∷ cs) others) cell ≡ Some cells → length cells ≡ suc n
one_more None others cells n rest e = absurd (cc)
one_more (Some c) None cells n rest e = absurd (cc)
one_more (Some c) (Some cs) cells n rest e = ap length (sym (same_cells (c ∷ cs) cells e)) ∙ ap suc (rest cs refl)

pub count_named : (names : Named) (words : List (List ℕ)) (cells : List CellNo) → cells_named names words ≡ Some cells → length cells ≡ length words
count_named names [] cells e = ap length (sym (same_cells [] cells e))
count_named names (word ∷ words) cells e = one_more (cell_named names word) (cells_named names words) cells (length words) (λ cs h. count_named names words cs h) e
