-- Lists of cells, and of the links of a cell.
use Rattle.std.specs.Prelude.{ℕ, ◌+◌, ◌≤◌, Bool, false, ◌||◌, nat_lt, if◌then◌else◌, List, [], ◌∷◌, map}
use Rattle.std.specs.List.{filter, list_all}
use Rattle.fleet_base.specs.declared.numbers.CellNo.{CellNo}
use Rattle.fleet_base.specs.declared.numbers.Link.{Link}
use Rattle.fleet_model.specs.Lists.{has_cell, numbers_below}

-- some cell stands twice
abbrev pub has_repeat : List CellNo → Bool
has_repeat [] = false
has_repeat (c ∷ cs) = has_cell cs c || has_repeat cs

-- each is one of the first n cells
abbrev pub are_known : ℕ → List CellNo → Bool
are_known n cells = list_all (λ c. nat_lt c.0 n) cells

-- the first n cells, ascending
abbrev pub cells_below : ℕ → List CellNo
cells_below n = map (λ k. record { 0 = k }) (numbers_below n)

-- those of the first n cells that are among these, ascending
abbrev pub in_order : ℕ → List CellNo → List CellNo
in_order n cells = filter (λ c. has_cell cells c) (cells_below n)

-- the numbers of the cells rise, from low on
abbrev pub CellsRise : ℕ → List CellNo → Type 0
CellsRise low [] = Unit {0}
CellsRise low (c ∷ cs) = (low ≤ c.0) × CellsRise (c.0 + 1) cs

-- the cells that the links lead to rise, from low on
abbrev pub LinksRise : ℕ → List Link → Type 0
LinksRise low [] = Unit {0}
LinksRise low (l ∷ ls) = (low ≤ l.to.0) × LinksRise (l.to.0 + 1) ls

-- the links with one more in its place by the cell that it leads to
abbrev pub with_one_more : List Link → Link → List Link
with_one_more [] link = link ∷ []
with_one_more (l ∷ ls) link = if nat_lt l.to.0 link.to.0 then l ∷ with_one_more ls link else link ∷ l ∷ ls
