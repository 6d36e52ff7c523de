-- Squares of costs.
use Rattle.std.specs.Prelude.{◌≡◌, ℕ, ◌+◌, ◌*◌, ◌≤◌, List, length, slice_index}

-- as many rows as columns, and their costs in order, 64 places for each row
pub record Square : Type 0 where
  pub size : ℕ
  pub costs : List ℕ

-- the cost of a row and a column
abbrev pub cost_at : Square → ℕ → ℕ → ℕ
cost_at square row column = slice_index square.costs (64 * row + column)

-- a square of 1 to 64 rows, with costs of at most 1,000,000,000,000
pub record IsSquare (square : Square) : Type 0 where
  pub some : 1 ≤ square.size
  pub few : square.size ≤ 64
  pub long : length square.costs ≡ 4096
  pub bounded : (row column : ℕ) → cost_at square row column ≤ 1000000000000
