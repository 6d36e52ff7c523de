-- Assignments as they are given, and the one that is sought.
use Rattle.std.specs.Prelude.{◌≡◌, ℕ, ◌<◌, ◌≤◌, ℤ, pos, negsuc, ◌≤ℤ◌, List, length, slice_index, slice_index_or}
use Rattle.task_assign.specs.Squares.{Square, cost_at}
use Rattle.task_assign.specs.Pairings.{IsPairing, total_of, IsLeastTotal, IsLeastList, AreNumbers, AreGreatest}

-- the column of each row, a number of each row and of each column, and a total
pub record Pairs : Type 0 where
  pub columns : List ℕ
  pub rows : List ℤ
  pub column_numbers : List ℤ
  pub total : ℕ

-- the column of a row
abbrev pub column_at : Pairs → ℕ → ℕ
column_at pairs row = slice_index pairs.columns row

-- the number of a row
abbrev pub row_number_at : Pairs → ℕ → ℤ
row_number_at pairs row = slice_index_or pairs.rows row (pos 0)

-- the number of a column
abbrev pub column_number_at : Pairs → ℕ → ℤ
column_number_at pairs column = slice_index_or pairs.column_numbers column (pos 0)

-- between -10^15 and 10^15
pub record IsModest (number : ℤ) : Type 0 where
  pub low : negsuc 999999999999999 ≤ℤ number
  pub high : number ≤ℤ pos 1000000000000000

-- lists of one length, and numbers that aren't too great
pub record AreGiven (columns : List ℕ) (rows column_numbers : List ℤ) : Type 0 where
  pub some : 1 ≤ length columns
  pub few : length columns ≤ 64
  pub as_many_rows : length rows ≡ length columns
  pub as_many_columns : length column_numbers ≡ length columns
  pub modest_rows : (i : ℕ) → i < length columns → IsModest (slice_index_or rows i (pos 0))
  pub modest_columns : (j : ℕ) → j < length columns → IsModest (slice_index_or column_numbers j (pos 0))

-- a permutation with its total, and numbers that show that the total is least
pub record IsShown (square : Square) (pairs : Pairs) : Type 0 where
  pub sized : length pairs.columns ≡ square.size
  pub pairing : IsPairing square.size (column_at pairs)
  pub numbers : AreNumbers square.size (cost_at square) (column_at pairs) (row_number_at pairs) (column_number_at pairs)
  pub summed : pairs.total ≡ total_of square.size (cost_at square) (column_at pairs)

-- the permutation of least total, of these the least as a list, with the greatest row numbers
pub record IsAssignment (square : Square) (pairs : Pairs) : Type 0 where
  pub shown : IsShown square pairs
  pub least : IsLeastTotal square.size (cost_at square) (column_at pairs)
  pub first : IsLeastList square.size (cost_at square) (column_at pairs)
  pub begins : row_number_at pairs 0 ≡ pos 0
  pub greatest : AreGreatest square.size (cost_at square) (column_at pairs) (row_number_at pairs)
