-- What an assignment is made of.
use Rattle.std.specs.Prelude.{◌≡◌, ℕ, ◌<◌, ℤ, pos, negsuc, ◌+ℤ◌, ◌≤ℤ◌, List, slice_index, slice_index_or}
use Rattle.task_assign.specs.Squares.{Square, cost_at}

-- the number of the place
abbrev pub int_at : List ℤ → ℕ → ℤ
int_at numbers place = slice_index_or numbers place (pos 0)

-- the numbers of the rows are the values, less the first
abbrev pub AreLessFirst : ℕ → List ℕ → List ℤ → Type 0
AreLessFirst n values rows = (i : ℕ) → i < n → int_at rows i +ℤ pos (slice_index values 0) ≡ pos (slice_index values i)

-- the numbers of each row and its column are together the cost
abbrev pub AreLeftOver : Square → (ℕ → ℕ) → List ℤ → List ℤ → ℕ → Type 0
AreLeftOver square column rows columns n = (i : ℕ) → i < n → int_at rows i +ℤ int_at columns (column i) ≡ pos (cost_at square i (column i))

-- between -2,000,000,000,000 and 2,000,000,000,000
pub record IsSmallInt (number : ℤ) : Type 0 where
  pub low : negsuc 1999999999999 ≤ℤ number
  pub high : number ≤ℤ pos 2000000000000
