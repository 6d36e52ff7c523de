-- Numbers of rows and columns while they are worked on: those of the rows are raised from 0 on, and those of the columns lowered.
use Rattle.std.specs.Prelude.{◌≡◌, ℕ, ◌+◌, ◌<◌, ◌≤◌, Bool, true, ◌==◌, slice_index}
use Rattle.task_assign.specs.Squares.{Square, cost_at}
use Rattle.task_assign.specs.Pairings.{IsPairing}
use Rattle.task_assign.specs.declared.numbers.Numbers.{Numbers}
use Rattle.task_assign.specs.declared.pairing.Pairing.{Pairing}

-- the column of the row
abbrev pub column_in : Pairing → ℕ → ℕ
column_in pairing row = slice_index pairing.columns row

-- how far the number of the row was raised
abbrev pub raised_in : Numbers → ℕ → ℕ
raised_in numbers row = slice_index numbers.raised row

-- how far the number of the column was lowered
abbrev pub lowered_in : Numbers → ℕ → ℕ
lowered_in numbers column = slice_index numbers.lowered column

-- the numbers of the row and the column are together the cost
abbrev pub meets : Square → Numbers → ℕ → ℕ → Bool
meets square numbers row column = raised_in numbers row == cost_at square row column + lowered_in numbers column

-- each row meets its column
abbrev pub AllMeet : Square → Numbers → (ℕ → ℕ) → Type 0
AllMeet square numbers column = (i : ℕ) → i < square.size → meets square numbers i (column i) ≡ true

-- of the permutations that meet and begin with the same columns, none has a smaller column next
abbrev pub IsLeastAt : Square → Numbers → (ℕ → ℕ) → ℕ → Type 0
IsLeastAt square numbers column i =
    (other : ℕ → ℕ) → IsPairing square.size other → AllMeet square numbers other →
    ((k : ℕ) → k < i → column k ≡ other k) → column i ≤ other i

-- no cost is too great, and the numbers of each row and each column are together at most the cost
pub record AreSound (square : Square) (numbers : Numbers) : Type 0 where
  pub costs : (i j : ℕ) → cost_at square i j ≤ 1000000000000
  pub within : (i j : ℕ) → i < square.size → j < square.size → raised_in numbers i ≤ cost_at square i j + lowered_in numbers j
  pub bounded : (j : ℕ) → j < square.size → lowered_in numbers j ≤ 1000000000000

-- the rows from the first on meet their columns, and the columns of those before weren't lowered
pub record ArePlaced (square : Square) (numbers : Numbers) (column : ℕ → ℕ) (first : ℕ) : Type 0 where
  pub pairing : IsPairing square.size column
  pub met : (i : ℕ) → first ≤ i → i < square.size → meets square numbers i (column i) ≡ true
  pub free : (i : ℕ) → i < first → i < square.size → lowered_in numbers (column i) ≡ 0

-- the second pairing is the first with the columns of two rows exchanged
pub record AreExchanged (before after : ℕ → ℕ) (a b : ℕ) : Type 0 where
  pub at_first : after a ≡ before b
  pub at_second : after b ≡ before a
  pub others : (k : ℕ) → (k ≡ a → ⊥) → (k ≡ b → ⊥) → after k ≡ before k
