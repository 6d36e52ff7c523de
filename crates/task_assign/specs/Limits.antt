-- Numbers of the rows that are lowered until there are numbers of the columns for them.
use Rattle.std.specs.Prelude.{◌≡◌, ℕ, ◌+◌, ◌<◌, ◌≤◌, ℤ, pos, ◌+ℤ◌, ◌≤ℤ◌}
use Rattle.task_assign.specs.Squares.{Square, cost_at}
use Rattle.task_assign.specs.Pairings.{AreNumbers}
use Rattle.task_assign.specs.Bounds.{raised_in}
use Rattle.task_assign.specs.declared.numbers.Numbers.{Numbers}

-- the number of the row is as small as the other rows ask
abbrev pub IsStable : Square → (ℕ → ℕ) → (ℕ → ℕ) → ℕ → Type 0
IsStable square column value i =
    (k : ℕ) → k < square.size → value i + cost_at square k (column k) ≤ value k + cost_at square i (column k)

-- the number of the row is so much above each that is 0 at the first row and has numbers of the columns
abbrev pub IsLimit : Square → (ℕ → ℕ) → ℕ → ℕ → ℕ → Type 0
IsLimit square column base i value =
    (other columns : ℕ → ℤ) → other 0 ≡ pos 0 → AreNumbers square.size (cost_at square) column other columns → (other i +ℤ pos base) ≤ℤ pos value

-- the numbers are at least those that were raised, and at least each that has numbers of the columns
pub record AreLimits (square : Square) (numbers : Numbers) (column : ℕ → ℕ) (value : ℕ → ℕ) : Type 0 where
  pub begins : value 0 ≡ raised_in numbers 0
  pub above : (i : ℕ) → i < square.size → raised_in numbers i ≤ value i
  pub upto : (i : ℕ) → i < square.size → value i ≤ 2000000000000
  pub limit : (i : ℕ) → i < square.size → IsLimit square column (raised_in numbers 0) i (value i)
