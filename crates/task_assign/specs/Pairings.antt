-- Pairings of rows with columns, and what they cost.
use Rattle.std.specs.Prelude.{◌≡◌, ℕ, ◌<◌, ◌≤◌, ℤ, pos, ◌+ℤ◌, ◌≤ℤ◌}
use Rattle.task_assign.specs.Sums.{sum_below}

-- a permutation of the numbers below n: each row has a column, and no two have the same
pub record IsPairing (n : ℕ) (column : ℕ → ℕ) : Type 0 where
  pub below : (i : ℕ) → i < n → column i < n
  pub apart : (i k : ℕ) → i < n → k < n → column i ≡ column k → i ≡ k

-- the sum of the costs of the pairs
abbrev pub total_of : ℕ → (ℕ → ℕ → ℕ) → (ℕ → ℕ) → ℕ
total_of n cost column = sum_below n (λ i. cost i (column i))

-- no permutation has a smaller total
abbrev pub IsLeastTotal : ℕ → (ℕ → ℕ → ℕ) → (ℕ → ℕ) → Type 0
IsLeastTotal n cost column = (other : ℕ → ℕ) → IsPairing n other → total_of n cost column ≤ total_of n cost other

-- as the list of its columns, no permutation of the same total comes before it
abbrev pub IsLeastList : ℕ → (ℕ → ℕ → ℕ) → (ℕ → ℕ) → Type 0
IsLeastList n cost column =
    (other : ℕ → ℕ) → IsPairing n other → total_of n cost other ≡ total_of n cost column →
    (i : ℕ) → i < n → ((k : ℕ) → k < i → column k ≡ other k) → column i ≤ other i

-- numbers for the rows and the columns: for each pair their sum is at most its cost, and just its cost for the chosen pairs
pub record AreNumbers (n : ℕ) (cost : ℕ → ℕ → ℕ) (column : ℕ → ℕ) (u v : ℕ → ℤ) : Type 0 where
  pub within : (i j : ℕ) → i < n → j < n → (u i +ℤ v j) ≤ℤ pos (cost i j)
  pub met : (i : ℕ) → i < n → u i +ℤ v (column i) ≡ pos (cost i (column i))

-- of all numbers of the rows that are 0 at the first row and for which there are numbers of the columns, these are the greatest
abbrev pub AreGreatest : ℕ → (ℕ → ℕ → ℕ) → (ℕ → ℕ) → (ℕ → ℤ) → Type 0
AreGreatest n cost column u =
    (other columns : ℕ → ℤ) → other 0 ≡ pos 0 → AreNumbers n cost column other columns →
    (i : ℕ) → i < n → other i ≤ℤ u i
