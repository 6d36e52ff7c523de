-- How far the rows that were reached can be raised, and what their raise leaves.
use Rattle.std.specs.Prelude.{◌≡◌, ℕ, ◌+◌, ◌<◌, ◌≤◌, true, false}
use Rattle.task_assign.specs.Squares.{Square, cost_at}
use Rattle.task_assign.specs.Bounds.{raised_in, lowered_in}
use Rattle.task_assign.specs.Trees.{is_reached, IsLeft}
use Rattle.task_assign.specs.declared.numbers.Numbers.{Numbers}
use Rattle.task_assign.specs.declared.tree.Tree.{Tree}

-- the row can be raised so far without passing a column that isn't lowered with it
abbrev pub IsRoom : Square → Numbers → (ℕ → ℕ) → Tree → ℕ → ℕ → Type 0
IsRoom square numbers column tree a by =
    (b : ℕ) → b < square.size → IsLeft tree b →
    raised_in numbers a + by ≤ cost_at square a (column b) + lowered_in numbers (column b)

-- neither the number of the row nor that of its column gets too great
pub record IsSmall (numbers : Numbers) (column : ℕ → ℕ) (tree : Tree) (by b : ℕ) : Type 0 where
  pub row : is_reached tree b ≡ true → raised_in numbers b + by ≤ 1000000000000
  pub column_behind : tree.last < b → is_reached tree b ≡ true → lowered_in numbers (column b) + by ≤ 1000000000000

-- the row is raised where it was reached, and its column is lowered where it is behind the last too
pub record IsRaised (column : ℕ → ℕ) (tree : Tree) (by : ℕ) (before after : Numbers) (b : ℕ) : Type 0 where
  pub row : is_reached tree b ≡ true → raised_in after b ≡ raised_in before b + by
  pub other : is_reached tree b ≡ false → raised_in after b ≡ raised_in before b
  pub column_behind : tree.last < b → is_reached tree b ≡ true → lowered_in after (column b) ≡ lowered_in before (column b) + by
  pub column_left : IsLeft tree b → lowered_in after (column b) ≡ lowered_in before (column b)
