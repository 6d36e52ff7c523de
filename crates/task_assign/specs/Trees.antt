-- Rows that are reached over columns that they meet.
use Rattle.std.specs.Prelude.{◌≡◌, ℕ, ◌<◌, ◌≤◌, Bool, true, false, ◌⊎◌, length, slice_index, slice_index_or}
use Rattle.task_assign.specs.declared.tree.Tree.{Tree}
use Rattle.task_assign.specs.declared.tree.End.{End}

-- the row at a place
abbrev pub row_in : Tree → ℕ → ℕ
row_in tree place = slice_index tree.rows place

-- the place from which the row at a place was reached
abbrev pub from_in : Tree → ℕ → ℕ
from_in tree place = slice_index tree.from place

-- the row was reached
abbrev pub is_reached : Tree → ℕ → Bool
is_reached tree row = slice_index_or tree.reached row false

-- different rows, each reached from one before it, and all but the first behind the last row where a way may end
pub record IsTree (tree : Tree) : Type 0 where
  pub long_rows : length tree.rows ≡ 64
  pub long_from : length tree.from ≡ 64
  pub long_reached : length tree.reached ≡ 64
  pub few : tree.size ≤ 64
  pub last_known : tree.last < tree.size
  pub some : 1 ≤ tree.count
  pub known : (q : ℕ) → q < tree.count → row_in tree q < tree.size
  pub apart : (q r : ℕ) → q < tree.count → r < tree.count → row_in tree q ≡ row_in tree r → q ≡ r
  pub behind : (q : ℕ) → 0 < q → q < tree.count → tree.last < row_in tree q
  pub before : (q : ℕ) → 0 < q → q < tree.count → from_in tree q < q
  pub marked : (q : ℕ) → q < tree.count → is_reached tree (row_in tree q) ≡ true
  pub listed : (b : ℕ) → b < tree.size → is_reached tree b ≡ true → (q : ℕ) × (q < tree.count) × (row_in tree q ≡ b)

-- each row but the first has a column that the one meets from which it was reached
abbrev pub AreLinked : (ℕ → ℕ → Bool) → (ℕ → ℕ) → Tree → Type 0
AreLinked tight column tree = (q : ℕ) → 0 < q → q < tree.count → tight (row_in tree (from_in tree q)) (column (row_in tree q)) ≡ true

-- nothing is lost
pub record IsGrown (before after : Tree) : Type 0 where
  pub first_kept : after.first ≡ before.first
  pub last_kept : after.last ≡ before.last
  pub size_kept : after.size ≡ before.size
  pub longer : before.count ≤ after.count
  pub rows_kept : (q : ℕ) → q < before.count → row_in after q ≡ row_in before q
  pub reached_kept : (b : ℕ) → is_reached before b ≡ true → is_reached after b ≡ true

-- of the rows from the first on whose columns this row meets, all were reached, and no way ends at one
abbrev pub IsExplored : (ℕ → ℕ → Bool) → (ℕ → ℕ) → Tree → ℕ → Type 0
IsExplored tight column tree row = (b : ℕ) → tree.first ≤ b → b < tree.size → tight row (column b) ≡ true → (tree.last < b) × (is_reached tree b ≡ true)

-- all rows that can be reached were, and no way ends
abbrev pub IsClosed : (ℕ → ℕ → Bool) → (ℕ → ℕ) → Tree → Type 0
IsClosed tight column tree = (a : ℕ) → a < tree.size → is_reached tree a ≡ true → IsExplored tight column tree a

-- a row that isn't raised together with its column: it wasn't reached, or isn't behind the last where a way may end
abbrev pub IsLeft : Tree → ℕ → Type 0
IsLeft tree b = (b ≤ tree.last) ⊎ (is_reached tree b ≡ false)

-- a way ends at the row, whose column the row at the place meets
pub record IsEnd (tight : ℕ → ℕ → Bool) (column : ℕ → ℕ) (tree : Tree) (end : End) : Type 0 where
  pub reached : end.place < tree.count
  pub from_first : tree.first ≤ end.row
  pub upto_last : end.row ≤ tree.last
  pub met : tight (row_in tree end.place) (column end.row) ≡ true

-- along the way back from its end, each row got the column that it meets
pub record IsTurned (tight : ℕ → ℕ → Bool) (tree : Tree) (row : ℕ) (before after : ℕ → ℕ) : Type 0 where
  pub root : tight (row_in tree 0) (after (row_in tree 0)) ≡ true
  pub others : (x : ℕ) → (x ≡ row → ⊥) → (after x ≡ before x) ⊎ (tight x (after x) ≡ true)
  pub given : (row ≡ row_in tree 0 → ⊥) → after row ≡ before (row_in tree 0)
  pub kept : (x : ℕ) → x ≤ tree.last → (x ≡ row → ⊥) → (x ≡ row_in tree 0 → ⊥) → after x ≡ before x
