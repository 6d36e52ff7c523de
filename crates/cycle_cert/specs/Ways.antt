-- Ways along edges back to a number.
use Rattle.std.specs.Prelude.{◌≡◌, ℕ, ◌<◌, ◌≤◌, Bool, true, List, [], ◌∷◌, ◌↔◌, length, slice_index}
use Rattle.fleet_model.specs.Cycles.{leads}
use Rattle.bit_set.specs.Words.{is_in}

-- from v, just so many numbers lead to z
pub record Returns (edge : ℕ → ℕ → Bool) (z between v : ℕ) : Type 0 where
  pub over : List ℕ
  pub long : length over ≡ between
  pub closed : leads edge z (v ∷ over) ≡ true

-- these numbers lead from v to z, and each is the least from which just so many lead to z
abbrev pub IsLeastWay : (ℕ → ℕ → Bool) → ℕ → ℕ → List ℕ → Type 0
IsLeastWay edge z v [] = edge v z ≡ true
IsLeastWay edge z v (q ∷ qs) = (edge v q ≡ true) × ((m : ℕ) → edge v m ≡ true → Returns edge z (length qs) m → q ≤ m) × IsLeastWay edge z q qs

-- the first levels are the sets of numbers from which just so many lead to z as there are levels below
abbrev pub AreLevels : (ℕ → ℕ → Bool) → ℕ → List ℕ → ℕ → Type 0
AreLevels edge z levels count = (k v : ℕ) → k < count → v < 64 → (is_in (slice_index levels k) v ≡ true) ↔ Returns edge z k v

-- z, and behind it a least way from z to z over just so many numbers
pub record IsWayShown (edge : ℕ → ℕ → Bool) (z between : ℕ) (numbers : List ℕ) : Type 0 where
  pub way : List ℕ
  pub shown : numbers ≡ z ∷ way
  pub long : length way ≡ between
  pub least : IsLeastWay edge z z way
