-- Counts from robot to robot.
use Rattle.std.specs.Prelude.{◌≡◌, ℕ, Bool, nat_lt, if◌then◌else◌, List, length, slice_index}
use Rattle.std.specs.Ordering.{nat_cmp}
use Rattle.std.specs.FinSet as set
use Rattle.fleet_base.specs.EdgeSets.{edge_place, leads}

-- 1 where the test holds, else 0
abbrev pub one_if : Bool → ℕ
one_if test = if test then 1 else 0

-- the count from robot r to robot q
abbrev pub count_at : List ℕ → ℕ → ℕ → ℕ
count_at counts r q = if nat_lt q 64 then slice_index counts (edge_place r q) else 0

-- there are counts for 64 robots, and edges lead where they aren't 0
pub record IsMatrix (counts : List ℕ) (edges : set.FinSet nat_cmp) : Type 0 where
  pub full : length counts ≡ 4096
  pub leading : (r q : ℕ) → leads edges r q ≡ nat_lt 0 (count_at counts r q)
