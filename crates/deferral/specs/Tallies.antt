-- For each claim the robots that need it, and those whose ends keep it.
use Rattle.std.specs.Prelude.{◌≡◌, ℕ, ◌<◌, ◌≤◌, Bool, ◌&&◌, ◌==◌, not, true, false, if◌then◌else◌, List, length, Option, Some, None, slice_index}
use Rattle.std.specs.List.{filter}
use Rattle.bit_set.specs.Words.{is_in}
use Rattle.fleet_model.specs.Lists.{numbers_below}
use Rattle.deferral.specs.Matrices.{count_at}

-- for each claim the set of the robots that need it and of those whose ends keep it, each as a word
pub record Marks : Type 0 where
  pub needed : List ℕ
  pub kept : List ℕ

-- robot r is in the set of claim c
abbrev pub is_marked : List ℕ → ℕ → ℕ → Bool
is_marked sets c r = is_in (slice_index sets c) r

-- how many claims robot r needs that the end of robot q keeps; none where it is one robot
abbrev pub mark_count : Marks → ℕ → ℕ → ℕ
mark_count m r q = if q == r then 0 else length (filter (λ c. is_marked m.needed c r && is_marked m.kept c q) (numbers_below (length m.needed)))

-- there are two sets for each claim, and each count between robots is that of the sets
pub record IsTallied (m : Marks) (counts : List ℕ) : Type 0 where
  pub few : length m.needed ≤ 1280
  pub both : length m.kept ≡ length m.needed
  pub counted : (r q : ℕ) → r < 64 → q < 64 → count_at counts r q ≡ mark_count m r q

-- of the claims there are, those robots that pass are in the claim's set or aren't; all others are as before
pub record IsRemarked (old new : List ℕ) (passes : ℕ → ℕ → Bool) (there : Bool) : Type 0 where
  pub long : length new ≡ length old
  pub each : (c r : ℕ) → c < length old → is_marked new c r ≡ (if passes c r then there else is_marked old c r)

-- the robot is the least other than r in the set of claim c; None where there is none
abbrev pub IsLeastOther : List ℕ → ℕ → ℕ → Option ℕ → Type 0
IsLeastOther sets c r None = (q : ℕ) → (not (q == r) && is_marked sets c q) ≡ false
IsLeastOther sets c r (Some by) = ((not (by == r) && is_marked sets c by) ≡ true) × ((q : ℕ) → (not (q == r) && is_marked sets c q) ≡ true → by ≤ q)
