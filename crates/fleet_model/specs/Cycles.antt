-- Cycles of a relation between numbers, and the least of them.
use Rattle.std.specs.Prelude.{◌≡◌, ℕ, zero, suc, Bool, true, false, ◌&&◌, ◌||◌, ◌==◌, nat_lt, not, List, [], ◌∷◌, map, length}
use Rattle.std.specs.List.{filter, list_any, flat_map}
use Rattle.std.specs.Option.{unwrap_or}
use Rattle.fleet_model.specs.Lists.{least, numbers_below}

-- each leads to the next, and the last to z
abbrev pub leads : (ℕ → ℕ → Bool) → ℕ → List ℕ → Bool
leads edge z [] = false
leads edge z (r ∷ []) = edge r z
leads edge z (r ∷ q ∷ qs) = edge r q && leads edge z (q ∷ qs)

-- no number comes twice
abbrev pub are_distinct : List ℕ → Bool
are_distinct [] = true
are_distinct (r ∷ rs) = not (list_any (λ q. q == r) rs) && are_distinct rs

-- the list begins with r, its numbers differ, each leads to the next and the last to r
abbrev pub is_cycle : (ℕ → ℕ → Bool) → ℕ → List ℕ → Bool
is_cycle edge r [] = false
is_cycle edge r (q ∷ qs) = (q == r) && (are_distinct (q ∷ qs) && leads edge r (q ∷ qs))

-- in the order of a dictionary, xs comes before ys or is ys
abbrev pub is_upto : List ℕ → List ℕ → Bool
is_upto [] ys = true
is_upto (x ∷ xs) [] = false
is_upto (x ∷ xs) (y ∷ ys) = nat_lt x y || ((x == y) && is_upto xs ys)

-- xs is shorter than ys, or as long and not behind it
abbrev pub precedes : List ℕ → List ℕ → Bool
precedes xs ys = nat_lt (length xs) (length ys) || ((length xs == length ys) && is_upto xs ys)

-- the cycle through r: the shortest, and of these the least; the empty list where there is none
abbrev pub IsLeastCycle : (ℕ → ℕ → Bool) → ℕ → List ℕ → Type 0
IsLeastCycle edge r [] = (ys : List ℕ) → is_cycle edge r ys ≡ false
IsLeastCycle edge r (x ∷ xs) = (is_cycle edge r (x ∷ xs) ≡ true) × ((ys : List ℕ) → is_cycle edge r ys ≡ true → precedes (x ∷ xs) ys ≡ true)

-- all lists of at most k numbers below n
abbrev pub lists_within : ℕ → ℕ → List (List ℕ)
lists_within n zero = [] ∷ []
lists_within n (suc k) = [] ∷ flat_map (λ xs. map (λ x. x ∷ xs) (numbers_below n)) (lists_within n k)

-- the cycle through r of a relation between numbers below n
abbrev pub cycle_through : ℕ → (ℕ → ℕ → Bool) → ℕ → List ℕ
cycle_through n edge r = unwrap_or (least precedes (filter (is_cycle edge r) (lists_within n n))) []
