-- A square in which each cost is 0.
use Rattle.std.proofs.Common.{◌≡◌, ℕ, ◌≤◌, ◌+◌, ◌*◌, inl, inr, List, replicate, get_or, length, arith}
use Rattle.std.proofs.lemmas.Bool.{cases_lt}
use Rattle.std.proofs.lemmas.List.{get_or-replicate, get_or_past, length-replicate}
use Rattle.task_assign.specs.Squares.{IsSquare}

-- each place of a list of zeros has a zero, and so has each place past its end
pub zero_at : (n i : ℕ) → get_or {A = ℕ} (replicate n 0) i 0 ≡ 0
zero_at n i =
    elim (cases_lt i n) [
      | inl below ↦ get_or-replicate n i 0 0 below
      | inr past ↦ let zeros : List ℕ = replicate n 0 in get_or_past zeros i 0 (omega (arith, length-replicate {A = ℕ} n 0))
    ]

pub zeros_square : (size : ℕ) (costs : List ℕ) → 1 ≤ size → size ≤ 64 → length costs ≡ 4096 → ((i : ℕ) → get_or costs i 0 ≡ 0) → IsSquare (record { size = size; costs = costs })
zeros_square size costs some few long zero = record {
  some = some;
  few = few;
  long = long;
  bounded = λ i j. omega (arith, zero (64 * i + j));
}
