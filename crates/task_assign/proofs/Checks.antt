-- What a check has found of the first rows.
use Rattle.std.proofs.Common.{◌≡◌, ◌≢◌, ℕ, ◌+◌, ◌<◌, ◌≤◌, ℤ, pos, ◌+ℤ◌, ◌≤ℤ◌, inl, inr, sym, subst, arith}
use Rattle.std.proofs.lemmas.Bool.{cases_eq}
use Rattle.task_assign.specs.Squares.{Square, cost_at}
use Rattle.task_assign.specs.Pairings.{IsPairing, AreNumbers, total_of}
use Rattle.task_assign.specs.Assignments.{Pairs, column_at, row_number_at, column_number_at, IsShown}
use Rattle.task_assign.proofs.NumberLemmas.{numbers_least}
use Rattle.task_assign.proofs.PairingLemmas.{AreApart}

-- the numbers show it for the first rows
pub record AreNumbersUpto (rows n : ℕ) (cost : ℕ → ℕ → ℕ) (p : ℕ → ℕ) (u v : ℕ → ℤ) : Type 0 where
  pub within : (i j : ℕ) → i < rows → j < n → (u i +ℤ v j) ≤ℤ pos (cost i j)
  pub met : (i : ℕ) → i < rows → u i +ℤ v (p i) ≡ pos (cost i (p i))

pub none_apart : (n : ℕ) (p : ℕ → ℕ) → AreApart 0 n p
none_apart n p = record { below = λ i l. absurd (omega arith); apart = λ i k l m e. absurd (omega arith) }

-- one more row whose column is its own
pub more_apart : (m n : ℕ) (p : ℕ → ℕ) → AreApart m n p → p m < n → ((k : ℕ) → k < m → p k ≢ p m) → AreApart (m + 1) n p
more_apart m n p a below other = record {
  below = λ i l. elim (cases_eq i m) [
    | inl same ↦ subst (λ k. p k < n) (sym same) below
    | inr off ↦ a.below i (omega arith)
  ];
  apart = λ i k l h e. elim (cases_eq i m) [
    | inl first ↦ elim (cases_eq k m) [
      | inl second ↦ omega arith
      | inr off ↦ absurd (other k (omega arith) (subst (λ x. p k ≡ p x) first (sym e)))
    ]
    | inr off ↦ elim (cases_eq k m) [
      | inl second ↦ absurd (other i (omega arith) (subst (λ x. p i ≡ p x) second e))
      | inr neither ↦ a.apart i k (omega arith) (omega arith) e
    ]
  ];
}

pub all_apart : (m n : ℕ) (p : ℕ → ℕ) → m ≡ n → AreApart m n p → IsPairing n p
all_apart m n p e a = record { below = λ i l. a.below i (omega arith); apart = λ i k l h. a.apart i k (omega arith) (omega arith) }

module _ (n : ℕ) (cost : ℕ → ℕ → ℕ) (p : ℕ → ℕ) (u v : ℕ → ℤ) where
  pub numbers_none : AreNumbersUpto 0 n cost p u v
  numbers_none = record { within = λ i j l m. absurd (omega arith); met = λ i l. absurd (omega arith) }

  pub numbers_more : (m : ℕ) → AreNumbersUpto m n cost p u v → ((j : ℕ) → j < n → (u m +ℤ v j) ≤ℤ pos (cost m j)) → u m +ℤ v (p m) ≡ pos (cost m (p m)) → AreNumbersUpto (m + 1) n cost p u v
  numbers_more m a within met = record {
    within = λ i j l k. elim (cases_eq i m) [
      | inl same ↦ subst (λ r. (u r +ℤ v j) ≤ℤ pos (cost r j)) (sym same) (within j k)
      | inr off ↦ a.within i j (omega arith) k
    ];
    met = λ i l. elim (cases_eq i m) [
      | inl same ↦ subst (λ r. u r +ℤ v (p r) ≡ pos (cost r (p r))) (sym same) met
      | inr off ↦ a.met i (omega arith)
    ];
  }

  pub numbers_all : (m : ℕ) → m ≡ n → AreNumbersUpto m n cost p u v → AreNumbers n cost p u v
  numbers_all m e a = record { within = λ i j l k. a.within i j (omega arith) k; met = λ i l. a.met i (omega arith) }

-- no permutation has a smaller total than what is shown
pub shown_least : (square : Square) (pairs : Pairs) → IsShown square pairs → (other : ℕ → ℕ) → IsPairing square.size other → pairs.total ≤ total_of square.size (cost_at square) other
shown_least square pairs s other a =
    let least = numbers_least square.size (cost_at square) (column_at pairs) (row_number_at pairs) (column_number_at pairs) s.pairing s.numbers other a in
    let sum = s.summed in
    omega arith
