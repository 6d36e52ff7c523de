-- Sums over the numbers below a bound.
use Rattle.std.proofs.Common.{◌≡◌, ℕ, zero, suc, ◌+◌, ◌<◌, ◌≤◌, cond, eqb, inl, inr, refl, sym, ap, subst, arith}
use Rattle.std.proofs.lemmas.Bool.{cases_eq, eq-eqb, ne_eqb}
use Rattle.task_assign.specs.Sums.{sum_below}

-- sums are equal where their terms are
pub sum_same : (n : ℕ) (f g : ℕ → ℕ) → ((i : ℕ) → i < n → f i ≡ g i) → sum_below n f ≡ sum_below n g
sum_same zero f g h = refl
sum_same (suc n) f g h = omega (arith, sum_same n f g (λ i l. h i (omega arith)), h n (omega arith))

-- a sum of greater terms is greater
pub sum_le : (n : ℕ) (f g : ℕ → ℕ) → ((i : ℕ) → i < n → f i ≤ g i) → sum_below n f ≤ sum_below n g
sum_le zero f g h = omega arith
sum_le (suc n) f g h = omega (arith, sum_le n f g (λ i l. h i (omega arith)), h n (omega arith))

-- the sum of sums of terms
pub sum_plus : (n : ℕ) (f g : ℕ → ℕ) → sum_below n (λ i. f i + g i) ≡ sum_below n f + sum_below n g
sum_plus zero f g = refl
sum_plus (suc n) f g = omega (arith, sum_plus n f g)

-- a sum of nothing but zeros
pub sum_zero : (n : ℕ) (f : ℕ → ℕ) → ((i : ℕ) → i < n → f i ≡ 0) → sum_below n f ≡ 0
sum_zero zero f h = refl
sum_zero (suc n) f h = omega (arith, sum_zero n f (λ i l. h i (omega arith)), h n (omega arith))

-- a term is at most the sum
pub term_le : (n : ℕ) (f : ℕ → ℕ) (i : ℕ) → i < n → f i ≤ sum_below n f
term_le zero f i l = absurd (omega arith)
term_le (suc n) f i l =
    elim (cases_eq i n) [
      | inl same ↦ subst (λ k. f k ≤ sum_below n f + f n) (sym same) (omega arith)
      | inr other ↦ omega (arith, term_le n f i (omega arith))
    ]

-- where the terms are at most others, and their sum isn't less, they are the others
pub terms_same : (n : ℕ) (f g : ℕ → ℕ) → ((i : ℕ) → i < n → f i ≤ g i) → sum_below n g ≤ sum_below n f → (i : ℕ) → i < n → f i ≡ g i
terms_same zero f g h e i l = absurd (omega arith)
terms_same (suc n) f g h e i l =
    let below : (k : ℕ) → k < n → f k ≤ g k = λ k m. h k (omega arith) in
    let last : f n ≤ g n = h n (omega arith) in
    let sums : sum_below n f ≤ sum_below n g = sum_le n f g below in
    elim (cases_eq i n) [
      | inl same ↦ subst (λ k. f k ≡ g k) (sym same) (omega arith)
      | inr other ↦ terms_same n f g below (omega arith) i (omega arith)
    ]

-- a sum with one term changed
pub sum_changed : (n k x : ℕ) (f : ℕ → ℕ) → k < n → sum_below n (λ i. cond (eqb i k) x (f i)) + f k ≡ sum_below n f + x
sum_changed zero k x f l = absurd (omega arith)
sum_changed (suc n) k x f l =
    elim (cases_eq n k) [
      | inl same ↦
          let others : sum_below n (λ i. cond (eqb i k) x (f i)) ≡ sum_below n f = sum_same n (λ i. cond (eqb i k) x (f i)) f (λ i m. let apart : i ≡ k → ⊥ = omega arith in ap (λ b. cond b x (f i)) (ne_eqb i k apart)) in
          let changed : cond (eqb n k) x (f n) ≡ x = ap (λ b. cond b x (f n)) (eq-eqb n k same) in
          let old : f k ≡ f n = ap f (sym same) in
          omega arith
      | inr other ↦
          let kept : cond (eqb n k) x (f n) ≡ f n = ap (λ b. cond b x (f n)) (ne_eqb n k other) in
          let before : sum_below n (λ i. cond (eqb i k) x (f i)) + f k ≡ sum_below n f + x = sum_changed n k x f (omega arith) in
          omega arith
    ]
