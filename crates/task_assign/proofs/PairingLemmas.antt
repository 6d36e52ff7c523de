-- Permutations, and sums over them.
use Rattle.std.proofs.Common.{◌≡◌, ℕ, zero, suc, ◌+◌, ◌<◌, ◌≤◌, Bool, true, false, cond, eqb, ◌⊎◌, inl, inr, refl, sym, ap, ◌∙◌, arith}
use Rattle.std.proofs.lemmas.Bool.{cases_eq, eq-eqb, ne_eqb}
use Rattle.task_assign.specs.Sums.{sum_below}
use Rattle.task_assign.specs.Pairings.{IsPairing, total_of}
use Rattle.task_assign.proofs.SumLemmas.{sum_same, sum_le, sum_plus, sum_zero, term_le, terms_same, sum_changed}

-- p with another number at one place
abbrev pub instead : (ℕ → ℕ) → ℕ → ℕ → ℕ → ℕ
instead p k x i = cond (eqb i k) x (p i)

pub instead_at : (p : ℕ → ℕ) (k x i : ℕ) → i ≡ k → instead p k x i ≡ x
instead_at p k x i same = ap (λ b. cond b x (p i)) (eq-eqb i k same)

pub instead_off : (p : ℕ → ℕ) (k x i : ℕ) → (i ≡ k → ⊥) → instead p k x i ≡ p i
instead_off p k x i other = ap (λ b. cond b x (p i)) (ne_eqb i k other)

-- a place of the number, or none
pub find : (p : ℕ → ℕ) (n j : ℕ) → ((i : ℕ) × (i < n) × (p i ≡ j)) ⊎ ((i : ℕ) → i < n → p i ≡ j → ⊥)
find p zero j = inr (λ i l e. absurd (omega arith))
find p (suc n) j =
    elim (cases_eq (p n) j) [
      | inl here ↦ inl (n, omega arith, here)
      | inr other ↦ elim (find p n j) [
        | inl found ↦ let below : found.0 < n = found.1 in inl (found.0, omega arith, found.2)
        | inr none ↦ inr (λ i l e. elim (cases_eq i n) [ inl last ↦ other (ap p (sym last) ∙ e) | inr before ↦ none i (omega arith) e ])
      ]
    ]

-- m numbers below n, no two of them equal
pub record AreApart (m n : ℕ) (p : ℕ → ℕ) : Type 0 where
  pub below : (i : ℕ) → i < m → p i < n
  pub apart : (i k : ℕ) → i < m → k < m → p i ≡ p k → i ≡ k

-- without the place of the greatest number, where the last one goes
one_less : (m n k : ℕ) (p : ℕ → ℕ) → AreApart (suc m) (suc n) p → k < suc m → p k ≡ n → AreApart m n (instead p k (p m))
one_less m n k p a known greatest = record {
  below = λ i l. elim (cases_eq i k) [
    | inl same ↦
        let last : p m < suc n = a.below m (omega arith) in
        let less : p m ≡ n → ⊥ = λ e. let both : m ≡ k = a.apart m k (omega arith) known (e ∙ sym greatest) in omega arith in
        let at : instead p k (p m) i ≡ p m = instead_at p k (p m) i same in
        omega arith
    | inr other ↦
        let last : p i < suc n = a.below i (omega arith) in
        let less : p i ≡ n → ⊥ = λ e. let both : i ≡ k = a.apart i k (omega arith) known (e ∙ sym greatest) in omega arith in
        let off : instead p k (p m) i ≡ p i = instead_off p k (p m) i other in
        omega arith
  ];
  apart = λ i j l h e. elim (cases_eq i k) [
    | inl first ↦ elim (cases_eq j k) [
      | inl second ↦ first ∙ sym second
      | inr other ↦
          let both : m ≡ j = a.apart m j (omega arith) (omega arith) (sym (instead_at p k (p m) i first) ∙ e ∙ instead_off p k (p m) j other) in
          absurd (omega arith)
    ]
    | inr other ↦ elim (cases_eq j k) [
      | inl second ↦
          let both : i ≡ m = a.apart i m (omega arith) (omega arith) (sym (instead_off p k (p m) i other) ∙ e ∙ instead_at p k (p m) j second) in
          absurd (omega arith)
      | inr neither ↦ a.apart i j (omega arith) (omega arith) (sym (instead_off p k (p m) i other) ∙ e ∙ instead_off p k (p m) j neither)
    ]
  ];
}

-- there are at most n of them
pub apart_le : (m n : ℕ) (p : ℕ → ℕ) → AreApart m n p → m ≤ n
apart_le zero n p a = omega arith
apart_le (suc m) zero p a = let none : p 0 < 0 = a.below 0 (omega arith) in absurd (omega arith)
apart_le (suc m) (suc n) p a =
    elim (find p (suc m) n) [
      | inl found ↦ let fewer : m ≤ n = apart_le m n (instead p found.0 (p m)) (one_less m n found.0 p a found.1 found.2) in omega arith
      | inr none ↦
          let fewer : suc m ≤ n = apart_le (suc m) n p (record { below = λ i l. let k : p i < suc n = a.below i l in let no : p i ≡ n → ⊥ = none i l in omega arith; apart = a.apart }) in
          omega arith
    ]

pub are_apart : (n : ℕ) (p : ℕ → ℕ) → IsPairing n p → AreApart n n p
are_apart n p a = record { below = a.below; apart = a.apart }

is_pairing : (n : ℕ) (p : ℕ → ℕ) → AreApart n n p → IsPairing n p
is_pairing n p a = record { below = a.below; apart = a.apart }

-- a sum over a permutation is the sum over all
pub sum_paired : (n : ℕ) (p g : ℕ → ℕ) → IsPairing n p → sum_below n (λ i. g (p i)) ≡ sum_below n g
sum_paired zero p g a = refl
sum_paired (suc n) p g a =
    elim (find p (suc n) n) [
      | inl found ↦
          let k : ℕ = found.0 in
          let less = one_less n n k p (are_apart (suc n) p a) found.1 found.2 in
          let fewer : sum_below n (λ i. g (instead p k (p n) i)) ≡ sum_below n g = sum_paired n (instead p k (p n)) g (is_pairing n (instead p k (p n)) less) in
          let greatest : g (p k) ≡ g n = ap g found.2 in
          elim (cases_eq k n) [
            | inl last ↦
                let same : sum_below n (λ i. g (instead p k (p n) i)) ≡ sum_below n (λ i. g (p i)) = sum_same n (λ i. g (instead p k (p n) i)) (λ i. g (p i)) (λ i l. let other : i ≡ k → ⊥ = omega arith in ap g (instead_off p k (p n) i other)) in
                let end : g (p n) ≡ g n = ap (λ i. g (p i)) (sym last) ∙ greatest in
                omega arith
            | inr before ↦
                let changed : sum_below n (λ i. cond (eqb i k) (g (p n)) (g (p i))) + g (p k) ≡ sum_below n (λ i. g (p i)) + g (p n) = sum_changed n k (g (p n)) (λ i. g (p i)) (let l : k < suc n = found.1 in omega arith) in
                let same : sum_below n (λ i. g (instead p k (p n) i)) ≡ sum_below n (λ i. cond (eqb i k) (g (p n)) (g (p i))) = sum_same n (λ i. g (instead p k (p n) i)) (λ i. cond (eqb i k) (g (p n)) (g (p i))) (λ i l. moved g (eqb i k) (p n) (p i)) in
                omega arith
          ]
      | inr none ↦
          let fewer : suc n ≤ n = apart_le (suc n) n p (record { below = λ i l. let k : p i < suc n = a.below i l in let no : p i ≡ n → ⊥ = none i l in omega arith; apart = a.apart }) in
          absurd (omega arith)
    ]
  where
    moved : (h : ℕ → ℕ) (b : Bool) (x y : ℕ) → h (cond b x y) ≡ cond b (h x) (h y)
    moved h true x y = refl
    moved h false x y = refl

-- each column has a row
pub row_of : (n : ℕ) (p : ℕ → ℕ) → IsPairing n p → (j : ℕ) → j < n → (i : ℕ) × (i < n) × (p i ≡ j)
row_of n p a j l =
    elim (find p n j) [
      | inl found ↦ found
      | inr none ↦
          let paired : sum_below n (λ i. cond (eqb (p i) j) 1 0) ≡ sum_below n (λ i. cond (eqb i j) 1 0) = sum_paired n p (λ i. cond (eqb i j) 1 0) a in
          let zeros : sum_below n (λ i. cond (eqb (p i) j) 1 0) ≡ 0 = sum_zero n (λ i. cond (eqb (p i) j) 1 0) (λ i m. ap (λ b. cond b 1 0) (ne_eqb (p i) j (none i m))) in
          let one : cond (eqb j j) 1 0 ≤ sum_below n (λ i. cond (eqb i j) 1 0) = term_le n (λ i. cond (eqb i j) 1 0) j l in
          let itself : ◌≡◌ {A = ℕ} (cond (eqb j j) 1 0) 1 = ap (λ b. cond b 1 0) (eq-eqb j j refl) in
          absurd (omega arith)
    ]

-- numbers for the rows and for the columns: a row's is at most the cost and the column's together, and just that for the chosen pairs
pub record AreBounds (n : ℕ) (cost : ℕ → ℕ → ℕ) (p u v : ℕ → ℕ) : Type 0 where
  pub within : (i j : ℕ) → i < n → j < n → u i ≤ cost i j + v j
  pub met : (i : ℕ) → i < n → u i ≡ cost i (p i) + v (p i)

module _ (n : ℕ) (cost : ℕ → ℕ → ℕ) (p u v : ℕ → ℕ) (a : IsPairing n p) (b : AreBounds n cost p u v) where
  bound_met : sum_below n u ≡ total_of n cost p + sum_below n v
  bound_met =
      let terms : sum_below n u ≡ sum_below n (λ i. cost i (p i) + v (p i)) = sum_same n u (λ i. cost i (p i) + v (p i)) b.met in
      let parts : sum_below n (λ i. cost i (p i) + v (p i)) ≡ total_of n cost p + sum_below n (λ i. v (p i)) = sum_plus n (λ i. cost i (p i)) (λ i. v (p i)) in
      let paired : sum_below n (λ i. v (p i)) ≡ sum_below n v = sum_paired n p v a in
      omega arith

  bound_parts : (q : ℕ → ℕ) → IsPairing n q → sum_below n (λ i. cost i (q i) + v (q i)) ≡ total_of n cost q + sum_below n v
  bound_parts q aq =
      let parts : sum_below n (λ i. cost i (q i) + v (q i)) ≡ total_of n cost q + sum_below n (λ i. v (q i)) = sum_plus n (λ i. cost i (q i)) (λ i. v (q i)) in
      let paired : sum_below n (λ i. v (q i)) ≡ sum_below n v = sum_paired n q v aq in
      omega arith

  -- with such numbers, the total is least
  pub bounds_least : (q : ℕ → ℕ) → IsPairing n q → total_of n cost p ≤ total_of n cost q
  bounds_least q aq =
      let least : sum_below n u ≤ sum_below n (λ i. cost i (q i) + v (q i)) = sum_le n u (λ i. cost i (q i) + v (q i)) (λ i l. b.within i (q i) l (aq.below i l)) in
      omega (arith, bound_met, bound_parts q aq)

  -- and each permutation of least total meets them
  pub bounds_met : (q : ℕ → ℕ) → IsPairing n q → total_of n cost q ≤ total_of n cost p → (i : ℕ) → i < n → u i ≡ cost i (q i) + v (q i)
  bounds_met q aq le =
      terms_same n u (λ i. cost i (q i) + v (q i)) (λ i l. b.within i (q i) l (aq.below i l)) (omega (arith, bound_met, bound_parts q aq))
