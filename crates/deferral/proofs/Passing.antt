-- How many numbers below a bound pass a test.
use Rattle.std.proofs.Common.{◌≡◌, ℕ, zero, suc, ◌+◌, ◌<◌, ◌≤◌, Bool, true, false, inl, inr, refl, sym, ap, ◌∙◌, List, [], ◌∷◌, length, arith}
use Rattle.std.proofs.lemmas.Bool.{cases_eq}
use Rattle.std.specs.List.{filter, range_with_len}
use Rattle.fleet_model.specs.Lists.{numbers_below}
use Rattle.deferral.specs.Matrices.{one_if}

-- one more element at the front
length-filter_cons : (p : ℕ → Bool) (x : ℕ) (xs : List ℕ) → length (filter p (x ∷ xs)) ≡ one_if (p x) + length (filter p xs)
length-filter_cons p x xs = go (p x) refl
  where
    go : (b : Bool) → p x ≡ b → length (filter p (x ∷ xs)) ≡ one_if (p x) + length (filter p xs)
    go true e = rw e (omega arith)
    go false e = rw e (omega arith)

-- one more number at the end
length-filter_more : (p : ℕ → Bool) (a n : ℕ) → length (filter p (range_with_len a (suc n))) ≡ length (filter p (range_with_len a n)) + one_if (p (a + n))
length-filter_more p a zero = length-filter_cons p a [] ∙ (ap (λ k. one_if (p k) + 0) (plain a) ∙ turned (one_if (p (a + 0))))
  where
    plain : (k : ℕ) → k ≡ k + 0
    plain k = omega arith

    turned : (k : ℕ) → k + 0 ≡ 0 + k
    turned k = omega arith
length-filter_more p a (suc n) =
    let ih = length-filter_more p (a + 1) n in
    let first = length-filter_cons p a (range_with_len (a + 1) (suc n)) in
    let again = length-filter_cons p a (range_with_len (a + 1) n) in
    let same : one_if (p (a + 1 + n)) ≡ one_if (p (a + suc n)) = ap (λ k. one_if (p k)) (next a n) in
    first ∙ (ap (λ k. one_if (p a) + k) ih ∙ (sum (one_if (p a)) (length (filter p (range_with_len (a + 1) n))) (one_if (p (a + 1 + n))) (one_if (p (a + suc n))) same ∙ ap (λ k. k + one_if (p (a + suc n))) (sym again)))
  where
    next : (k m : ℕ) → k + 1 + m ≡ k + suc m
    next k m = omega arith

    sum : (i j k l : ℕ) → k ≡ l → i + (j + k) ≡ i + j + l
    sum i j k l e = omega arith

-- the numbers below the bound that pass
abbrev pub count_passing : (ℕ → Bool) → ℕ → ℕ
count_passing p n = length (filter p (numbers_below n))

-- one more number below the bound
count_passing-suc : (p : ℕ → Bool) (n : ℕ) → count_passing p (suc n) ≡ count_passing p n + one_if (p n)
count_passing-suc p n = length-filter_more p 0 n ∙ ap (λ k. count_passing p n + one_if (p k)) (front n)
  where
    front : (k : ℕ) → 0 + k ≡ k
    front k = omega arith

one_if-upto : (b : Bool) → one_if b ≤ 1
one_if-upto true = omega arith
one_if-upto false = omega arith

-- no more than there are
pub count_passing-upto : (p : ℕ → Bool) (n : ℕ) → count_passing p n ≤ n
count_passing-upto p zero = omega arith
count_passing-upto p (suc n) = let ih = count_passing-upto p n in let m = count_passing-suc p n in let o = one_if-upto (p n) in omega arith

-- as many where the same pass
pub count_passing-same : (p q : ℕ → Bool) (n : ℕ) → ((c : ℕ) → c < n → q c ≡ p c) → count_passing q n ≡ count_passing p n
count_passing-same p q zero same = refl
count_passing-same p q (suc n) same =
    let ih = count_passing-same p q n (λ c below. same c (omega arith)) in
    let last : one_if (q n) ≡ one_if (p n) = ap one_if (same n (omega arith)) in
    let m = count_passing-suc p n in let k = count_passing-suc q n in
    omega arith

-- none where none passes
pub count_passing-none : (p : ℕ → Bool) (n : ℕ) → ((c : ℕ) → p c ≡ false) → count_passing p n ≡ 0
count_passing-none p zero none = refl
count_passing-none p (suc n) none =
    let ih = count_passing-none p n none in
    let last : one_if (p n) ≡ 0 = ap one_if (none n) in
    let m = count_passing-suc p n in
    omega arith

-- where the tests differ at one number alone, the counts differ by that number
pub count_passing-but_one : (p q : ℕ → Bool) (c n : ℕ) → c < n → ((d : ℕ) → d < n → (d ≡ c → ⊥) → q d ≡ p d) → count_passing q n + one_if (p c) ≡ count_passing p n + one_if (q c)
count_passing-but_one p q c zero below same = absurd (omega arith)
count_passing-but_one p q c (suc n) below same =
    let m = count_passing-suc p n in let k = count_passing-suc q n in
    elim (cases_eq c n) [
      | inl last ↦
          let before = count_passing-same p q n (λ d low. same d (omega arith) (λ e. omega arith)) in
          let of_p : one_if (p c) ≡ one_if (p n) = ap (λ d. one_if (p d)) last in
          let of_q : one_if (q c) ≡ one_if (q n) = ap (λ d. one_if (q d)) last in
          omega arith
      | inr other ↦
          let ih = count_passing-but_one p q c n (omega arith) (λ d low. same d (omega arith)) in
          let last : one_if (q n) ≡ one_if (p n) = ap one_if (same n (omega arith) (λ e. other (sym e))) in
          omega arith
    ]
