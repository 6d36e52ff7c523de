-- Numbers of rows and columns that show that a total is least.
use Rattle.std.proofs.Common.{◌≡◌, ℕ, suc, ◌+◌, ◌-◌, ◌<◌, ◌≤◌, ℤ, pos, negsuc, arith}
use Rattle.std.specs.Prelude.{◌+ℤ◌, ◌≤ℤ◌}
use Rattle.std.proofs.lemmas.Int.{ints}
use Rattle.task_assign.specs.Sums.{sum_below}
use Rattle.task_assign.specs.Pairings.{IsPairing, AreNumbers, IsLeastTotal}
use Rattle.task_assign.proofs.SumLemmas.{term_le}
use Rattle.task_assign.proofs.PairingLemmas.{AreBounds, bounds_least}

-- how far the number is from 0
abbrev pub size_of : ℤ → ℕ
size_of (pos n) = n
size_of (negsuc n) = suc n

-- z + k and k - z, where they are not below 0
abbrev pub raised : ℕ → ℤ → ℕ
raised k (pos n) = n + k
raised k (negsuc n) = k - suc n

abbrev pub lowered : ℕ → ℤ → ℕ
lowered k (pos n) = k - n
lowered k (negsuc n) = k + suc n

raised_is : (k : ℕ) (z : ℤ) → size_of z ≤ k → pos (raised k z) ≡ z +ℤ pos k
raised_is k (pos n) l = omega (arith, ints)
raised_is k (negsuc n) l = omega (arith, ints)

lowered_is : (k : ℕ) (z : ℤ) → size_of z ≤ k → pos (lowered k z) +ℤ z ≡ pos k
lowered_is k (pos n) l = omega (arith, ints)
lowered_is k (negsuc n) l = omega (arith, ints)

within_from : (k c : ℕ) (x y : ℤ) → size_of x ≤ k → size_of y ≤ k → (x +ℤ y) ≤ℤ pos c → raised k x ≤ c + lowered k y
within_from k c x y l m h =
    let a : pos (raised k x) ≡ x +ℤ pos k = raised_is k x l in
    let b : pos (lowered k y) +ℤ y ≡ pos k = lowered_is k y m in
    omega (arith, ints)

met_from : (k c : ℕ) (x y : ℤ) → size_of x ≤ k → size_of y ≤ k → x +ℤ y ≡ pos c → raised k x ≡ c + lowered k y
met_from k c x y l m h =
    let a : pos (raised k x) ≡ x +ℤ pos k = raised_is k x l in
    let b : pos (lowered k y) +ℤ y ≡ pos k = lowered_is k y m in
    omega (arith, ints)

module _ (n : ℕ) (cost : ℕ → ℕ → ℕ) (p : ℕ → ℕ) (u v : ℕ → ℤ) (a : IsPairing n p) (m : AreNumbers n cost p u v) where
  greatest : ℕ
  greatest = sum_below n (λ i. size_of (u i)) + sum_below n (λ j. size_of (v j))

  row_small : (i : ℕ) → i < n → size_of (u i) ≤ greatest
  unfolding greatest
  row_small i l = omega (arith, term_le n (λ k. size_of (u k)) i l)

  column_small : (j : ℕ) → j < n → size_of (v j) ≤ greatest
  unfolding greatest
  column_small j l = omega (arith, term_le n (λ k. size_of (v k)) j l)

  numbers_bounds : AreBounds n cost p (λ i. raised greatest (u i)) (λ j. lowered greatest (v j))
  numbers_bounds = record {
    within = λ i j l k. within_from greatest (cost i j) (u i) (v j) (row_small i l) (column_small j k) (m.within i j l k);
    met = λ i l. met_from greatest (cost i (p i)) (u i) (v (p i)) (row_small i l) (column_small (p i) (a.below i l)) (m.met i l);
  }

  -- with numbers of the rows and columns the total is least
  pub numbers_least : IsLeastTotal n cost p
  numbers_least q aq = bounds_least n cost p (λ i. raised greatest (u i)) (λ j. lowered greatest (v j)) a numbers_bounds q aq
