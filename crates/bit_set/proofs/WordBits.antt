-- What a word has as a set of numbers.
use Rattle.std.proofs.Common.{◌≡◌, ℕ, ◌+◌, ◌-◌, ◌*◌, ◌/◌, ◌%◌, ◌^◌, ◌<◌, ◌≤◌, true, false, not, ◌&&◌, ◌||◌, eqb, inl, inr, sym, ap, ◌∙◌, bit_and, bit_or, w64, arith, eq-eqb}
use Rattle.std.specs.Int.{bit_at, bit_not, trailing_zeros}
use Rattle.std.proofs.lemmas.Bool.{both_ways, cases_eq, cases_lt, ne_eqb}
use Rattle.std.proofs.lemmas.Nat.{shr-shr, shr_le}
use Rattle.std.proofs.lemmas.Nat.Bits.{bit_at_above, bit_at_and, bit_at-trailing_zeros, bit_at-zero, bit_at_clear_other, bit_at_clear_same, bit_at_set_other, bit_at_set_same}
use Rattle.bit_set.specs.Words.{is_in}

-- no number is in the empty set
pub is_in-zero : (n : ℕ) → is_in 0 n ≡ false
is_in-zero n = ap (λ b. eqb b 1) (bit_at-zero n)

-- the numbers of a word are below 64
pub is_in-past : (set n : ℕ) → set < 2 ^ 64 → 64 ≤ n → is_in set n ≡ false
is_in-past set n fits past = ap (λ b. eqb b 1) (bit_at_above set 64 n fits past)

-- one more number
pub is_in-with : (set number : ℕ) → number < 64 → (n : ℕ) → is_in (bit_or set (1 * 2 ^ number % 2 ^ 64)) n ≡ (eqb n number || is_in set n)
is_in-with set number known n =
    elim (cases_eq n number) [
      | inl same ↦ rw (eq-eqb n number same) (ap (λ k. is_in (bit_or set (1 * 2 ^ number % 2 ^ 64)) k) same ∙ ap (λ b. eqb b 1) (bit_at_set_same w64 set number known))
      | inr other ↦ rw (ne_eqb n number other) (ap (λ b. eqb b 1) (bit_at_set_other w64 set number known n other))
    ]

-- one number less
pub is_in-without : (set number : ℕ) → set < 2 ^ 64 → number < 64 → (n : ℕ) → is_in (bit_and set (bit_not w64 (1 * 2 ^ number % 2 ^ 64))) n ≡ (not (eqb n number) && is_in set n)
is_in-without set number fits known n =
    elim (cases_eq n number) [
      | inl same ↦ rw (eq-eqb n number same) (ap (λ k. is_in (bit_and set (bit_not w64 (1 * 2 ^ number % 2 ^ 64))) k) same ∙ ap (λ b. eqb b 1) (bit_at_clear_same w64 set number known))
      | inr other ↦ rw (ne_eqb n number other) (elim (cases_lt n 64) [
        | inl within ↦ ap (λ b. eqb b 1) (bit_at_clear_other w64 set number known n within other)
        | inr past ↦
            let none : bit_at set n ≡ 0 = bit_at_above set 64 n fits past in
            let both = bit_at_and set (bit_not w64 (1 * 2 ^ number % 2 ^ 64)) n in
            let clear : bit_at (bit_and set (bit_not w64 (1 * 2 ^ number % 2 ^ 64))) n ≡ 0 = omega arith in
            ap (λ b. eqb b 1) clear ∙ sym (is_in-past set n fits past)
      ])
    ]

-- the numbers from a bound on, counted from there
pub is_in-rest : (set from i : ℕ) → is_in (set / 2 ^ from) i ≡ is_in set (from + i)
is_in-rest set from i = ap (λ q. eqb (q % 2) 1) (shr-shr set from i)

-- a number from the bound on
is_in_behind : (set from m : ℕ) → from ≤ m → is_in set m ≡ is_in (set / 2 ^ from) (m - from)
is_in_behind set from m behind =
    let there : m ≡ from + (m - from) = omega arith in
    ap (λ k. is_in set k) there ∙ sym (is_in-rest set from (m - from))

-- where nothing is left from the bound on
pub rest_none : (set from : ℕ) → set / 2 ^ from ≡ 0 → (m : ℕ) → from ≤ m → is_in set m ≡ false
rest_none set from none m behind = is_in_behind set from m behind ∙ (ap (λ s. is_in s (m - from)) none ∙ is_in-zero (m - from))

module _ (set from : ℕ) (fits : set < 2 ^ 64) (some : 0 < set / 2 ^ from) where
  abbrev least : ℕ
  least = trailing_zeros w64 (set / 2 ^ from)

  lowest : (least < 64) × (bit_at (set / 2 ^ from) least ≡ 1) × ((i : ℕ) → i < least → bit_at (set / 2 ^ from) i ≡ 0)
  lowest = let low = shr_le set from in bit_at-trailing_zeros w64 (set / 2 ^ from) some (omega arith)

  -- the lowest bit from the bound on is a number of the set
  pub rest_member : is_in set (from + least) ≡ true
  rest_member = sym (is_in-rest set from least) ∙ ap (λ b. eqb b 1) lowest.1

  pub rest_below : from + least < 64
  rest_below = elim (cases_lt (from + least) 64) [
    | inl within ↦ within
    | inr past ↦ absurd (both_ways (is_in set (from + least)) (is_in-past set (from + least) fits past) rest_member)
  ]

  -- and the least of them
  pub rest_least : (m : ℕ) → from ≤ m → is_in set m ≡ true → from + least ≤ m
  rest_least m behind member = elim (cases_lt (m - from) least) [
    | inl before ↦ absurd (both_ways (is_in set m) (is_in_behind set from m behind ∙ ap (λ b. eqb b 1) (lowest.2 (m - from) before)) member)
    | inr upto ↦ omega arith
  ]
