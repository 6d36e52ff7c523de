-- A walk over a set of numbers, word by word.
use Rattle.std.proofs.Common.{◌≡◌, ℕ, ◌+◌, ◌-◌, ◌*◌, ◌/◌, ◌%◌, ◌<◌, ◌≤◌, true, false, inl, inr, sym, ap, ◌∙◌, arith}
use Rattle.std.proofs.lemmas.Bool.{both_ways, cases_lt, false_from_ne_true}
use Rattle.std.specs.Ordering.{nat_cmp}
use Rattle.std.specs.FinSet.{FinSet, contains}
use Rattle.bit_set.specs.Words.{is_in}

-- the set has no number from `from` on in the words before the place, and in the word there `from` is the bound
pub record IsPassed (numbers : FinSet nat_cmp) (from bound place : ℕ) : Type 0 where
  pub begun : from < 64 * (place + 1)
  pub low : bound ≡ from - 64 * place
  pub none : (m : ℕ) → from ≤ m → m < 64 * place → contains numbers m ≡ false

pub passed_first : (numbers : FinSet nat_cmp) (from : ℕ) → IsPassed numbers from (from % 64) (from / 64)
passed_first numbers from = record { begun = omega arith; low = omega arith; none = λ m behind before. absurd (omega arith) }

module _ (numbers : FinSet nat_cmp) (from bound place word : ℕ) (shown : (i : ℕ) → i < 64 → is_in word i ≡ contains numbers (64 * place + i)) where
  -- a number of the word at the place
  marked_here : (m : ℕ) → 64 * place ≤ m → m < 64 * (place + 1) → contains numbers m ≡ is_in word (m - 64 * place)
  marked_here m low high =
      let there : m ≡ 64 * place + (m - 64 * place) = omega arith in
      ap (λ k. contains numbers k) there ∙ sym (shown (m - 64 * place) (omega arith))

  -- one more word, which has none from the bound on
  pub passed_more : ((i : ℕ) → bound ≤ i → is_in word i ≡ false) → IsPassed numbers from bound place → IsPassed numbers from 0 (place + 1)
  passed_more free p = record {
    begun = (let b = p.begun in omega arith);
    low = (let b = p.begun in omega arith);
    none = λ m behind before. elim (cases_lt m (64 * place)) [
      | inl earlier ↦ p.none m behind earlier
      | inr here ↦ marked_here m here before ∙ free (m - 64 * place) (let l = p.low in omega arith)
    ];
  }

  -- the least of the word at the place is the least of all
  pub passed_least : (bit : ℕ) → bit < 64 → ((i : ℕ) → bound ≤ i → is_in word i ≡ true → bit ≤ i) → IsPassed numbers from bound place → (m : ℕ) → from ≤ m → contains numbers m ≡ true → 64 * place + bit ≤ m
  passed_least bit known least p m behind member = elim (cases_lt m (64 * place)) [
    | inl earlier ↦ absurd (both_ways (contains numbers m) (p.none m behind earlier) member)
    | inr upto ↦ elim (cases_lt m (64 * (place + 1))) [
      | inl here ↦ (let l = p.low in let b = least (m - 64 * place) (omega arith) (sym (marked_here m upto here) ∙ member) in omega arith)
      | inr later ↦ omega arith
    ]
  ]

-- behind all words there is none
pub passed_none : (numbers : FinSet nat_cmp) (from bound place : ℕ) → ((n : ℕ) → contains numbers n ≡ true → n < 64 * place) → IsPassed numbers from bound place → (m : ℕ) → from ≤ m → contains numbers m ≡ false
passed_none numbers from bound place known p m behind =
    false_from_ne_true (contains numbers m) (λ member. both_ways (contains numbers m) (p.none m behind (known m member)) member)
