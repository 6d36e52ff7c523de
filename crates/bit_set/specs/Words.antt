-- The numbers that the bits of a list of words name.
use Rattle.std.specs.Prelude.{◌≡◌, ℕ, ◌+◌, ◌*◌, ◌/◌, ◌%◌, ◌^◌, ◌<◌, zero, suc, Bool, List, length, map, slice_index, All, ◌==◌, if◌then◌else◌}
use Rattle.std.specs.List.{range_with_len}
use Rattle.std.specs.Int.{bit_at}
use Rattle.std.specs.Ordering.{nat_cmp}
use Rattle.std.specs.FinSet as set

-- whether the number is in the set that is a word: its bit is set
abbrev pub is_in : ℕ → ℕ → Bool
is_in word number = bit_at word number == 1

-- whether the bit of the number is set in its word
abbrev pub is_marked : List ℕ → ℕ → Bool
is_marked words number = is_in (slice_index words (number / 64)) (number % 64)

-- the numbers below the bound that pass the test
abbrev pub passing_below : (ℕ → Bool) → ℕ → set.FinSet nat_cmp
passing_below p zero = set.empty
passing_below p (suc n) = if p n then set.insert (passing_below p n) n else passing_below p n

-- the numbers whose bits are set
unfoldable pub members_of : List ℕ → set.FinSet nat_cmp
members_of words = passing_below (is_marked words) (64 * length words)

-- so many words of 64 bits
pub record AreWords (count : ℕ) (words : List ℕ) : Type 0 where
  pub long : length words ≡ count
  pub fits : All (λ w. w < 2 ^ 64) words

-- the number whose bits below the bound are those that pass the test
abbrev pub bits_below : (ℕ → Bool) → ℕ → ℕ
bits_below p zero = 0
bits_below p (suc i) = (if p i then 1 else 0) * 2 ^ i + bits_below p i

-- the word at a place: its bits are those of the numbers from 64 times the place on
unfoldable pub word_at : set.FinSet nat_cmp → ℕ → ℕ
word_at numbers place = bits_below (λ i. set.contains numbers (64 * place + i)) 64

-- so many words whose bits name the numbers
unfoldable pub words_of : ℕ → set.FinSet nat_cmp → List ℕ
words_of count numbers = map (word_at numbers) (range_with_len 0 count)
