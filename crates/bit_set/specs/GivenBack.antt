-- A set of numbers gives its words back.
use Rattle.std.proofs.Common.{◌≡◌, ℕ, zero, suc, ◌+◌, ◌-◌, ◌*◌, ◌%◌, ◌^◌, ◌<◌, Bool, true, false, cond, eqb, List, get_or, refl, sym, ap, ◌∙◌, inl, inr, arith}
use Rattle.std.proofs.Math.Nat.{pow-suc}
use Rattle.std.specs.Int.{bit_at}
use Rattle.std.specs.FinSet.{contains}
use Rattle.std.proofs.lemmas.Bool.{cases_order}
use Rattle.std.proofs.lemmas.List.Elements.{All-get_or}
use Rattle.std.proofs.lemmas.List.FromFn.{fill_by_all}
use Rattle.std.proofs.lemmas.Nat.Bits.{bit_at-lt, bit_at_lowest, bit_at_cat_low, bit_at_cat_high, same_from_bits_below}
use Rattle.bit_set.specs.Words.{AreWords, members_of, bits_below, word_at, words_of}
use Rattle.bit_set.specs.Marks.{contains-members_of, marked_bit}

bits_below-lt : (p : ℕ → Bool) (n : ℕ) → bits_below p n < 2 ^ n
bits_below-lt p zero = omega arith
bits_below-lt p (suc n) =
    elim (p n) as (λ b. cond b 1 0 * 2 ^ n + bits_below p n < 2 ^ suc n) [
      | true ↦ omega (arith, bits_below-lt p n, pow-suc 2 n)
      | false ↦ omega (arith, bits_below-lt p n, pow-suc 2 n)
    ]

one_bit : (b : Bool) → cond b 1 0 % 2 ≡ cond b 1 0
one_bit true = refl
one_bit false = refl

bit_at-bits_below : (p : ℕ → Bool) (n i : ℕ) → i < n → bit_at (bits_below p n) i ≡ cond (p i) 1 0
bit_at-bits_below p zero i below = absurd (omega arith)
bit_at-bits_below p (suc n) i below =
    elim (cases_order i n) [
      | inl same ↦
          let lowest : i - n ≡ 0 = omega arith in
          bit_at_cat_high (cond (p n) 1 0) n (bits_below p n) i (bits_below-lt p n) (omega arith)
          ∙ ap (λ k. bit_at (cond (p n) 1 0) k) lowest
          ∙ bit_at_lowest (cond (p n) 1 0)
          ∙ one_bit (p n)
          ∙ ap (λ k. cond (p k) 1 0) (sym same)
      | inr (inl before) ↦ bit_at_cat_low (cond (p n) 1 0) n (bits_below p n) i before ∙ bit_at-bits_below p n i before
      | inr (inr after) ↦ absurd (omega arith)
    ]

bit_from_test : (b : ℕ) → b < 2 → b ≡ cond (eqb b 1) 1 0
bit_from_test zero below = refl
bit_from_test (suc zero) below = refl
bit_from_test (suc (suc b)) below = absurd (omega arith)

word_at-members_of : (words : List ℕ) (k : ℕ) → get_or words k 0 < 2 ^ 64 → get_or words k 0 ≡ word_at (members_of words) k
unfolding word_at
word_at-members_of words k fits =
    let test : ℕ → Bool = λ i. contains (members_of words) (64 * k + i) in
    same_from_bits_below 64 (get_or words k 0) (bits_below test 64) fits (bits_below-lt test 64)
    (λ i below.
    bit_from_test (bit_at (get_or words k 0) i) (bit_at-lt (get_or words k 0) i)
    ∙ ap (λ b. cond b 1 0) (sym (contains-members_of words (64 * k + i) ∙ marked_bit words k i below))
    ∙ sym (bit_at-bits_below test 64 i below))

-- so many words of 64 bits are those that the set of their numbers gives
pub words_of-members_of : (count : ℕ) (words : List ℕ) → AreWords count words → words_of count (members_of words) ≡ words
unfolding words_of
words_of-members_of count words are =
    sym (fill_by_all (word_at (members_of words)) words count 0 are.long (λ k within. word_at-members_of words k (All-get_or (λ w. w < 2 ^ 64) words k 0 (omega (arith, are.long)) are.fits)))
