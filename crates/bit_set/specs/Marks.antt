-- What a set of words contains.
use Rattle.std.proofs.Common.{◌≡◌, ℕ, zero, suc, ◌+◌, ◌*◌, ◌/◌, ◌%◌, ◌<◌, ◌≤◌, Bool, true, false, cond, not, ◌&&◌, ◌||◌, eqb, ltb, List, length, get_or, refl, sym, ap, ◌∙◌, inl, inr, arith, tests}
use Rattle.std.specs.Ordering.{nat_cmp}
use Rattle.std.specs.Cmp.{nat_cmp_total, unsigned_tied}
use Rattle.std.specs.FinSet.{FinSet, contains, insert, remove, contains-empty, contains-insert, contains-remove}
use Rattle.std.proofs.lemmas.Bool.{ltb-true, lt-ltb, le-ltb, eq-eqb, ne_eqb, cases_order, and_left, and_parts}
use Rattle.std.proofs.lemmas.List.{get_or_past}
use Rattle.std.proofs.lemmas.Nat.{le-div}
use Rattle.std.proofs.lemmas.Nat.Bits.{bit_at-zero}
use Rattle.bit_set.specs.Words.{is_in, is_marked, passing_below, members_of}

-- the three places of a number against a bound
one_more : (p : ℕ → Bool) (n q : ℕ) → p n ≡ true → (eqb q n || (ltb q n && p q)) ≡ (ltb q (suc n) && p q)
one_more p n q passes =
    elim (cases_order q n) [
      | inl same ↦ rw (eq-eqb q n same, lt-ltb q (suc n) (omega arith)) (sym (ap p same ∙ passes))
      | inr (inl below) ↦ rw (ne_eqb q n (omega arith), lt-ltb q n below, lt-ltb q (suc n) (omega arith))
      | inr (inr above) ↦ rw (ne_eqb q n (omega arith), le-ltb q n (omega arith), le-ltb q (suc n) (omega arith))
    ]

no_more : (p : ℕ → Bool) (n q : ℕ) → p n ≡ false → (ltb q n && p q) ≡ (ltb q (suc n) && p q)
no_more p n q fails =
    elim (cases_order q n) [
      | inl same ↦ rw (le-ltb q n (omega arith), lt-ltb q (suc n) (omega arith)) (sym (ap p same ∙ fails))
      | inr (inl below) ↦ rw (lt-ltb q n below, lt-ltb q (suc n) (omega arith))
      | inr (inr above) ↦ rw (le-ltb q n (omega arith), le-ltb q (suc n) (omega arith))
    ]

-- what the calls of a set of numbers leave, by a test of numbers
pub contains-insert_nat : (s : FinSet nat_cmp) (k q : ℕ) → contains (insert s k) q ≡ (eqb q k || contains s q)
contains-insert_nat s k q = contains-insert nat_cmp_total s k q ∙ ap (λ b. b || contains s q) (unsigned_tied q k)

pub contains-remove_nat : (s : FinSet nat_cmp) (k q : ℕ) → contains (remove s k) q ≡ (not (eqb q k) && contains s q)
contains-remove_nat s k q = contains-remove nat_cmp_total s k q ∙ ap (λ b. not b && contains s q) (unsigned_tied q k)

contains-passing_below : (p : ℕ → Bool) (n q : ℕ) → contains (passing_below p n) q ≡ (ltb q n && p q)
contains-passing_below p zero q = contains-empty nat_cmp q ∙ sym (and_left (ltb q 0) (p q) (le-ltb q 0 (omega arith)))
contains-passing_below p (suc n) q =
    elim (p n) as (λ b. p n ≡ b → contains (cond b (insert (passing_below p n) n) (passing_below p n)) q ≡ (ltb q (suc n) && p q)) [
      | true ↦ λ e. contains-insert_nat _ n q ∙ ap (λ b. eqb q n || b) (contains-passing_below p n q) ∙ one_more p n q e
      | false ↦ λ e. contains-passing_below p n q ∙ no_more p n q e
    ] refl

-- each member is below 64 times the number of words
pub members_of-below : (words : List ℕ) (q : ℕ) → contains (members_of words) q ≡ true → q < 64 * length words
unfolding members_of
members_of-below words q e = ltb-true _ _ (and_parts _ _ (sym (contains-passing_below (is_marked words) (64 * length words) q) ∙ e)).0

-- a number behind the words isn't marked
pub unmarked_past : (words : List ℕ) (q : ℕ) → 64 * length words ≤ q → is_marked words q ≡ false
unmarked_past words q past = rw (get_or_past words (q / 64) 0 (le-div (length words) q 64 (omega arith) (omega arith)), bit_at-zero (q % 64))

-- a number is a member where its bit is set
pub contains-members_of : (words : List ℕ) (q : ℕ) → contains (members_of words) q ≡ is_marked words q
unfolding members_of
contains-members_of words q =
    contains-passing_below (is_marked words) (64 * length words) q
    ∙ elim (ltb q (64 * length words)) as (λ b. ltb q (64 * length words) ≡ b → (b && is_marked words q) ≡ is_marked words q) [
      | true ↦ λ e. refl
      | false ↦ λ e. sym (unmarked_past words q (grind (arith, tests)))
    ] refl

-- the bit of a number is the bit of its word
pub marked_bit : (words : List ℕ) (k i : ℕ) → i < 64 → is_marked words (64 * k + i) ≡ is_in (get_or words k 0) i
marked_bit words k i below =
    let row : (64 * k + i) / 64 ≡ k = omega arith in
    let column : (64 * k + i) % 64 ≡ i = omega arith in
    ap (λ j. is_in (get_or words j 0) ((64 * k + i) % 64)) row ∙ ap (λ j. is_in (get_or words k 0) j) column
