-- What a written bit changes of a set of words.
use Rattle.std.proofs.Common.{◌≡◌, ◌≢◌, ℕ, zero, suc, ◌+◌, ◌*◌, ◌/◌, ◌%◌, ◌^◌, ◌<◌, Bool, true, false, cond, not, ◌&&◌, ◌||◌, eqb, List, length, get_or, set, replicate, bit_and, bit_or, refl, sym, ap, ◌∙◌, inl, inr, w64, arith}
use Rattle.std.specs.Int.{bit_at, bit_not, trailing_zeros}
use Rattle.std.specs.Ordering.{nat_cmp}
use Rattle.std.specs.Cmp.{nat_cmp_total}
use Rattle.std.specs.FinSet.{FinSet, empty, contains, insert, remove, contains-empty, same_set, nat_cmp-IsAntisymmetric}
use Rattle.std.proofs.lemmas.Bool.{false≢true, eq-eqb, ne_eqb, cases_eq, cases_lt, cond-true, cond-false}
use Rattle.std.proofs.lemmas.List.{length-set, get_or_past, get_or-set_same, get_or-set_other, get_or-replicate, length-replicate}
use Rattle.std.proofs.lemmas.Nat.{one_shl, pow_pos}
use Rattle.std.proofs.lemmas.Nat.Bits.{and_pow, bit_at-lt, bit_at-zero, bit_at-trailing_zeros, bit_at_set_same, bit_at_set_other, bit_at_clear_same, bit_at_clear_other}
use Rattle.std.proofs.lemmas.List.Elements.{All-set}
use Rattle.bit_set.specs.Words.{AreWords, is_in, is_marked, members_of}
use Rattle.bit_set.specs.Marks.{contains-insert_nat, contains-remove_nat, contains-members_of, marked_bit}

-- words of no bit have no members
pub members_of-blank : (words : List ℕ) → ((k : ℕ) → k < length words → ◌≡◌ {A = ℕ} (get_or words k 0) 0) → members_of words ≡ empty
members_of-blank words blank =
    same_set nat_cmp_total nat_cmp-IsAntisymmetric _ _
    (λ q.
    let word : ◌≡◌ {A = ℕ} (get_or words (q / 64) 0) 0 = elim (cases_lt (q / 64) (length words)) [ inl within ↦ blank (q / 64) within | inr past ↦ get_or_past words (q / 64) 0 past ] in
    contains-members_of words q ∙ rw (word, bit_at-zero (q % 64)) (sym (contains-empty nat_cmp q)))

pub members_of-replicate : (n : ℕ) → members_of (replicate n 0) ≡ empty
members_of-replicate n = members_of-blank (replicate n 0) (λ k within. get_or-replicate n k 0 0 (omega (arith, length-replicate {A = ℕ} n 0)))

-- the word at a place has just the members of its 64 numbers
pub is_in-word : (words : List ℕ) (numbers : FinSet nat_cmp) (place i : ℕ) → members_of words ≡ numbers → i < 64 → is_in (get_or words place 0) i ≡ contains numbers (64 * place + i)
is_in-word words numbers place i shows below = sym (marked_bit words place i below) ∙ sym (contains-members_of words (64 * place + i)) ∙ ap (λ s. contains s (64 * place + i)) shows

-- the lowest bit of a word is its least member
pub contains-lowest : (words : List ℕ) (p : ℕ) → (get_or words p 0 ≡ 0 → ⊥) → get_or words p 0 < 2 ^ 64 → contains (members_of words) (64 * p + trailing_zeros w64 (get_or words p 0)) ≡ true
contains-lowest words p used fits =
    let w : ℕ = get_or words p 0 in
    let lowest = bit_at-trailing_zeros w64 w (omega arith) fits in
    let row : (64 * p + trailing_zeros w64 w) / 64 ≡ p = omega (arith, lowest.0) in
    let column : (64 * p + trailing_zeros w64 w) % 64 ≡ trailing_zeros w64 w = omega (arith, lowest.0) in
    contains-members_of words (64 * p + trailing_zeros w64 w)
    ∙ ap (λ k. eqb (bit_at (get_or words k 0) ((64 * p + trailing_zeros w64 w) % 64)) 1) row
    ∙ ap (λ i. eqb (bit_at w i) 1) column
    ∙ ap (λ b. eqb b 1) lowest.1

pub members_of-used : (words : List ℕ) (p : ℕ) → (get_or words p 0 ≡ 0 → ⊥) → get_or words p 0 < 2 ^ 64 → members_of words ≡ empty → ⊥
members_of-used words p used fits none =
    false≢true (sym (contains-empty nat_cmp _) ∙ ap (λ s. contains s (64 * p + trailing_zeros w64 (get_or words p 0))) (sym none) ∙ contains-lowest words p used fits)

-- the test of a number's bit
bit_test : (b p : ℕ) → b < 2 → 0 < p → not (eqb (b * p) 0) ≡ eqb b 1
bit_test zero p below pos = rw (eq-eqb (0 * p) 0 (omega arith))
bit_test (suc zero) p below pos = rw (ne_eqb (1 * p) 0 (omega arith))
bit_test (suc (suc b)) p below pos = absurd (omega arith)

pub is_marked-and : (words : List ℕ) (q : ℕ) → not (eqb (bit_and (get_or words (q / 64) 0) (1 * 2 ^ (q % 64) % 2 ^ 64)) 0) ≡ is_marked words q
is_marked-and words q =
    ap (λ p. not (eqb (bit_and (get_or words (q / 64) 0) p) 0)) (one_shl (q % 64) 64 (omega arith))
    ∙ ap (λ n. not (eqb n 0)) (and_pow (get_or words (q / 64) 0) (q % 64))
    ∙ bit_test (bit_at (get_or words (q / 64) 0) (q % 64)) (2 ^ (q % 64)) (bit_at-lt _ _) (pow_pos (q % 64))

-- a written word changes one number where it changes one bit
is_marked-set : (words : List ℕ) (k v q : ℕ) (b : Bool) → k < 64 * length words → eqb (bit_at v (k % 64)) 1 ≡ b → ((i : ℕ) → i < 64 → i ≢ k % 64 → bit_at v i ≡ bit_at (get_or words (k / 64) 0) i) → is_marked (set words (k / 64) v) q ≡ cond (eqb q k) b (is_marked words q)
is_marked-set words k v q b within changed kept =
    elim (cases_eq (q / 64) (k / 64)) [
      | inr other ↦
          let apart : q ≢ k = λ e. other (ap (λ n. n / 64) e) in
          rw (ne_eqb q k apart) (ap (λ w. eqb (bit_at w (q % 64)) 1) (get_or-set_other words (k / 64) (q / 64) v 0 other))
      | inl same ↦
          let written : get_or (set words (k / 64) v) (q / 64) 0 ≡ v = ap (λ i. get_or (set words (k / 64) v) i 0) same ∙ get_or-set_same words (k / 64) v 0 (omega arith) in
          ap (λ w. eqb (bit_at w (q % 64)) 1) written
          ∙ elim (cases_eq (q % 64) (k % 64)) [
            | inl bit ↦ ap (λ i. eqb (bit_at v i) 1) bit ∙ changed ∙ sym (cond-true (eqb q k) b (is_marked words q) (eq-eqb q k (omega arith)))
            | inr bit ↦
                let apart : q ≢ k = λ e. bit (ap (λ n. n % 64) e) in
                ap (λ n. eqb n 1) (kept (q % 64) (omega arith) bit)
                ∙ ap (λ i. eqb (bit_at (get_or words i 0) (q % 64)) 1) (sym same)
                ∙ sym (cond-false (eqb q k) b (is_marked words q) (ne_eqb q k apart))
          ]
    ]

cond-or : (b x : Bool) → cond b true x ≡ (b || x)
cond-or true x = refl
cond-or false x = refl

cond-and : (b x : Bool) → cond b false x ≡ (not b && x)
cond-and true x = refl
cond-and false x = refl

-- a word whose bit is set
pub members_of-insert : (words : List ℕ) (k : ℕ) → k < 64 * length words → members_of (set words (k / 64) (bit_or (get_or words (k / 64) 0) (1 * 2 ^ (k % 64) % 2 ^ 64))) ≡ insert (members_of words) k
members_of-insert words k within =
    same_set nat_cmp_total nat_cmp-IsAntisymmetric _ _
    (λ q.
    contains-members_of _ q
    ∙ is_marked-set words k _ q true within (ap (λ n. eqb n 1) (bit_at_set_same w64 _ (k % 64) (omega arith))) (λ i _ other. bit_at_set_other w64 _ (k % 64) (omega arith) i other)
    ∙ cond-or (eqb q k) (is_marked words q)
    ∙ ap (λ b. eqb q k || b) (sym (contains-members_of words q))
    ∙ sym (contains-insert_nat (members_of words) k q))

-- a word whose bit is cleared
pub members_of-remove : (words : List ℕ) (k : ℕ) → k < 64 * length words → members_of (set words (k / 64) (bit_and (get_or words (k / 64) 0) (bit_not w64 (1 * 2 ^ (k % 64) % 2 ^ 64)))) ≡ remove (members_of words) k
members_of-remove words k within =
    same_set nat_cmp_total nat_cmp-IsAntisymmetric _ _
    (λ q.
    contains-members_of _ q
    ∙ is_marked-set words k _ q false within (ap (λ n. eqb n 1) (bit_at_clear_same w64 _ (k % 64) (omega arith))) (λ i below other. bit_at_clear_other w64 _ (k % 64) (omega arith) i below other)
    ∙ cond-and (eqb q k) (is_marked words q)
    ∙ ap (λ b. not (eqb q k) && b) (sym (contains-members_of words q))
    ∙ sym (contains-remove_nat (members_of words) k q))

-- a written word of 64 bits leaves words of 64 bits
pub AreWords-set : (count : ℕ) (words : List ℕ) (k v : ℕ) → AreWords count words → v < 2 ^ 64 → AreWords count (set words k v)
AreWords-set count words k v are fits = record { long = length-set words k v ∙ are.long; fits = All-set (λ w. w < 2 ^ 64) words k v fits are.fits }
