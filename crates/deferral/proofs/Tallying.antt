-- What one robot more in the set of a claim does to the counts.
use Rattle.std.proofs.Common.{◌≡◌, ℕ, ◌+◌, ◌<◌, ◌≤◌, Bool, true, false, cond, not, ◌&&◌, ◌==◌, inl, inr, refl, sym, ap, ◌∙◌, List, length, arith, eq-eqb}
use Rattle.std.proofs.lemmas.Bool.{and_parts, and_right, cases_eq, eqb-true, ne_eqb}
use Rattle.deferral.specs.Matrices.{one_if}
use Rattle.deferral.specs.Tallies.{Marks, is_marked, mark_count, IsRemarked}
use Rattle.deferral.proofs.Passing.{count_passing, count_passing-but_one, count_passing-upto}

-- robot r isn't in the set of claim c and then is; all else is the same
pub record IsOneMore (low high : List ℕ) (c r : ℕ) : Type 0 where
  pub known : c < length low
  pub long : length high ≡ length low
  pub absent : is_marked low c r ≡ false
  pub each : (d q : ℕ) → d < length low → is_marked high d q ≡ cond ((q == r) && (d == c)) true (is_marked low d q)

-- one that is put in
pub one_put : (old new : List ℕ) (c r : ℕ) → c < length old → is_marked old c r ≡ false → IsRemarked old new (λ d q. (q == r) && (d == c)) true → IsOneMore old new c r
one_put old new c r known absent made = record { known = known; long = made.long; absent = absent; each = made.each }

by_test : (t new old : Bool) → new ≡ cond t false old → (t ≡ true → old ≡ true) → old ≡ cond t true new
by_test true new old e there = there refl
by_test false new old e there = sym e

-- one that is taken out
pub one_out : (old new : List ℕ) (c r : ℕ) → c < length old → is_marked old c r ≡ true → IsRemarked old new (λ d q. (q == r) && (d == c)) false → IsOneMore new old c r
one_out old new c r known there made = record {
  known = (let l = made.long in omega arith);
  long = sym made.long;
  absent = made.each c r known ∙ rw (eq-eqb r r refl, eq-eqb c c refl) refl;
  each = λ d q below. by_test ((q == r) && (d == c)) (is_marked new d q) (is_marked old d q) (made.each d q (let l = made.long in omega arith))
      (λ t. let p = and_parts (q == r) (d == c) t in ap (λ k. is_marked old k q) (eqb-true d c p.1) ∙ (ap (λ k. is_marked old c k) (eqb-true q r p.0) ∙ there));
}

-- no more than there are claims
pub mark_count-upto : (m : Marks) (a b : ℕ) → mark_count m a b ≤ length m.needed
mark_count-upto m a b = go (b == a)
  where
    p : ℕ → Bool
    p c = is_marked m.needed c a && is_marked m.kept c b

    go : (t : Bool) → cond t 0 (count_passing p (length m.needed)) ≤ length m.needed
    go true = omega arith
    go false = count_passing-upto p (length m.needed)

-- a pair of one robot twice is none of a robot and another
not_both : (a b r : ℕ) (x : Bool) → b ≡ a → ((a == r) && (not (b == r) && x)) ≡ false
not_both a b r x same = elim (cases_eq a r) [
  | inl is ↦ rw (eq-eqb a r is, eq-eqb b r (same ∙ is)) refl
  | inr other ↦ rw (ne_eqb a r other) refl
]

module _ (low high fixed : List ℕ) (c r : ℕ) (more : IsOneMore low high c r) where
  there : is_marked high c r ≡ true
  there = more.each c r more.known ∙ rw (eq-eqb r r refl, eq-eqb c c refl) refl

  elsewhere : (d q : ℕ) → d < length low → (d ≡ c → ⊥) → is_marked high d q ≡ is_marked low d q
  elsewhere d q below other = more.each d q below ∙ rw (ne_eqb d c other) (ap (λ t. cond t true (is_marked low d q)) (and_right (q == r) false refl))

  others : (q : ℕ) → (q ≡ r → ⊥) → is_marked high c q ≡ is_marked low c q
  others q other = more.each c q more.known ∙ rw (ne_eqb q r other) refl

  -- one more where robot r has one more claim to need, and the other's end keeps it
  pub more_needed : (a b : ℕ) → mark_count (record { needed = high; kept = fixed }) a b ≡ mark_count (record { needed = low; kept = fixed }) a b + one_if ((a == r) && (not (b == r) && is_marked fixed c b))
  more_needed a b = elim (cases_eq b a) [
    | inl same ↦ rw (eq-eqb b a same) (let z : one_if ((a == r) && (not (b == r) && is_marked fixed c b)) ≡ 0 = ap one_if (not_both a b r (is_marked fixed c b) same) in omega arith)
    | inr apart ↦ rw (ne_eqb b a apart) (by_count apart)
  ]
    where
      p : ℕ → Bool
      p d = is_marked low d a && is_marked fixed d b

      q : ℕ → Bool
      q d = is_marked high d a && is_marked fixed d b

      by_count : (b ≡ a → ⊥) → count_passing q (length high) ≡ count_passing p (length low) + one_if ((a == r) && (not (b == r) && is_marked fixed c b))
      by_count apart =
          let long : count_passing q (length high) ≡ count_passing q (length low) = ap (λ n. count_passing q n) more.long in
          let step = count_passing-but_one p q c (length low) more.known (λ d below other. ap (λ t. t && is_marked fixed d b) (elsewhere d a below other)) in
          elim (cases_eq a r) [
            | inl is ↦
                let old : one_if (p c) ≡ 0 = ap (λ t. one_if (t && is_marked fixed c b)) (ap (λ k. is_marked low c k) is ∙ more.absent) in
                let new : one_if (q c) ≡ one_if (is_marked fixed c b) = ap (λ t. one_if (t && is_marked fixed c b)) (ap (λ k. is_marked high c k) is ∙ there) in
                let test : one_if ((a == r) && (not (b == r) && is_marked fixed c b)) ≡ one_if (is_marked fixed c b) = rw (eq-eqb a r is, ne_eqb b r (λ e. apart (e ∙ sym is))) refl in
                omega arith
            | inr other ↦
                let same : one_if (q c) ≡ one_if (p c) = ap (λ t. one_if (t && is_marked fixed c b)) (others a other) in
                let test : one_if ((a == r) && (not (b == r) && is_marked fixed c b)) ≡ 0 = rw (ne_eqb a r other) refl in
                omega arith
          ]

  -- one more where the end of robot r keeps one more claim, and the other needs it
  pub more_kept : length fixed ≡ length low → (a b : ℕ) → mark_count (record { needed = fixed; kept = high }) a b ≡ mark_count (record { needed = fixed; kept = low }) a b + one_if ((b == r) && (not (a == r) && is_marked fixed c a))
  more_kept both a b = elim (cases_eq b a) [
    | inl same ↦ rw (eq-eqb b a same) (let z : one_if ((b == r) && (not (a == r) && is_marked fixed c a)) ≡ 0 = ap one_if (not_both b a r (is_marked fixed c a) (sym same)) in omega arith)
    | inr apart ↦ rw (ne_eqb b a apart) (by_count apart)
  ]
    where
      p : ℕ → Bool
      p d = is_marked fixed d a && is_marked low d b

      q : ℕ → Bool
      q d = is_marked fixed d a && is_marked high d b

      by_count : (b ≡ a → ⊥) → count_passing q (length fixed) ≡ count_passing p (length fixed) + one_if ((b == r) && (not (a == r) && is_marked fixed c a))
      by_count apart =
          let step = count_passing-but_one p q c (length fixed) (let k = more.known in omega arith) (λ d below other. ap (λ t. is_marked fixed d a && t) (elsewhere d b (omega arith) other)) in
          elim (cases_eq b r) [
            | inl is ↦
                let old : one_if (p c) ≡ 0 = ap one_if (and_right (is_marked fixed c a) (is_marked low c b) (ap (λ k. is_marked low c k) is ∙ more.absent)) in
                let new : one_if (q c) ≡ one_if (is_marked fixed c a) = ap one_if (ap (λ t. is_marked fixed c a && t) (ap (λ k. is_marked high c k) is ∙ there) ∙ and-true (is_marked fixed c a)) in
                let test : one_if ((b == r) && (not (a == r) && is_marked fixed c a)) ≡ one_if (is_marked fixed c a) = rw (eq-eqb b r is, ne_eqb a r (λ e. apart (is ∙ sym e))) refl in
                omega arith
            | inr other ↦
                let same : one_if (q c) ≡ one_if (p c) = ap (λ t. one_if (is_marked fixed c a && t)) (others b other) in
                let test : one_if ((b == r) && (not (a == r) && is_marked fixed c a)) ≡ 0 = rw (ne_eqb b r other) refl in
                omega arith
          ]
        where
          and-true : (t : Bool) → (t && true) ≡ t
          and-true true = refl
          and-true false = refl
