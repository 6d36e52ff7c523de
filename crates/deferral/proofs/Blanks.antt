-- Lists that hold one value at every place.
use Rattle.std.proofs.Common.{◌≡◌, ℕ, ◌≤◌, Bool, true, false, cond, ◌&&◌, ◌==◌, inl, inr, refl, sym, ap, ◌∙◌, List, length, get_or, replicate, arith}
use Rattle.std.proofs.lemmas.Bool.{cases_lt}
use Rattle.std.proofs.lemmas.List.{get_or-replicate, get_or_past, length-replicate}
use Rattle.std.specs.Prelude.{nat_lt}
use Rattle.std.specs.Ordering.{nat_cmp}
use Rattle.std.specs.FinSet.{FinSet}
use Rattle.bit_set.specs.Words.{is_in}
use Rattle.bit_set.proofs.WordBits.{is_in-zero}
use Rattle.fleet_base.specs.EdgeSets.{edge_place, leads}
use Rattle.deferral.specs.Matrices.{count_at, IsMatrix}
use Rattle.deferral.specs.Tallies.{is_marked, mark_count, IsTallied}
use Rattle.deferral.proofs.Passing.{count_passing-none}

-- each place has the value, and so has none behind the end
pub get_or-blank : {A : Type 0} (x : A) (n k : ℕ) → get_or (replicate n x) k x ≡ x
get_or-blank x n k = elim (cases_lt k n) [
  | inl below ↦ get_or-replicate n k x x below
  | inr past ↦ get_or_past (replicate n x) k x (let l = length-replicate n x in omega arith)
]

either : (t : Bool) (n : ℕ) → n ≡ 0 → cond t n 0 ≡ 0
either true n e = e
either false n e = refl

-- counts that are all 0
pub count_at-blank : (counts : List ℕ) (n r q : ℕ) → counts ≡ replicate n 0 → count_at counts r q ≡ 0
count_at-blank counts n r q blank = either (nat_lt q 64) (get_or counts (edge_place r q) 0) (ap (λ xs. get_or xs (edge_place r q) 0) blank ∙ get_or-blank 0 n (edge_place r q))

pub matrix-blank : (counts : List ℕ) (edges : FinSet nat_cmp) (n : ℕ) → n ≡ 4096 → counts ≡ replicate n 0 → ((r q : ℕ) → leads edges r q ≡ false) → IsMatrix counts edges
matrix-blank counts edges n many blank none = record {
  full = ap length blank ∙ length-replicate n 0 ∙ many;
  leading = λ r q. none r q ∙ ap (λ k. nat_lt 0 k) (sym (count_at-blank counts n r q blank));
}

-- sets that are all empty
pub is_marked-blank : (sets : List ℕ) (n c r : ℕ) → sets ≡ replicate n 0 → is_marked sets c r ≡ false
is_marked-blank sets n c r blank = ap (λ xs. is_in (get_or xs c 0) r) blank ∙ (ap (λ w. is_in w r) (get_or-blank 0 n c) ∙ is_in-zero r)

pub tally-blank : (needed kept counts : List ℕ) (n : ℕ) → n ≤ 1280 → needed ≡ replicate n 0 → kept ≡ replicate n 0 → ((r q : ℕ) → count_at counts r q ≡ 0) → IsTallied (record { needed = needed; kept = kept }) counts
tally-blank needed kept counts n few none nothing zero = record {
  few = (let l = ap length none ∙ length-replicate n 0 in omega arith);
  both = ap length nothing ∙ sym (ap length none);
  counted = λ r q r_known q_known. zero r q ∙ sym (neither r q);
}
  where
    neither : (r q : ℕ) → mark_count (record { needed = needed; kept = kept }) r q ≡ 0
    neither r q = cond-zero (q == r) (count_passing-none (λ c. is_marked needed c r && is_marked kept c q) (length needed) (λ c. ap (λ t. t && is_marked kept c q) (is_marked-blank needed n c r none)))
      where
        cond-zero : (t : Bool) {k : ℕ} → k ≡ 0 → cond t 0 k ≡ 0
        cond-zero true e = refl
        cond-zero false e = e
