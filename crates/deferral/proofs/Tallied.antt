-- The counts follow the sets, as a robot is put into one or taken out.
use Rattle.std.proofs.Common.{◌≡◌, ℕ, ◌+◌, ◌^◌, ◌<◌, Bool, true, false, cond, not, ◌&&◌, ◌||◌, ◌==◌, inl, inr, refl, sym, ap, ◌∙◌, List, length, set, get_or, arith, eq-eqb, length-set, get_or-set_same, get_or-set_other}
use Rattle.std.proofs.lemmas.Bool.{and_right, both_ways, cases_eq, cases_lt, ne_eqb}
use Rattle.std.proofs.lemmas.List.{get_or_default}
use Rattle.bit_set.specs.Words.{is_in}
use Rattle.bit_set.proofs.WordBits.{is_in-past}
use Rattle.deferral.specs.Matrices.{count_at, one_if}
use Rattle.deferral.specs.Tallies.{is_marked, mark_count, IsRemarked, IsTallied}
use Rattle.deferral.proofs.Tallying.{IsOneMore, mark_count-upto, more_kept, more_needed, one_out, one_put}

or-cond : (t b : Bool) → (t || b) ≡ cond t true b
or-cond true b = refl
or-cond false b = refl

and-cond : (t b : Bool) → (not t && b) ≡ cond t false b
and-cond true b = refl
and-cond false b = refl

-- the word of one claim, written anew
remarked : (sets : List ℕ) (c r word : ℕ) (there : Bool) → c < length sets → ((q : ℕ) → is_in word q ≡ cond (q == r) there (is_marked sets c q)) → IsRemarked sets (set sets c word) (λ d q. (q == r) && (d == c)) there
remarked sets c r word there known shows = record {
  long = length-set sets c word;
  each = λ d q below. elim (cases_eq d c) [
    | inl same ↦
        rw (eq-eqb d c same)
        (ap (λ k. is_marked (set sets c word) k q) same
        ∙ ap (λ w. is_in w q) (get_or-set_same sets c word 0 known)
        ∙ shows q
        ∙ ap (λ t. cond t there (is_marked sets c q)) (sym (and-true (q == r)))
        ∙ ap (λ k. cond ((q == r) && true) there (is_marked sets k q)) (sym same))
    | inr other ↦
        rw (ne_eqb d c other)
        (ap (λ w. is_in w q) (get_or-set_other sets c d word 0 other)
        ∙ ap (λ t. cond t there (is_marked sets d q)) (sym (and_right (q == r) false refl)))
  ];
}
  where
    and-true : (t : Bool) → (t && true) ≡ t
    and-true true = refl
    and-true false = refl

module _ (sets : List ℕ) (c r old word : ℕ) (known : c < length sets) (is : old ≡ get_or sets c old) where
  there : (q : ℕ) → is_in old q ≡ is_marked sets c q
  there q = ap (λ w. is_in w q) (is ∙ get_or_default sets c old 0 known)

  -- the robot is put into the set of the claim
  pub put_one : ((q : ℕ) → is_in word q ≡ (q == r || is_in old q)) → is_marked sets c r ≡ false → IsOneMore sets (set sets c word) c r
  put_one shows absent = one_put sets (set sets c word) c r known absent (remarked sets c r word true known (λ q. shows q ∙ or-cond (q == r) (is_in old q) ∙ ap (λ b. cond (q == r) true b) (there q)))

  -- the robot is taken out of it
  pub take_one : ((q : ℕ) → is_in word q ≡ (not (q == r) && is_in old q)) → is_marked sets c r ≡ true → IsOneMore (set sets c word) sets c r
  take_one shows present = one_out sets (set sets c word) c r known present (remarked sets c r word false known (λ q. shows q ∙ and-cond (q == r) (is_in old q) ∙ ap (λ b. cond (q == r) false b) (there q)))

  -- the other robots of the set
  pub others_of : ((q : ℕ) → is_in word q ≡ (not (q == r) && is_in old q)) → (q : ℕ) → is_in word q ≡ (not (q == r) && is_marked sets c q)
  others_of shows q = shows q ∙ ap (λ b. not (q == r) && b) (there q)

-- a robot of a word is below 64
below_64 : (word q : ℕ) → word < 2 ^ 64 → is_in word q ≡ true → q < 64
below_64 word q fits member = elim (cases_lt q 64) [
  | inl below ↦ below
  | inr past ↦ absurd (both_ways (is_in word q) (is_in-past word q fits past) member)
]

-- where the one count is greater by a pair that passes, it isn't 0
one_less : (low high : ℕ) (t : Bool) → t ≡ true → high ≡ low + one_if t → high ≡ low + 1
one_less low high t passes e = e ∙ ap (λ b. low + one_if b) passes

module _ (low high fixed : List ℕ) (c r : ℕ) (more : IsOneMore low high c r) (word : ℕ) (fits : word < 2 ^ 64) (known : r < 64) (apart : (q : ℕ) → is_in word q ≡ (not (q == r) && is_marked fixed c q)) where
  row : (a b : ℕ) → mark_count (record { needed = high; kept = fixed }) a b ≡ mark_count (record { needed = low; kept = fixed }) a b + one_if ((a == r) && is_in word b)
  row a b = more_needed low high fixed c r more a b ∙ ap (λ t. mark_count (record { needed = low; kept = fixed }) a b + one_if ((a == r) && t)) (sym (apart b))

  in_row : (q : ℕ) → is_in word q ≡ true → mark_count (record { needed = high; kept = fixed }) r q ≡ mark_count (record { needed = low; kept = fixed }) r q + 1
  in_row q member = one_less _ _ ((r == r) && is_in word q) (rw (eq-eqb r r refl) member) (row r q)

  -- a robot more in a set of those that need a claim
  pub need_small : (counts : List ℕ) → IsTallied (record { needed = low; kept = fixed }) counts → (q : ℕ) → is_in word q ≡ true → count_at counts r q < 1280
  need_small counts t q member =
      let here = t.counted r q known (below_64 word q fits member) in
      let next = in_row q member in
      let most = mark_count-upto (record { needed = high; kept = fixed }) r q in
      let long = more.long in
      let few = t.few in
      omega arith

  pub need_added : (counts next : List ℕ) → IsTallied (record { needed = low; kept = fixed }) counts → ((a b : ℕ) → count_at next a b ≡ count_at counts a b + one_if ((a == r) && is_in word b)) → IsTallied (record { needed = high; kept = fixed }) next
  need_added counts next t raised = record {
    few = (let l = more.long in let f = t.few in omega arith);
    both = t.both ∙ sym more.long;
    counted = λ a b a_known b_known. raised a b ∙ ap (λ n. n + one_if ((a == r) && is_in word b)) (t.counted a b a_known b_known) ∙ sym (row a b);
  }

  -- a robot less in a set of those that need a claim
  pub need_some : (counts : List ℕ) → IsTallied (record { needed = high; kept = fixed }) counts → (q : ℕ) → is_in word q ≡ true → 0 < count_at counts r q
  need_some counts t q member =
      let here = t.counted r q known (below_64 word q fits member) in
      let next = in_row q member in
      omega arith

  pub need_dropped : (counts next : List ℕ) → IsTallied (record { needed = high; kept = fixed }) counts → ((a b : ℕ) → count_at next a b + one_if ((a == r) && is_in word b) ≡ count_at counts a b) → IsTallied (record { needed = low; kept = fixed }) next
  need_dropped counts next t lowered = record {
    few = (let l = more.long in let f = t.few in omega arith);
    both = t.both ∙ more.long;
    counted = λ a b a_known b_known. (let here = t.counted a b a_known b_known in let step = row a b in let less = lowered a b in omega arith);
  }

  module _ (both : length fixed ≡ length low) where
    column : (a b : ℕ) → mark_count (record { needed = fixed; kept = high }) a b ≡ mark_count (record { needed = fixed; kept = low }) a b + one_if ((b == r) && is_in word a)
    column a b = more_kept low high fixed c r more both a b ∙ ap (λ t. mark_count (record { needed = fixed; kept = low }) a b + one_if ((b == r) && t)) (sym (apart a))

    in_column : (q : ℕ) → is_in word q ≡ true → mark_count (record { needed = fixed; kept = high }) q r ≡ mark_count (record { needed = fixed; kept = low }) q r + 1
    in_column q member = one_less _ _ ((r == r) && is_in word q) (rw (eq-eqb r r refl) member) (column q r)

    -- a robot more in a set of those whose ends keep a claim
    pub keeper_small : (counts : List ℕ) → IsTallied (record { needed = fixed; kept = low }) counts → (q : ℕ) → is_in word q ≡ true → count_at counts q r < 1280
    keeper_small counts t q member =
        let here = t.counted q r (below_64 word q fits member) known in
        let next = in_column q member in
        let most = mark_count-upto (record { needed = fixed; kept = high }) q r in
        let few = t.few in
        omega arith

    pub keeper_added : (counts next : List ℕ) → IsTallied (record { needed = fixed; kept = low }) counts → ((a b : ℕ) → count_at next a b ≡ count_at counts a b + one_if ((b == r) && is_in word a)) → IsTallied (record { needed = fixed; kept = high }) next
    keeper_added counts next t raised = record {
      few = t.few;
      both = more.long ∙ t.both;
      counted = λ a b a_known b_known. raised a b ∙ ap (λ n. n + one_if ((b == r) && is_in word a)) (t.counted a b a_known b_known) ∙ sym (column a b);
    }

    -- a robot less in a set of those whose ends keep a claim
    pub keeper_some : (counts : List ℕ) → IsTallied (record { needed = fixed; kept = high }) counts → (q : ℕ) → is_in word q ≡ true → 0 < count_at counts q r
    keeper_some counts t q member =
        let here = t.counted q r (below_64 word q fits member) known in
        let next = in_column q member in
        omega arith

    pub keeper_dropped : (counts next : List ℕ) → IsTallied (record { needed = fixed; kept = high }) counts → ((a b : ℕ) → count_at next a b + one_if ((b == r) && is_in word a) ≡ count_at counts a b) → IsTallied (record { needed = fixed; kept = low }) next
    keeper_dropped counts next t lowered = record {
      few = t.few;
      both = sym more.long ∙ t.both;
      counted = λ a b a_known b_known. (let here = t.counted a b a_known b_known in let step = column a b in let less = lowered a b in omega arith);
    }
