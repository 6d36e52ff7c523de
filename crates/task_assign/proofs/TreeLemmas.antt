-- Trees of rows, and what one more row makes of them.
use Rattle.std.proofs.Common.{◌≡◌, ℕ, suc, ◌+◌, ◌<◌, ◌≤◌, Bool, true, false, inl, inr, refl, sym, ap, ◌∙◌, subst, List, length, get_or, set, replicate, arith, get_or-set_same, get_or-set_other, length-set}
use Rattle.std.proofs.lemmas.Bool.{cases_eq, cases_lt, both_ways}
use Rattle.std.proofs.lemmas.List.{get_or-replicate, get_or_past, length-replicate}
use Rattle.task_assign.specs.Trees.{row_in, from_in, is_reached, IsTree, AreLinked, IsGrown}
use Rattle.task_assign.specs.declared.tree.Tree.{Tree}
use Rattle.task_assign.proofs.PairingLemmas.{apart_le, instead, instead_at, instead_off}

unmarked : (n i : ℕ) → get_or {A = Bool} (replicate n false) i false ≡ false
unmarked n i =
    elim (cases_lt i n) [
      | inl below ↦ get_or-replicate n i false false below
      | inr past ↦ let marks : List Bool = replicate n false in get_or_past marks i false (omega (arith, length-replicate {A = Bool} n false))
    ]

-- one mark alone
pub one_marked : (n row b : ℕ) → get_or {A = Bool} (set (replicate n false) row true) b false ≡ true → b ≡ row
one_marked n row b h =
    elim (cases_eq b row) [
      | inl same ↦ same
      | inr other ↦ let marks : List Bool = replicate n false in absurd (both_ways (get_or marks b false) (unmarked n b) (sym (get_or-set_other marks row b true false other) ∙ h))
    ]

-- a row alone
pub tree_alone :
    (size first last row : ℕ) (rows from : List ℕ) (reached : List Bool) →
    length rows ≡ 64 →
    length from ≡ 64 →
    length reached ≡ 64 →
    size ≤ 64 →
    row < size →
    last < size →
    get_or rows 0 0 ≡ row →
    get_or reached row false ≡ true →
    ((b : ℕ) → get_or reached b false ≡ true → b ≡ row) →
    IsTree (record { size = size; first = first; last = last; rows = rows; from = from; count = 1; reached = reached })
tree_alone size first last row rows from reached lr lf lm few known last_known root marked alone = record {
  long_rows = lr;
  long_from = lf;
  long_reached = lm;
  few = few;
  last_known = last_known;
  some = omega arith;
  known = λ q l. let none : 0 ≡ q = omega arith in subst (λ k. get_or rows k 0 < size) none (subst (λ r. r < size) (sym root) known);
  apart = λ q r l m e. omega arith;
  behind = λ q l m. absurd (omega arith);
  before = λ q l m. absurd (omega arith);
  marked = λ q l. let none : 0 ≡ q = omega arith in subst (λ k. get_or reached (get_or rows k 0) false ≡ true) none (subst (λ r. get_or reached r false ≡ true) (sym root) marked);
  listed = λ b l m. (0, omega arith, root ∙ sym (alone b m));
}

-- there are no more rows reached than there are
pub count_upto : (t : Tree) → IsTree t → t.count ≤ t.size
count_upto t a = apart_le t.count t.size (row_in t) (record { below = a.known; apart = a.apart })

-- and fewer where one wasn't
pub count_below : (t : Tree) → IsTree t → (b : ℕ) → b < t.size → is_reached t b ≡ false → t.count < t.size
count_below t a b known free =
    let below : (i : ℕ) → i < suc t.count → instead (row_in t) t.count b i < t.size = λ i l. elim (cases_eq i t.count) [
      | inl same ↦ subst (λ r. r < t.size) (sym (instead_at (row_in t) t.count b i same)) known
      | inr other ↦ subst (λ r. r < t.size) (sym (instead_off (row_in t) t.count b i other)) (a.known i (omega arith))
    ] in
    let unlike : (i : ℕ) → i < t.count → row_in t i ≡ b → ⊥ = λ i l e. both_ways (is_reached t b) free (subst (λ r. is_reached t r ≡ true) e (a.marked i l)) in
    let apart : (i k : ℕ) → i < suc t.count → k < suc t.count → instead (row_in t) t.count b i ≡ instead (row_in t) t.count b k → i ≡ k = λ i k l m e. elim (cases_eq i t.count) [
      | inl first ↦ elim (cases_eq k t.count) [
        | inl second ↦ omega arith
        | inr off ↦ absurd (unlike k (omega arith) (sym (instead_off (row_in t) t.count b k off) ∙ sym e ∙ instead_at (row_in t) t.count b i first))
      ]
      | inr off ↦ elim (cases_eq k t.count) [
        | inl second ↦ absurd (unlike i (omega arith) (sym (instead_off (row_in t) t.count b i off) ∙ e ∙ instead_at (row_in t) t.count b k second))
        | inr neither ↦ a.apart i k (omega arith) (omega arith) (sym (instead_off (row_in t) t.count b i off) ∙ e ∙ instead_off (row_in t) t.count b k neither)
      ]
    ] in
    let fewer : suc t.count ≤ t.size = apart_le (suc t.count) t.size (instead (row_in t) t.count b) (record { below = below; apart = apart }) in
    omega arith

-- the tree with one more row
abbrev pub pushed : Tree → ℕ → ℕ → Tree
pushed t place row = record { size = t.size; first = t.first; last = t.last; rows = set t.rows t.count row; from = set t.from t.count place; count = t.count + 1; reached = set t.reached row true }

module _ (t : Tree) (a : IsTree t) (place row : ℕ) (known : row < t.size) (behind : t.last < row) (free : is_reached t row ≡ false) (placed : place < t.count) where
  pub room : t.count < 64
  room = let b : t.count < t.size = count_below t a row known free in let f = a.few in omega arith

  row_same : row_in (pushed t place row) t.count ≡ row
  row_same = get_or-set_same t.rows t.count row 0 (let r = room in let l = a.long_rows in omega arith)

  row_kept : (q : ℕ) → q < t.count → row_in (pushed t place row) q ≡ row_in t q
  row_kept q l = get_or-set_other t.rows t.count q row 0 (omega arith)

  from_same : from_in (pushed t place row) t.count ≡ place
  from_same = get_or-set_same t.from t.count place 0 (let r = room in let l = a.long_from in omega arith)

  from_kept : (q : ℕ) → q < t.count → from_in (pushed t place row) q ≡ from_in t q
  from_kept q l = get_or-set_other t.from t.count q place 0 (omega arith)

  pub reached_same : is_reached (pushed t place row) row ≡ true
  reached_same = get_or-set_same t.reached row true false (let f = a.few in let l = a.long_reached in omega arith)

  reached_kept : (b : ℕ) → is_reached t b ≡ true → is_reached (pushed t place row) b ≡ true
  reached_kept b h =
      elim (cases_eq b row) [
        | inl same ↦ subst (λ r. is_reached (pushed t place row) r ≡ true) (sym same) reached_same
        | inr other ↦ get_or-set_other t.reached row b true false other ∙ h
      ]

  unlike : (i : ℕ) → i < t.count → row_in t i ≡ row → ⊥
  unlike i l e = both_ways (is_reached t row) free (subst (λ r. is_reached t r ≡ true) e (a.marked i l))

  pub pushed_tree : IsTree (pushed t place row)
  pushed_tree = record {
    long_rows = length-set t.rows t.count row ∙ a.long_rows;
    long_from = length-set t.from t.count place ∙ a.long_from;
    long_reached = length-set t.reached row true ∙ a.long_reached;
    few = a.few;
    last_known = a.last_known;
    some = omega arith;
    known = λ q l. elim (cases_eq q t.count) [
      | inl same ↦ subst (λ k. row_in (pushed t place row) k < t.size) (sym same) (subst (λ r. r < t.size) (sym row_same) known)
      | inr other ↦ subst (λ r. r < t.size) (sym (row_kept q (omega arith))) (a.known q (omega arith))
    ];
    apart = λ q r l m e. elim (cases_eq q t.count) [
      | inl first ↦ elim (cases_eq r t.count) [
        | inl second ↦ first ∙ sym second
        | inr other ↦ absurd (unlike r (omega arith) (sym (row_kept r (omega arith)) ∙ sym e ∙ ap (row_in (pushed t place row)) first ∙ row_same))
      ]
      | inr other ↦ elim (cases_eq r t.count) [
        | inl second ↦ absurd (unlike q (omega arith) (sym (row_kept q (omega arith)) ∙ e ∙ ap (row_in (pushed t place row)) second ∙ row_same))
        | inr neither ↦ a.apart q r (omega arith) (omega arith) (sym (row_kept q (omega arith)) ∙ e ∙ row_kept r (omega arith))
      ]
    ];
    behind = λ q l m. elim (cases_eq q t.count) [
      | inl same ↦ subst (λ k. t.last < row_in (pushed t place row) k) (sym same) (subst (λ r. t.last < r) (sym row_same) behind)
      | inr other ↦ subst (λ r. t.last < r) (sym (row_kept q (omega arith))) (a.behind q l (omega arith))
    ];
    before = λ q l m. elim (cases_eq q t.count) [
      | inl same ↦ subst (λ k. from_in (pushed t place row) k < k) (sym same) (subst (λ r. r < t.count) (sym from_same) placed)
      | inr other ↦ subst (λ r. r < q) (sym (from_kept q (omega arith))) (a.before q l (omega arith))
    ];
    marked = λ q l. elim (cases_eq q t.count) [
      | inl same ↦ subst (λ k. is_reached (pushed t place row) (row_in (pushed t place row) k) ≡ true) (sym same) (subst (λ r. is_reached (pushed t place row) r ≡ true) (sym row_same) reached_same)
      | inr other ↦ subst (λ r. is_reached (pushed t place row) r ≡ true) (sym (row_kept q (omega arith))) (reached_kept (row_in t q) (a.marked q (omega arith)))
    ];
    listed = λ b l h. elim (cases_eq b row) [
      | inl same ↦ (t.count, omega arith, row_same ∙ sym same)
      | inr other ↦
          let old = a.listed b l (sym (get_or-set_other t.reached row b true false other) ∙ h) in
          let there : old.0 < t.count = old.1 in
          (old.0, omega arith, row_kept old.0 there ∙ old.2)
    ];
  }

  pub pushed_grown : IsGrown t (pushed t place row)
  pushed_grown = record {
    first_kept = refl;
    last_kept = refl;
    size_kept = refl;
    longer = omega arith;
    rows_kept = row_kept;
    reached_kept = reached_kept;
  }

  pub pushed_linked : (tight : ℕ → ℕ → Bool) (column : ℕ → ℕ) → AreLinked tight column t → tight (row_in t place) (column row) ≡ true → AreLinked tight column (pushed t place row)
  pushed_linked tight column linked meets q l m =
      elim (cases_eq q t.count) [
        | inl same ↦
            subst (λ k. tight (row_in (pushed t place row) (from_in (pushed t place row) k)) (column (row_in (pushed t place row) k)) ≡ true) (sym same)
            (subst (λ r. tight (row_in (pushed t place row) (from_in (pushed t place row) t.count)) (column r) ≡ true) (sym row_same)
            (subst (λ f. tight (row_in (pushed t place row) f) (column row) ≡ true) (sym from_same)
            (subst (λ r. tight r (column row) ≡ true) (sym (row_kept place placed)) meets)))
        | inr other ↦
            let here : q < t.count = omega arith in
            let earlier : from_in t q < q = a.before q l here in
            subst (λ r. tight (row_in (pushed t place row) (from_in (pushed t place row) q)) (column r) ≡ true) (sym (row_kept q here))
            (subst (λ f. tight (row_in (pushed t place row) f) (column (row_in t q)) ≡ true) (sym (from_kept q here))
            (subst (λ r. tight r (column (row_in t q)) ≡ true) (sym (row_kept (from_in t q) (omega arith))) (linked q l here)))
      ]

pub grown_itself : (t : Tree) → IsGrown t t
grown_itself t = record {
  first_kept = refl;
  last_kept = refl;
  size_kept = refl;
  longer = omega arith;
  rows_kept = λ q l. refl;
  reached_kept = λ b h. h;
}

pub grown_more : (a b c : Tree) → IsGrown a b → IsGrown b c → IsGrown a c
grown_more a b c f g = record {
  first_kept = g.first_kept ∙ f.first_kept;
  last_kept = g.last_kept ∙ f.last_kept;
  size_kept = g.size_kept ∙ f.size_kept;
  longer = let x = f.longer in let y = g.longer in omega arith;
  rows_kept = λ q l. g.rows_kept q (let x = f.longer in omega arith) ∙ f.rows_kept q l;
  reached_kept = λ k h. g.reached_kept k (f.reached_kept k h);
}
