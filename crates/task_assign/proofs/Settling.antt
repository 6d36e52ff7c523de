-- The least column of a row with which those before it keep theirs.
use Rattle.std.proofs.Common.{◌≡◌, ◌≢◌, ℕ, ◌+◌, ◌<◌, ◌≤◌, true, false, cond, inl, inr, refl, sym, ap, ◌∙◌, subst, arith}
use Rattle.std.proofs.lemmas.Bool.{cases_eq, cases_lt, cases_Bool, both_ways, false_from_ne_true}
use Rattle.task_assign.specs.Sums.{sum_below}
use Rattle.task_assign.specs.Squares.{Square}
use Rattle.task_assign.specs.Pairings.{IsPairing}
use Rattle.task_assign.specs.Bounds.{meets, AllMeet, ArePlaced, IsLeastAt}
use Rattle.task_assign.specs.Trees.{row_in, is_reached, IsTree, IsClosed, IsEnd, IsTurned}
use Rattle.task_assign.specs.declared.numbers.Numbers.{Numbers}
use Rattle.task_assign.specs.declared.tree.Tree.{Tree}
use Rattle.task_assign.specs.declared.tree.End.{End}
use Rattle.task_assign.proofs.SumLemmas.{terms_same}
use Rattle.task_assign.proofs.PairingLemmas.{find, row_of, sum_paired}

-- the row of a column, and n where there is none
holder_of : (ℕ → ℕ) → ℕ → ℕ → ℕ
holder_of p n j = elim (find p n j) [ inl found ↦ found.0 | inr none ↦ n ]

holder_at : (n : ℕ) (p : ℕ → ℕ) → IsPairing n p → (j i : ℕ) → i < n → j ≡ p i → holder_of p n j ≡ i
unfolding holder_of
holder_at n p a j i l e =
    elim (find p n j) as (λ f. elim f as (λ _. ℕ) [ inl found ↦ found.0 | inr none ↦ n ] ≡ i) [
      | inl found ↦ a.apart found.0 i found.1 l (found.2 ∙ e)
      | inr none ↦ absurd (none i l (sym e))
    ]

module _ (square : Square) (numbers : Numbers) (p : ℕ → ℕ) (t : Tree) (row holder : ℕ) (tree : IsTree t) (sized : t.size ≡ square.size) (begins : t.first ≡ row) (ends : t.last ≡ row) (root : row_in t 0 ≡ holder) (after : row < holder) where
  -- all that were reached are behind the row
  reached_behind : (i : ℕ) → i < square.size → is_reached t i ≡ true → row < i
  reached_behind i l reached =
      let place = tree.listed i (omega arith) reached in
      elim (cases_eq place.0 0) [
        | inl first ↦ let is : i ≡ holder = sym place.2 ∙ ap (row_in t) first ∙ root in omega arith
        | inr other ↦ let behind = tree.behind place.0 (omega arith) place.1 in let is : row_in t place.0 ≡ i = place.2 in omega arith
      ]

  root_reached : is_reached t holder ≡ true
  root_reached = let some = tree.some in subst (λ r. is_reached t r ≡ true) root (tree.marked 0 (omega arith))

  -- whether the row of the column was reached
  mark : ℕ → ℕ
  mark j = cond (is_reached t (holder_of p square.size j)) 1 0

  mark_at : IsPairing square.size p → (j i : ℕ) → i < square.size → j ≡ p i → mark j ≡ cond (is_reached t i) 1 0
  unfolding mark
  mark_at a j i l e = ap (λ k. cond (is_reached t k) 1 0) (holder_at square.size p a j i l e)

  module _ (placed : ArePlaced square numbers p 0) (closed : IsClosed (meets square numbers) p t) (q : ℕ → ℕ) (other : IsPairing square.size q) (all : AllMeet square numbers q) (same : (k : ℕ) → k < row → p k ≡ q k) where
    -- a row that was reached has a column of one that was
    reached_next : (i : ℕ) → i < square.size → is_reached t i ≡ true → mark (q i) ≡ 1
    reached_next i l reached =
        let b = row_of square.size p placed.pairing (q i) (other.below i l) in
        let known : b.0 < square.size = b.1 in
        let behind = reached_behind i l reached in
        let from : row ≤ b.0 = elim (cases_lt b.0 row) [
          | inl before ↦ let itself : b.0 ≡ i = other.apart b.0 i known l (sym (same b.0 before) ∙ b.2) in absurd (omega arith)
          | inr from ↦ from
        ] in
        let met : meets square numbers i (p b.0) ≡ true = subst (λ c. meets square numbers i c ≡ true) (sym b.2) (all i l) in
        let next = closed i (omega arith) reached b.0 (omega arith) (omega arith) met in
        mark_at placed.pairing (q i) b.0 known (sym b.2) ∙ ap (λ m. cond m 1 0) next.1

    mark_le : (i : ℕ) → i < square.size → mark (p i) ≤ mark (q i)
    mark_le i l =
        let here : mark (p i) ≡ cond (is_reached t i) 1 0 = mark_at placed.pairing (p i) i l refl in
        elim (cases_Bool (is_reached t i)) [
          | inl reached ↦ let one : ◌≡◌ {A = ℕ} (cond (is_reached t i) 1 0) 1 = ap (λ m. cond m 1 0) reached in let next = reached_next i l reached in omega arith
          | inr not_reached ↦ let none : ◌≡◌ {A = ℕ} (cond (is_reached t i) 1 0) 0 = ap (λ m. cond m 1 0) not_reached in omega arith
        ]

    -- where nothing leads back, no permutation has the row with that column
    pub closed_refuses : holder < square.size → q row ≢ p holder
    closed_refuses known e =
        let sums : sum_below square.size (λ i. mark (q i)) ≤ sum_below square.size (λ i. mark (p i)) = (let a = sum_paired square.size q mark other in let b = sum_paired square.size p mark placed.pairing in omega arith) in
        let here : row < square.size = omega arith in
        let equal : mark (p row) ≡ mark (q row) = terms_same square.size (λ i. mark (p i)) (λ i. mark (q i)) mark_le sums row here in
        let outside : is_reached t row ≡ false = false_from_ne_true (is_reached t row) (λ r. (let behind = reached_behind row here r in omega arith)) in
        let zero : mark (p row) ≡ 0 = mark_at placed.pairing (p row) row here refl ∙ ap (λ m. cond m 1 0) outside in
        let one : mark (q row) ≡ 1 = mark_at placed.pairing (q row) holder known e ∙ ap (λ m. cond m 1 0) root_reached in
        omega arith

  module _ (end : End) (is : IsEnd (meets square numbers) p t end) (q : ℕ → ℕ) (turned : IsTurned (meets square numbers) t end.row p q) where
    row_end : end.row ≡ row
    row_end = let a = is.from_first in let b = is.upto_last in omega arith

    pub turned_given : q row ≡ p holder
    turned_given = subst (λ r. q r ≡ p holder) row_end (turned.given (λ s. (let x : end.row ≡ row_in t 0 = s in let r = row_end in omega arith)) ∙ ap p root)

    pub turned_kept : (k : ℕ) → k < row → q k ≡ p k
    turned_kept k l = turned.kept k (omega arith) (λ s. (let x : k ≡ end.row = s in let r = row_end in omega arith)) (λ s. (let x : k ≡ row_in t 0 = s in omega arith))

    pub turned_placed : meets square numbers row (p holder) ≡ true → IsPairing square.size q → ArePlaced square numbers p 0 → ArePlaced square numbers q 0
    turned_placed met pairing placed = record {
      pairing = pairing;
      met = λ i from l. elim (cases_eq i end.row) [
        | inl here ↦ subst (λ r. meets square numbers r (q r) ≡ true) (sym (here ∙ row_end)) (subst (λ c. meets square numbers row c ≡ true) (sym turned_given) met)
        | inr off ↦ elim (turned.others i off) [
          | inl kept ↦ subst (λ c. meets square numbers i c ≡ true) (sym kept) (placed.met i from l)
          | inr new ↦ new
        ]
      ];
      free = λ i l. absurd (omega arith);
    }

-- a row whose column can't meet isn't given it
pub unmet_refuses : (square : Square) (numbers : Numbers) (p q : ℕ → ℕ) (row holder : ℕ) → row < square.size → meets square numbers row (p holder) ≡ false → AllMeet square numbers q → q row ≢ p holder
unmet_refuses square numbers p q row holder known unmet all e =
    both_ways (meets square numbers row (p holder)) unmet (subst (λ c. meets square numbers row c ≡ true) e (all row known))

-- each permutation that begins with the same columns has a column from this one on next
abbrev pub IsFrom : Square → Numbers → (ℕ → ℕ) → ℕ → ℕ → Type 0
IsFrom square numbers p row column =
    (q : ℕ → ℕ) → IsPairing square.size q → AllMeet square numbers q → ((k : ℕ) → k < row → p k ≡ q k) → column ≤ q row

-- a column of a row before isn't free
pub from_before : (square : Square) (numbers : Numbers) (p : ℕ → ℕ) (row column holder : ℕ) → row < square.size → holder < row → p holder ≡ column → IsFrom square numbers p row column → IsFrom square numbers p row (column + 1)
from_before square numbers p row column holder known before held h q a all same =
    let upto = h q a all same in
    let off : q row ≡ column → ⊥ = λ e. (let both : row ≡ holder = a.apart row holder known (omega arith) (e ∙ sym held ∙ same holder before) in omega arith) in
    omega arith

pub from_refused : (square : Square) (numbers : Numbers) (p : ℕ → ℕ) (row column holder : ℕ) → p holder ≡ column → ((q : ℕ → ℕ) → IsPairing square.size q → AllMeet square numbers q → ((k : ℕ) → k < row → p k ≡ q k) → q row ≢ p holder) → IsFrom square numbers p row column → IsFrom square numbers p row (column + 1)
from_refused square numbers p row column holder held refused h q a all same =
    let upto = h q a all same in
    let off : q row ≡ column → ⊥ = λ e. refused q a all same (e ∙ sym held) in
    omega arith

-- the column that was given is the least
pub least_given : (square : Square) (numbers : Numbers) (p next : ℕ → ℕ) (row column : ℕ) → next row ≡ column → ((k : ℕ) → k < row → next k ≡ p k) → IsFrom square numbers p row column → IsLeastAt square numbers next row
least_given square numbers p next row column given kept h q a all same =
    let upto = h q a all (λ k l. sym (kept k l) ∙ same k l) in
    omega arith

-- there is no column behind the last
pub least_none : (square : Square) (numbers : Numbers) (p : ℕ → ℕ) (row column : ℕ) → row < square.size → square.size ≤ column → IsFrom square numbers p row column → IsLeastAt square numbers p row
least_none square numbers p row column known past h q a all same =
    let upto = h q a all same in
    let below = a.below row known in
    absurd (omega arith)

-- what was least stays so where the columns up to it stay
pub least_kept : (square : Square) (numbers : Numbers) (p next : ℕ → ℕ) (row i : ℕ) → i < row → ((k : ℕ) → k < row → next k ≡ p k) → IsLeastAt square numbers p i → IsLeastAt square numbers next i
least_kept square numbers p next row i l kept h q a all same =
    let upto = h q a all (λ k m. sym (kept k (omega arith)) ∙ same k m) in
    let is = kept i l in
    omega arith

pub least_more : (square : Square) (numbers : Numbers) (p next : ℕ → ℕ) (row : ℕ) → ((k : ℕ) → k < row → next k ≡ p k) → IsLeastAt square numbers next row → ((i : ℕ) → i < row → IsLeastAt square numbers p i) → (i : ℕ) → i < row + 1 → IsLeastAt square numbers next i
least_more square numbers p next row kept here h i l =
    elim (cases_eq i row) [
      | inl same ↦ subst (λ k. IsLeastAt square numbers next k) (sym same) here
      | inr other ↦ least_kept square numbers p next row i (omega arith) kept (h i (omega arith))
    ]
