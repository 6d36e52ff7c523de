-- The assignment from permutation, bounds and values.
use Rattle.std.proofs.Common.{◌≡◌, ℕ, ◌+◌, ◌<◌, ◌≤◌, ℤ, pos, ◌+ℤ◌, ◌≤ℤ◌, sym, ap, ◌∙◌, subst, List, length, take, set, slice_index, inl, inr, arith, get_or-set_same, get_or-set_other, length-take-le}
use Rattle.std.proofs.lemmas.Bool.{cases_eq, eq-eqb, eqb-true}
use Rattle.std.proofs.lemmas.Int.{ints}
use Rattle.std.proofs.lemmas.List.{get_or-take}
use Rattle.task_assign.specs.Squares.{Square, cost_at}
use Rattle.task_assign.specs.Pairings.{IsPairing, total_of, AreNumbers, AreGreatest}
use Rattle.task_assign.specs.Assignments.{IsModest, AreGiven, Pairs, column_at, row_number_at, column_number_at, IsShown, IsAssignment}
use Rattle.task_assign.specs.Bounds.{column_in, raised_in, lowered_in, AreSound, ArePlaced, IsLeastAt}
use Rattle.task_assign.specs.Limits.{IsStable, AreLimits}
use Rattle.task_assign.specs.Finished.{int_at, AreLessFirst, AreLeftOver, IsSmallInt}
use Rattle.task_assign.specs.declared.numbers.Numbers.{Numbers}
use Rattle.task_assign.specs.declared.pairing.Pairing.{Pairing}
use Rattle.task_assign.proofs.SumLemmas.{sum_same}
use Rattle.task_assign.proofs.PairingLemmas.{row_of, AreBounds, bounds_least, bounds_met}

-- the values less the first are small
pub small_rows : (square : Square) (numbers : Numbers) (column : ℕ → ℕ) (values : List ℕ) (rows : List ℤ) → 0 < square.size → AreLimits square numbers column (slice_index values) → AreLessFirst square.size values rows → (i : ℕ) → i < square.size → IsSmallInt (int_at rows i)
small_rows square numbers column values rows some limits is i l =
    let first = limits.upto 0 some in
    let here = limits.upto i l in
    let e = is i l in
    record { low = omega (arith, ints); high = omega (arith, ints) }

-- one more column has what its pair's cost leaves
pub left_over_more : (square : Square) (p : ℕ → ℕ) (rows columns : List ℤ) (at : ℕ) (column : ℤ) → IsPairing square.size p → at < square.size → p at < length columns → int_at rows at +ℤ column ≡ pos (cost_at square at (p at)) → AreLeftOver square p rows columns at → AreLeftOver square p rows (set columns (p at) column) (at + 1)
left_over_more square p rows columns at column a known room is h i l =
    elim (cases_eq i at) [
      | inl same ↦ subst (λ k. int_at rows k +ℤ int_at (set columns (p at) column) (p k) ≡ pos (cost_at square k (p k))) (sym same) (subst (λ z. int_at rows at +ℤ z ≡ pos (cost_at square at (p at))) (sym (get_or-set_same {A = ℤ} columns (p at) column (pos 0) room)) is)
      | inr other ↦
          let apart : p i ≡ p at → ⊥ = λ e. other (a.apart i at (omega arith) known e) in
          subst (λ z. int_at rows i +ℤ z ≡ pos (cost_at square i (p i))) (sym (get_or-set_other {A = ℤ} columns (p at) (p i) column (pos 0) apart)) (h i (omega arith))
    ]

module _ (square : Square) (numbers : Numbers) (p : ℕ → ℕ) (sound : AreSound square numbers) (placed : ArePlaced square numbers p 0) where
  bounds : AreBounds square.size (cost_at square) p (raised_in numbers) (lowered_in numbers)
  bounds = record { within = sound.within; met = λ i l. eqb-true (raised_in numbers i) (cost_at square i (p i) + lowered_in numbers (p i)) (placed.met i (omega arith) l) }

  module _ (values : List ℕ) (rows columns : List ℤ) (some : 0 < square.size) (limits : AreLimits square numbers p (slice_index values)) (stable : (i : ℕ) → i < square.size → IsStable square p (slice_index values) i) (row_is : AreLessFirst square.size values rows) (column_is : AreLeftOver square p rows columns square.size) where
    within_pair : (i k : ℕ) → i < square.size → k < square.size → (int_at rows i +ℤ int_at columns (p k)) ≤ℤ pos (cost_at square i (p k))
    within_pair i k l m =
        let a = row_is i l in
        let b = row_is k m in
        let c = column_is k m in
        let s = stable i l k m in
        omega (arith, ints)

    found_numbers : AreNumbers square.size (cost_at square) p (int_at rows) (int_at columns)
    found_numbers = record {
      within = λ i j l m. (let r = row_of square.size p placed.pairing j m in subst (λ x. (int_at rows i +ℤ int_at columns x) ≤ℤ pos (cost_at square i x)) r.2 (within_pair i r.0 l r.1));
      met = λ i l. column_is i l;
    }

    modest_row : (i : ℕ) → i < square.size → IsModest (int_at rows i)
    modest_row i l =
        let s = small_rows square numbers p values rows some limits row_is i l in
        let low = s.low in
        let high = s.high in
        record { low = omega (arith, ints); high = omega (arith, ints) }

    modest_pair : (k : ℕ) → k < square.size → IsModest (int_at columns (p k))
    modest_pair k l =
        let s = small_rows square numbers p values rows some limits row_is k l in
        let low = s.low in
        let high = s.high in
        let e = column_is k l in
        let cost = sound.costs k (p k) in
        record { low = omega (arith, ints); high = omega (arith, ints) }

    modest_column : (j : ℕ) → j < square.size → IsModest (int_at columns j)
    modest_column j m = let r = row_of square.size p placed.pairing j m in subst (λ x. IsModest (int_at columns x)) r.2 (modest_pair r.0 r.1)

    -- the same in lists that are just as long as the square
    module _ (pairs : Pairs) (sized : length pairs.columns ≡ square.size) (same : (i : ℕ) → i < square.size → column_at pairs i ≡ p i) (same_rows : (i : ℕ) → i < square.size → row_number_at pairs i ≡ int_at rows i) (same_columns : (j : ℕ) → j < square.size → column_number_at pairs j ≡ int_at columns j) where
      pub finished_given : square.size ≤ 64 → length pairs.rows ≡ square.size → length pairs.column_numbers ≡ square.size → AreGiven pairs.columns pairs.rows pairs.column_numbers
      finished_given few long_rows long_columns = record {
        some = omega arith;
        few = omega arith;
        as_many_rows = omega arith;
        as_many_columns = omega arith;
        modest_rows = λ i l. subst (λ z. IsModest z) (sym (same_rows i (omega arith))) (modest_row i (omega arith));
        modest_columns = λ j l. subst (λ z. IsModest z) (sym (same_columns j (omega arith))) (modest_column j (omega arith));
      }

      same_total : total_of square.size (cost_at square) (column_at pairs) ≡ total_of square.size (cost_at square) p
      same_total = sum_same square.size (λ i. cost_at square i (column_at pairs i)) (λ i. cost_at square i (p i)) (λ i l. ap (λ j. cost_at square i j) (same i l))

      finished_pairing : IsPairing square.size (column_at pairs)
      finished_pairing = record {
        below = λ i l. subst (λ j. j < square.size) (sym (same i l)) (placed.pairing.below i l);
        apart = λ i k l m e. placed.pairing.apart i k l m (sym (same i l) ∙ e ∙ same k m);
      }

      finished_numbers : AreNumbers square.size (cost_at square) (column_at pairs) (row_number_at pairs) (column_number_at pairs)
      finished_numbers = record {
        within = λ i j l m. (let a = same_rows i l in let b = same_columns j m in let w = found_numbers.within i j l m in omega (arith, ints));
        met = λ i l. subst (λ j. row_number_at pairs i +ℤ column_number_at pairs j ≡ pos (cost_at square i j)) (sym (same i l))
            (let a = same_rows i l in let b = same_columns (p i) (placed.pairing.below i l) in let w = found_numbers.met i l in omega (arith, ints));
      }

      pub finished_shown : pairs.total ≡ total_of square.size (cost_at square) p → IsShown square pairs
      finished_shown total = record {
        sized = sized;
        pairing = finished_pairing;
        numbers = finished_numbers;
        summed = total ∙ sym same_total;
      }

      finished_greatest : AreGreatest square.size (cost_at square) (column_at pairs) (row_number_at pairs)
      finished_greatest other others zero n i l =
          let old : AreNumbers square.size (cost_at square) p other others = record {
            within = n.within;
            met = λ k m. subst (λ j. other k +ℤ others j ≡ pos (cost_at square k j)) (same k m) (n.met k m);
          } in
          let limit = limits.limit i l other others zero old in
          let begins : slice_index values 0 ≡ raised_in numbers 0 = limits.begins in
          let a = same_rows i l in
          let b = row_is i l in
          omega (arith, ints)

      pub finished : pairs.total ≡ total_of square.size (cost_at square) p → ((i : ℕ) → i < square.size → IsLeastAt square numbers p i) → IsAssignment square pairs
      finished total least = record {
        shown = finished_shown total;
        least = λ q a. (let le = bounds_least square.size (cost_at square) p (raised_in numbers) (lowered_in numbers) placed.pairing bounds q a in let t = same_total in omega arith);
        first = λ q a e i l prefix.
            let equal : total_of square.size (cost_at square) q ≤ total_of square.size (cost_at square) p = (let t = same_total in omega arith) in
            let met = bounds_met square.size (cost_at square) p (raised_in numbers) (lowered_in numbers) placed.pairing bounds q a equal in
            let upto = least i l q a (λ k m. eq-eqb (raised_in numbers k) (cost_at square k (q k) + lowered_in numbers (q k)) (met k m)) (λ k m. sym (same k (omega arith)) ∙ prefix k m) in
            let is = same i l in
            omega arith;
        begins = (let a = same_rows 0 some in let b = row_is 0 some in omega (arith, ints));
        greatest = finished_greatest;
      }

-- the first so many of a list
abbrev pub sliced : ℕ → List ℕ → List ℤ → List ℤ → ℕ → Pairs
sliced n columns rows column_numbers total = record { columns = take n columns; rows = take n rows; column_numbers = take n column_numbers; total = total }

module _ (square : Square) (numbers : Numbers) (pairing : Pairing) (sound : AreSound square numbers) (placed : ArePlaced square numbers (column_in pairing) 0) (values : List ℕ) (rows columns : List ℤ) (some : 0 < square.size) (few : square.size ≤ 64) (limits : AreLimits square numbers (column_in pairing) (slice_index values)) (stable : (i : ℕ) → i < square.size → IsStable square (column_in pairing) (slice_index values) i) (n total : ℕ) (sized : n ≡ square.size) (row_is : AreLessFirst n values rows) (column_is : AreLeftOver square (column_in pairing) rows columns square.size) (long : length pairing.columns ≡ 64) (long_rows : length rows ≡ 64) (long_columns : length columns ≡ 64) where
  here : Pairs
  here = sliced n pairing.columns rows columns total

  rows_are : AreLessFirst square.size values rows
  rows_are i l = row_is i (omega arith)

  sliced_size : length here.columns ≡ square.size
  unfolding here
  sliced_size = length-take-le {A = ℕ} n pairing.columns (omega arith) ∙ sized

  sliced_rows : length here.rows ≡ square.size
  unfolding here
  sliced_rows = length-take-le {A = ℤ} n rows (omega arith) ∙ sized

  sliced_columns : length here.column_numbers ≡ square.size
  unfolding here
  sliced_columns = length-take-le {A = ℤ} n columns (omega arith) ∙ sized

  same_column : (i : ℕ) → i < square.size → column_at here i ≡ column_in pairing i
  unfolding here
  same_column i l = get_or-take {A = ℕ} n pairing.columns i 0 (omega arith)

  same_row : (i : ℕ) → i < square.size → row_number_at here i ≡ int_at rows i
  unfolding here
  same_row i l = get_or-take {A = ℤ} n rows i (pos 0) (omega arith)

  same_number : (j : ℕ) → j < square.size → column_number_at here j ≡ int_at columns j
  unfolding here
  same_number j l = get_or-take {A = ℤ} n columns j (pos 0) (omega arith)

  pub sliced_given : AreGiven (take n pairing.columns) (take n rows) (take n columns)
  unfolding here
  sliced_given = finished_given square numbers (column_in pairing) sound placed values rows columns some limits stable rows_are column_is here sliced_size same_column same_row same_number few sliced_rows sliced_columns

  pub sliced_shown : total ≡ total_of square.size (cost_at square) (column_in pairing) → IsShown square (sliced n pairing.columns rows columns total)
  unfolding here
  sliced_shown is = finished_shown square numbers (column_in pairing) sound placed values rows columns some limits stable rows_are column_is here sliced_size same_column same_row same_number is

  pub sliced_assignment : total ≡ total_of square.size (cost_at square) (column_in pairing) → ((i : ℕ) → i < square.size → IsLeastAt square numbers (column_in pairing) i) → IsAssignment square (sliced n pairing.columns rows columns total)
  unfolding here
  sliced_assignment is least = finished square numbers (column_in pairing) sound placed values rows columns some limits stable rows_are column_is here sliced_size same_column same_row same_number is least
