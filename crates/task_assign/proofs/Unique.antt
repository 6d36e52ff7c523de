-- There is only one assignment of a square.
use Rattle.std.proofs.Common.{◌≡◌, ℕ, zero, suc, ◌<◌, ◌≤◌, pos, ◌+ℤ◌, sym, ◌∙◌, subst, inl, inr, arith}
use Rattle.std.proofs.lemmas.Bool.{cases_eq}
use Rattle.std.proofs.lemmas.Int.{ints}
use Rattle.task_assign.specs.Squares.{Square, cost_at}
use Rattle.task_assign.specs.Pairings.{total_of, AreNumbers}
use Rattle.task_assign.specs.Assignments.{Pairs, column_at, row_number_at, column_number_at, IsAssignment}
use Rattle.task_assign.proofs.PairingLemmas.{row_of}

module _ (square : Square) (a b : Pairs) (is_a : IsAssignment square a) (is_b : IsAssignment square b) where
  totals_same : total_of square.size (cost_at square) (column_at a) ≡ total_of square.size (cost_at square) (column_at b)
  totals_same =
      let below = is_a.least (column_at b) is_b.shown.pairing in
      let above = is_b.least (column_at a) is_a.shown.pairing in
      omega arith

  columns_before : (n : ℕ) → n ≤ square.size → (k : ℕ) → k < n → column_at a k ≡ column_at b k
  columns_before zero l k m = absurd (omega arith)
  columns_before (suc n) l k m =
      let before : (i : ℕ) → i < n → column_at a i ≡ column_at b i = columns_before n (omega arith) in
      elim (cases_eq k n) [
        | inl same ↦
            let below = is_a.first (column_at b) is_b.shown.pairing (sym totals_same) n (omega arith) before in
            let above = is_b.first (column_at a) is_a.shown.pairing totals_same n (omega arith) (λ i h. sym (before i h)) in
            subst (λ i. column_at a i ≡ column_at b i) (sym same) (omega arith)
        | inr other ↦ before k (omega arith)
      ]

  pub columns_same : (i : ℕ) → i < square.size → column_at a i ≡ column_at b i
  columns_same i l = columns_before square.size (omega arith) i l

  pub total_same : a.total ≡ b.total
  total_same = is_a.shown.summed ∙ totals_same ∙ sym is_b.shown.summed

  numbers_of_b : AreNumbers square.size (cost_at square) (column_at a) (row_number_at b) (column_number_at b)
  numbers_of_b = record {
    within = is_b.shown.numbers.within;
    met = λ i l. subst (λ j. row_number_at b i +ℤ column_number_at b j ≡ pos (cost_at square i j)) (sym (columns_same i l)) (is_b.shown.numbers.met i l);
  }

  numbers_of_a : AreNumbers square.size (cost_at square) (column_at b) (row_number_at a) (column_number_at a)
  numbers_of_a = record {
    within = is_a.shown.numbers.within;
    met = λ i l. subst (λ j. row_number_at a i +ℤ column_number_at a j ≡ pos (cost_at square i j)) (columns_same i l) (is_a.shown.numbers.met i l);
  }

  pub rows_same : (i : ℕ) → i < square.size → row_number_at a i ≡ row_number_at b i
  rows_same i l =
      let below = is_a.greatest (row_number_at b) (column_number_at b) is_b.begins numbers_of_b i l in
      let above = is_b.greatest (row_number_at a) (column_number_at a) is_a.begins numbers_of_a i l in
      omega (arith, ints)

  pub column_numbers_same : (j : ℕ) → j < square.size → column_number_at a j ≡ column_number_at b j
  column_numbers_same j l =
      let r = row_of square.size (column_at a) is_a.shown.pairing j l in
      let x = is_a.shown.numbers.met r.0 r.1 in
      let y = numbers_of_b.met r.0 r.1 in
      let z = rows_same r.0 r.1 in
      subst (λ k. column_number_at a k ≡ column_number_at b k) r.2 (omega (arith, ints))
