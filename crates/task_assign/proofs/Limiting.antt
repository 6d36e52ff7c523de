-- Numbers of the rows that are lowered to what the others allow.
use Rattle.std.proofs.Common.{◌≡◌, ◌≢◌, ℕ, ◌+◌, ◌<◌, ◌≤◌, min, Bool, true, false, cond, eqb, pos, ◌+ℤ◌, ◌≤ℤ◌, inl, inr, refl, sym, ap, ◌∙◌, subst, arith}
use Rattle.std.proofs.lemmas.Bool.{cases_eq, cases_lt, both_ways, eq-eqb, ne_eqb, eqb-true}
use Rattle.std.proofs.lemmas.Int.{ints}
use Rattle.task_assign.specs.Sums.{sum_below}
use Rattle.task_assign.specs.Squares.{Square, cost_at}
use Rattle.task_assign.specs.Bounds.{raised_in, lowered_in, AreSound, ArePlaced}
use Rattle.task_assign.specs.Limits.{IsStable, IsLimit, AreLimits}
use Rattle.task_assign.specs.declared.numbers.Numbers.{Numbers}
use Rattle.task_assign.proofs.SumLemmas.{sum_same, sum_changed}

-- a sum of which one term differs
pub sum_instead : (n row x : ℕ) (v w : ℕ → ℕ) → row < n → w row ≡ x → ((i : ℕ) → i ≢ row → w i ≡ v i) → sum_below n w + v row ≡ sum_below n v + x
sum_instead n row x v w known here others =
    let changed : sum_below n (λ i. cond (eqb i row) x (v i)) + v row ≡ sum_below n v + x = sum_changed n row x v known in
    let same : sum_below n w ≡ sum_below n (λ i. cond (eqb i row) x (v i)) = sum_same n w (λ i. cond (eqb i row) x (v i)) (λ i l. elim (cases_eq i row) [
      | inl at ↦ ap w at ∙ here ∙ sym (ap (λ b. cond b x (v i)) (eq-eqb i row at))
      | inr off ↦ others i off ∙ sym (ap (λ b. cond b x (v i)) (ne_eqb i row off))
    ]) in
    omega arith

-- a value that the first rows allow the row
pub record IsAllowed (square : Square) (numbers : Numbers) (column value : ℕ → ℕ) (row least at : ℕ) : Type 0 where
  pub upto : least ≤ value row
  pub above : raised_in numbers row ≤ least
  pub attained : (k : ℕ) × (k < square.size) × (least + cost_at square k (column k) ≡ value k + cost_at square row (column k))
  pub stable : (k : ℕ) → k < at → least + cost_at square k (column k) ≤ value k + cost_at square row (column k)

-- some rows were lowered to what the others allow
pub record IsLowering (square : Square) (numbers : Numbers) (column before now : ℕ → ℕ) (changed : Bool) (at : ℕ) : Type 0 where
  pub limits : AreLimits square numbers column now
  pub less : changed ≡ true → sum_below square.size now < sum_below square.size before
  pub upto : sum_below square.size now ≤ sum_below square.size before
  pub stable : changed ≡ false → (i : ℕ) → i < at → IsStable square column now i

module _ (square : Square) (numbers : Numbers) (column : ℕ → ℕ) (sound : AreSound square numbers) (placed : ArePlaced square numbers column 0) where
  row_met : (i : ℕ) → i < square.size → raised_in numbers i ≡ cost_at square i (column i) + lowered_in numbers (column i)
  row_met i known = eqb-true (raised_in numbers i) (cost_at square i (column i) + lowered_in numbers (column i)) (placed.met i (omega arith) known)

  -- no row asks for less than the number that was raised
  pub raised_fits : (value : ℕ → ℕ) → AreLimits square numbers column value → (row k : ℕ) → row < square.size → k < square.size → raised_in numbers row + cost_at square k (column k) ≤ value k + cost_at square row (column k)
  raised_fits value limits row k lr lk =
      let fits = sound.within row (column k) lr (placed.pairing.below k lk) in
      let met = row_met k lk in
      let above = limits.above k lk in
      omega arith

  pub allowed_first : (value : ℕ → ℕ) → AreLimits square numbers column value → (row : ℕ) → row < square.size → IsAllowed square numbers column value row (value row) 0
  allowed_first value limits row known = record {
    upto = omega arith;
    above = limits.above row known;
    attained = (row, known, refl);
    stable = λ k l. absurd (omega arith);
  }

  pub allowed_more : (value : ℕ → ℕ) → AreLimits square numbers column value → (row least at x : ℕ) → row < square.size → at < square.size → x + cost_at square at (column at) ≡ value at + cost_at square row (column at) → IsAllowed square numbers column value row least at → IsAllowed square numbers column value row (min least x) (at + 1)
  allowed_more value limits row least at x lr la is h =
      let fits = raised_fits value limits row at lr la in
      let upto = h.upto in
      let above = h.above in
      record {
        upto = omega arith;
        above = omega arith;
        attained = elim (cases_lt x least) [
          | inl less ↦ let taken : min least x ≡ x = omega arith in (at, la, ap (λ m. m + cost_at square at (column at)) taken ∙ is)
          | inr not_less ↦ let taken : min least x ≡ least = omega arith in (h.attained.0, h.attained.1, ap (λ m. m + cost_at square h.attained.0 (column h.attained.0)) taken ∙ h.attained.2)
        ];
        stable = λ k l. elim (cases_eq k at) [
          | inl same ↦ subst (λ j. min least x + cost_at square j (column j) ≤ value j + cost_at square row (column j)) (sym same) (omega arith)
          | inr other ↦ let old = h.stable k (omega arith) in omega arith
        ];
      }

  pub values_first : (value : ℕ → ℕ) → 0 < square.size → ((i : ℕ) → i < square.size → value i ≡ cost_at square i (column 0) + lowered_in numbers (column 0)) → AreLimits square numbers column value
  values_first value some is =
      let begins : value 0 ≡ raised_in numbers 0 = (let a = is 0 some in let b = row_met 0 some in omega arith) in
      record {
        begins = begins;
        above = λ i l. (let a = is i l in let b = sound.within i (column 0) l (placed.pairing.below 0 some) in omega arith);
        upto = λ i l. (let a = is i l in let b = sound.costs i (column 0) in let c = sound.bounded (column 0) (placed.pairing.below 0 some) in omega arith);
        limit = λ i l other columns zero numbers'.
            let a = is i l in
            let b = is 0 some in
            let w : (other i +ℤ columns (column 0)) ≤ℤ pos (cost_at square i (column 0)) = numbers'.within i (column 0) l (placed.pairing.below 0 some) in
            let m : other 0 +ℤ columns (column 0) ≡ pos (cost_at square 0 (column 0)) = numbers'.met 0 some in
            omega (arith, ints);
      }

  -- the values with one lowered to what the others allow
  pub limits_more : (value next : ℕ → ℕ) → AreLimits square numbers column value → (row x : ℕ) → row < square.size → IsAllowed square numbers column value row x square.size → next row ≡ x → ((i : ℕ) → i ≢ row → next i ≡ value i) → AreLimits square numbers column next
  limits_more value next limits row x known allowed here others = record {
    begins = elim (cases_eq 0 row) [
      | inl at ↦
          let begins : value row ≡ raised_in numbers 0 = ap value (sym at) ∙ limits.begins in
          let above : raised_in numbers 0 ≤ x = subst (λ r. raised_in numbers r ≤ x) (sym at) allowed.above in
          let upto = allowed.upto in
          ap next at ∙ here ∙ (omega arith)
      | inr off ↦ others 0 off ∙ limits.begins
    ];
    above = λ i l. elim (cases_eq i row) [
      | inl at ↦ subst (λ r. raised_in numbers r ≤ next r) (sym at) (let a = allowed.above in omega arith)
      | inr off ↦ let same = others i off in let old = limits.above i l in omega arith
    ];
    upto = λ i l. elim (cases_eq i row) [
      | inl at ↦ subst (λ r. next r ≤ 2000000000000) (sym at) (let a = allowed.upto in let b = limits.upto row known in omega arith)
      | inr off ↦ let same = others i off in let old = limits.upto i l in omega arith
    ];
    limit = λ i l. elim (cases_eq i row) [
      | inl at ↦ subst (λ r. IsLimit square column (raised_in numbers 0) r (next r)) (sym at) (subst (λ y. IsLimit square column (raised_in numbers 0) row y) (sym here) lowered_limit)
      | inr off ↦ subst (λ y. IsLimit square column (raised_in numbers 0) i y) (sym (others i off)) (limits.limit i l)
    ];
  }
    where
      lowered_limit : IsLimit square column (raised_in numbers 0) row x
      lowered_limit other columns zero n =
          let k = allowed.attained.0 in
          let lk = allowed.attained.1 in
          let e : x + cost_at square k (column k) ≡ value k + cost_at square row (column k) = allowed.attained.2 in
          let w : (other row +ℤ columns (column k)) ≤ℤ pos (cost_at square row (column k)) = n.within row (column k) known (placed.pairing.below k lk) in
          let m : other k +ℤ columns (column k) ≡ pos (cost_at square k (column k)) = n.met k lk in
          let u : (other k +ℤ pos (raised_in numbers 0)) ≤ℤ pos (value k) = limits.limit k lk other columns zero n in
          omega (arith, ints)

  pub lowering_first : (value : ℕ → ℕ) → AreLimits square numbers column value → IsLowering square numbers column value value false 0
  lowering_first value limits = record { limits = limits; less = λ t. absurd (both_ways false refl t); upto = omega arith; stable = λ f i l. absurd (omega arith) }

  pub lowering_same : (before now : ℕ → ℕ) (changed : Bool) (at x : ℕ) → IsAllowed square numbers column now at x square.size → now at ≤ x → IsLowering square numbers column before now changed at → IsLowering square numbers column before now changed (at + 1)
  lowering_same before now changed at x allowed no_less h = record {
    limits = h.limits;
    less = h.less;
    upto = h.upto;
    stable = λ f i l. elim (cases_eq i at) [
      | inl same ↦ subst (λ r. IsStable square column now r) (sym same) (λ k m. (let s = allowed.stable k m in omega arith))
      | inr other ↦ h.stable f i (omega arith)
    ];
  }

  pub lowering_more : (before now next : ℕ → ℕ) (changed : Bool) (at x : ℕ) → at < square.size → IsAllowed square numbers column now at x square.size → x < now at → next at ≡ x → ((i : ℕ) → i ≢ at → next i ≡ now i) → IsLowering square numbers column before now changed at → IsLowering square numbers column before next true (at + 1)
  lowering_more before now next changed at x known allowed less here others h =
      let sums = sum_instead square.size at x now next known here others in
      let upto = h.upto in
      record {
        limits = limits_more now next h.limits at x known allowed here others;
        less = λ t. omega arith;
        upto = omega arith;
        stable = λ f. absurd (both_ways true f refl);
      }
