-- Cells that rise: none stands twice, and in order they are the same list. The flows of a crossing by their numbers.
use Rattle.std.proofs.Common.{◌≡◌, ℕ, zero, suc, ◌+◌, ◌-◌, ◌<◌, ◌≤◌, Bool, true, false, cond, ◌&&◌, ◌||◌, eqb, inl, inr, List, [], ◌∷◌, length, map, get_or, refl, sym, ap, subst, ◌∙◌, arith}
use Rattle.std.specs.Prelude.{All}
use Rattle.std.specs.List.{filter, range_with_len}
use Rattle.std.proofs.lemmas.Bool.{and_parts, and_from, cases_Bool, cases_eq, eq-eqb, eqb-true, false≢true, false_from_ne_true, ne_eqb, or_from}
use Rattle.std.proofs.lemmas.List.Elements.{All-get_or, All-head, All-tail, All-weaker, filter_agree}
use Rattle.std.proofs.lemmas.List.Sums.{passes_at_first, position_or_len_is}
use Rattle.fleet_model.specs.Lists.{has_cell}
use Rattle.fleet_base.specs.declared.numbers.CellNo.{CellNo}
use Rattle.site_map.specs.Cells.{cells_below, CellsRise, has_repeat, in_order}
use Rattle.site_map.specs.Crossings.{BuiltCrossing, flow_of, IsFlow}
use Rattle.site_map.specs.Valid.{IsCrossingIn}
use Rattle.site_map.proofs.CellLemmas.{All_has, to_cell}
use Rattle.site_map.proofs.PlaceLemmas.{has_it, position_within}
use Rattle.scenario.specs.Canonical.{cells_of_flow}

-- a cell below them isn't among cells that rise
pub below_rising : (low : ℕ) (cells : List CellNo) (k : ℕ) → CellsRise low cells → k < low → has_cell cells (to_cell k) ≡ false
below_rising low [] k rise below = refl
below_rising low (c ∷ cs) k rise below =
    let first = rise.0 in
    or_from (eqb c.0 k) (has_cell cs (to_cell k)) (ne_eqb c.0 k (λ same. absurd (omega arith))) (below_rising (c.0 + 1) cs k rise.1 (omega arith))

pub rising_no_repeat : (low : ℕ) (cells : List CellNo) → CellsRise low cells → has_repeat cells ≡ false
rising_no_repeat low [] rise = refl
rising_no_repeat low (c ∷ cs) rise = or_from (has_cell cs c) (has_repeat cs) (below_rising (c.0 + 1) cs c.0 rise.1 (omega arith)) (rising_no_repeat (c.0 + 1) cs rise.1)

-- they are no more than the numbers that they have
pub rising_few : (n low : ℕ) (cells : List CellNo) → CellsRise low cells → All (λ c. c.0 < n) cells → length cells ≤ n - low
rising_few n low [] rise known = omega arith
rising_few n low (c ∷ cs) rise known =
    let first = rise.0 in
    let high : c.0 < n = All-head (λ d. d.0 < n) c cs known in
    let rest = rising_few n (c.0 + 1) cs rise.1 (All-tail (λ d. d.0 < n) c cs known) in
    omega arith

-- a range, of which those are kept that are among rising cells
kept_range : (q : CellNo → Bool) (a n : ℕ) (cells : List CellNo) → ((k : ℕ) → a ≤ k → q (to_cell k) ≡ has_cell cells (to_cell k)) → CellsRise a cells → All (λ c. c.0 < a + n) cells → filter q (map to_cell (range_with_len a n)) ≡ cells
kept_range q a zero [] same rise known = refl
kept_range q a zero (c ∷ cs) same rise known = let low = rise.0 in let high : c.0 < a + 0 = All-head (λ d. d.0 < a + 0) c cs known in absurd (omega arith)
kept_range q a (suc n) [] same rise known = rw (same a (omega arith)) (kept_range q (a + 1) n [] (λ k low. same k (omega arith)) tt (λ k d within. absurd (omega arith)))
kept_range q a (suc n) (c ∷ cs) same rise known =
    let low = rise.0 in
    let upto : All (λ d. d.0 < a + 1 + n) (c ∷ cs) = All-weaker (λ d. d.0 < a + suc n) (λ d. d.0 < a + 1 + n) (λ d h. omega arith) (c ∷ cs) known in
    elim (cases_eq c.0 a) [
      | inl here ↦
          let is : q (to_cell a) ≡ true = same a (omega arith) ∙ ap (λ b. b || has_cell cs (to_cell a)) (eq-eqb c.0 a here) in
          let rest : filter q (map to_cell (range_with_len (a + 1) n)) ≡ cs =
          kept_range q (a + 1) n cs
          (λ k above. same k (omega arith) ∙ ap (λ b. b || has_cell cs (to_cell k)) (ne_eqb c.0 k (λ e. absurd (omega arith))))
          (subst (λ m. CellsRise (m + 1) cs) here rise.1)
          (All-tail (λ d. d.0 < a + 1 + n) c cs upto) in
          let first : to_cell a ≡ c = ap (λ k. to_cell k) (sym here) in
          ap (λ b. cond b (to_cell a ∷ filter q (map to_cell (range_with_len (a + 1) n))) (filter q (map to_cell (range_with_len (a + 1) n)))) is ∙ cc
      | inr later ↦
          let off : q (to_cell a) ≡ false = same a (omega arith) ∙ below_rising c.0 (c ∷ cs) a (omega arith, rise.1) (omega arith) in
          ap (λ b. cond b (to_cell a ∷ filter q (map to_cell (range_with_len (a + 1) n))) (filter q (map to_cell (range_with_len (a + 1) n)))) off
          ∙ kept_range q (a + 1) n (c ∷ cs) (λ k above. same k (omega arith)) (omega arith, rise.1) upto
    ]

-- rising cells in order are as they were
pub rising_in_order : (n : ℕ) (cells : List CellNo) → CellsRise 0 cells → All (λ c. c.0 < n) cells → in_order n cells ≡ cells
rising_in_order n cells rise known = kept_range (has_cell cells) 0 n cells (λ k low. refl) rise (All-weaker (λ c. c.0 < n) (λ c. c.0 < 0 + n) (λ c h. omega arith) cells known)

-- what is kept of what was kept
kept_twice : (p q : CellNo → Bool) (cells : List CellNo) → filter q (filter p cells) ≡ filter (λ c. q c && p c) cells
kept_twice p q [] = refl
kept_twice p q (c ∷ cs) = elim (cases_Bool (p c)) [
  | inl kept ↦
      ap (λ b. filter q (cond b (c ∷ filter p cs) (filter p cs))) kept
      ∙ ap (λ rest. cond (q c) (c ∷ rest) rest) (kept_twice p q cs)
      ∙ ap (λ b. cond b (c ∷ filter (λ d. q d && p d) cs) (filter (λ d. q d && p d) cs)) (sym (all_and (q c) (p c) kept))
  | inr left ↦
      ap (λ b. filter q (cond b (c ∷ filter p cs) (filter p cs))) left
      ∙ kept_twice p q cs
      ∙ ap (λ b. cond b (c ∷ filter (λ d. q d && p d) cs) (filter (λ d. q d && p d) cs)) (sym (none_and (q c) (p c) left))
]
  where
    all_and : (a b : Bool) → b ≡ true → (a && b) ≡ a
    all_and true b is = is
    all_and false b is = refl

    none_and : (a b : Bool) → b ≡ false → (a && b) ≡ false
    none_and true b is = is
    none_and false b is = refl

module _ (n : ℕ) (x : BuiltCrossing) (valid : IsCrossingIn n x) where
  flow_at : (j : ℕ) → j < length x.flows → IsFlow x.cells (get_or x.flows j [])
  flow_at j within = All-get_or (IsFlow x.cells) x.flows j [] within valid.flows

  -- the cells of a flow are cells of the crossing
  pub flow_within : (j : ℕ) (c : CellNo) → j < length x.flows → has_cell (get_or x.flows j []) c ≡ true → has_cell x.cells c ≡ true
  flow_within j c within has = All_has (λ d. has_cell x.cells d ≡ true) (get_or x.flows j []) c (flow_at j within).within has

  pub flow_known : (j : ℕ) → j < length x.flows → All (λ c. c.0 < n) (get_or x.flows j [])
  flow_known j within = All-weaker (λ c. has_cell x.cells c ≡ true) (λ c. c.0 < n) (λ c has. All_has (λ d. d.0 < n) x.cells c valid.cells.known has) (get_or x.flows j []) (flow_at j within).within

  -- a cell of one flow isn't in one before it
  pub flow_apart : (i j : ℕ) (c : CellNo) → i < j → j < length x.flows → has_cell (get_or x.flows j []) c ≡ true → has_cell (get_or x.flows i []) c ≡ false
  flow_apart i j c before within has = All_has (λ d. has_cell (get_or x.flows i []) d ≡ false) (get_or x.flows j []) c (valid.apart i j [] before within) has

  -- a cell of the flow with a number has that number
  flow_number : (j : ℕ) (c : CellNo) → j < length x.flows → has_cell (get_or x.flows j []) c ≡ true → flow_of x c ≡ j
  flow_number j c within has = position_or_len_is (has_it c) x.flows j [] (omega arith) (λ i before. flow_apart i j c before within has) (λ h. has)

  -- and each cell of the crossing that has it is in the flow
  numbered_in : (j : ℕ) (c : CellNo) → j < length x.flows → flow_of x c ≡ j → has_cell x.cells c ≡ true → has_cell (get_or x.flows j []) c ≡ true
  numbered_in j c within number has =
      let inside = position_within x.flows c (valid.whole c (omega arith) has) in
      subst (λ i. has_cell (get_or x.flows i []) c ≡ true) number (passes_at_first (has_it c) x.flows [] inside)

  same_cell : (j : ℕ) (c : CellNo) → j < length x.flows → (eqb (flow_of x c) j && has_cell x.cells c) ≡ has_cell (get_or x.flows j []) c
  same_cell j c within = elim (cases_Bool (has_cell (get_or x.flows j []) c)) [
    | inl has ↦ and_from (eqb (flow_of x c) j) (has_cell x.cells c) (eq-eqb (flow_of x c) j (flow_number j c within has)) (flow_within j c within has) ∙ sym has
    | inr out ↦
        false_from_ne_true (eqb (flow_of x c) j && has_cell x.cells c)
        (λ both. let parts = and_parts (eqb (flow_of x c) j) (has_cell x.cells c) both in absurd (false≢true (sym out ∙ numbered_in j c within (eqb-true (flow_of x c) j parts.0) parts.1)))
        ∙ sym out
  ]

  -- the cells of a flow are the flow
  pub flow_cells : (j : ℕ) → j < length x.flows → cells_of_flow x j ≡ get_or x.flows j []
  flow_cells j within =
      ap (λ cells. filter (λ c. eqb (flow_of x c) j) cells) (sym (rising_in_order n x.cells valid.cells.rise valid.cells.known))
      ∙ kept_twice (has_cell x.cells) (λ c. eqb (flow_of x c) j) (cells_below n)
      ∙ filter_agree (λ c. eqb (flow_of x c) j && has_cell x.cells c) (has_cell (get_or x.flows j [])) (λ c. same_cell j c within) (cells_below n)
      ∙ rising_in_order n (get_or x.flows j []) (flow_at j within).rise (flow_known j within)

  pub flow_in_order : (j : ℕ) → j < length x.flows → in_order n (get_or x.flows j []) ≡ get_or x.flows j []
  flow_in_order j within = rising_in_order n (get_or x.flows j []) (flow_at j within).rise (flow_known j within)

  pub flow_no_repeat : (j : ℕ) → j < length x.flows → has_repeat (get_or x.flows j []) ≡ false
  flow_no_repeat j within = rising_no_repeat 0 (get_or x.flows j []) (flow_at j within).rise

  pub flow_rise : (j : ℕ) → j < length x.flows → CellsRise 0 (get_or x.flows j [])
  flow_rise j within = (flow_at j within).rise

  pub flow_some : (j : ℕ) → j < length x.flows → 0 < length (get_or x.flows j [])
  flow_some j within = (flow_at j within).some
