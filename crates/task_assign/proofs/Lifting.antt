-- Rows that are raised until one more is met.
use Rattle.std.proofs.Common.{◌≡◌, ◌≢◌, ℕ, zero, suc, ◌+◌, ◌<◌, ◌≤◌, true, ◌⊎◌, inl, inr, refl, sym, ap, ◌∙◌, subst, arith}
use Rattle.std.proofs.lemmas.Bool.{cases_eq, cases_lt, cases_Bool, both_ways, eq-eqb, eqb-true}
use Rattle.task_assign.specs.Squares.{Square, cost_at}
use Rattle.task_assign.specs.Pairings.{IsPairing}
use Rattle.task_assign.specs.Bounds.{raised_in, lowered_in, meets, AreSound, ArePlaced}
use Rattle.task_assign.specs.Trees.{row_in, is_reached, IsTree, IsClosed, IsLeft, IsEnd, IsTurned}
use Rattle.task_assign.specs.Lifts.{IsRoom, IsSmall, IsRaised}
use Rattle.task_assign.specs.declared.numbers.Numbers.{Numbers}
use Rattle.task_assign.specs.declared.tree.Tree.{Tree}
use Rattle.task_assign.specs.declared.tree.End.{End}
use Rattle.task_assign.proofs.PairingLemmas.{row_of}

-- a row is left, or raised together with its column
pub cases_left : (t : Tree) (b : ℕ) → IsLeft t b ⊎ ((t.last < b) × (is_reached t b ≡ true))
cases_left t b =
    elim (cases_lt t.last b) [
      | inl behind ↦ elim (cases_Bool (is_reached t b)) [
        | inl reached ↦ inr (behind, reached)
        | inr not_reached ↦ inl (inr not_reached)
      ]
      | inr upto ↦ inl (inl upto)
    ]

-- a row that is left can't be met by one that was reached
pub slack_some : (square : Square) (numbers : Numbers) (column : ℕ → ℕ) (t : Tree) (a b s : ℕ) → t.size ≡ square.size → t.first ≡ 0 → IsClosed (meets square numbers) column t → a < square.size → is_reached t a ≡ true → b < square.size → IsLeft t b → raised_in numbers a + s ≡ cost_at square a (column b) + lowered_in numbers (column b) → 1 ≤ s
slack_some square numbers column t a b zero sized begins closed la reached lb left e =
    let found = closed a (omega arith) reached b (omega arith) (omega arith) (eq-eqb (raised_in numbers a) (cost_at square a (column b) + lowered_in numbers (column b)) (omega arith)) in
    let behind : t.last < b = found.0 in
    elim left [ inl upto ↦ absurd (omega arith) | inr not_reached ↦ absurd (both_ways (is_reached t b) not_reached found.1) ]
slack_some square numbers column t a b (suc s) sized begins closed la reached lb left e = omega arith

-- there is room for less where there is for more
pub room_less : (square : Square) (numbers : Numbers) (column : ℕ → ℕ) (t : Tree) (a less more : ℕ) → less ≤ more → IsRoom square numbers column t a more → IsRoom square numbers column t a less
room_less square numbers column t a less more l h b known left = let old = h b known left in omega arith

module _ (square : Square) (numbers : Numbers) (column : ℕ → ℕ) (t : Tree) where
  module _ (sized : t.size ≡ square.size) (a : IsTree t) (root : row_in t 0 ≡ t.last) (sound : AreSound square numbers) (placed : ArePlaced square numbers column (t.last + 1)) where
    root_reached : is_reached t t.last ≡ true
    root_reached = let some = a.some in subst (λ r. is_reached t r ≡ true) root (a.marked 0 (omega arith))

    row_met : (b : ℕ) → t.last < b → b < square.size → raised_in numbers b ≡ cost_at square b (column b) + lowered_in numbers (column b)
    row_met b behind known = eqb-true (raised_in numbers b) (cost_at square b (column b) + lowered_in numbers (column b)) (placed.met b (omega arith) known)

    small_from : (by : ℕ) → ((b : ℕ) → b < square.size → is_reached t b ≡ true → IsRoom square numbers column t b by) → (b : ℕ) → b < square.size → IsSmall numbers column t by b
    small_from by room b known =
        let last : t.last < square.size = let l = a.last_known in omega arith in
        let free = placed.free t.last (omega arith) last in
        let upto : is_reached t b ≡ true → raised_in numbers b + by ≤ 1000000000000 = λ reached. (let fits = room b known reached t.last last (inl (omega arith)) in let cost = sound.costs b (column t.last) in omega arith) in
        record {
          row = upto;
          column_behind = λ behind reached. (let high = upto reached in let met = row_met b behind known in omega arith);
        }

    pub small_all : (by : ℕ) → ((b : ℕ) → b < square.size → is_reached t b ≡ true → IsRoom square numbers column t b by) → (b : ℕ) → b < t.size → IsSmall numbers column t by b
    small_all by room b known = small_from by room b (omega arith)

    module _ (by : ℕ) (some : 1 ≤ by) (room : (b : ℕ) → b < square.size → is_reached t b ≡ true → IsRoom square numbers column t b by) (next : Numbers) (all : (b : ℕ) → b < t.size → IsRaised column t by numbers next b) where
      raised_at : (b : ℕ) → b < square.size → IsRaised column t by numbers next b
      raised_at b known = all b (omega arith)

      -- no row is lowered, and no column raised
      column_more : (b : ℕ) → b < square.size → lowered_in numbers (column b) ≤ lowered_in next (column b)
      column_more b known =
          elim (cases_left t b) [
            | inl left ↦ let same = (raised_at b known).column_left left in omega arith
            | inr both ↦ let more = (raised_at b known).column_behind both.0 both.1 in omega arith
          ]

      pair_within : (i b : ℕ) → i < square.size → b < square.size → raised_in next i ≤ cost_at square i (column b) + lowered_in next (column b)
      pair_within i b li lb =
          let old = sound.within i (column b) li (placed.pairing.below b lb) in
          let column_upto = column_more b lb in
          elim (cases_Bool (is_reached t i)) [
            | inl reached ↦
                let up = (raised_at i li).row reached in
                elim (cases_left t b) [
                  | inl left ↦ let same = (raised_at b lb).column_left left in let fits = room i li reached b lb left in omega arith
                  | inr both ↦ let more = (raised_at b lb).column_behind both.0 both.1 in omega arith
                ]
            | inr not_reached ↦ let same = (raised_at i li).other not_reached in omega arith
          ]

      column_bounded : (b : ℕ) → b < square.size → lowered_in next (column b) ≤ 1000000000000
      column_bounded b lb =
          elim (cases_left t b) [
            | inl left ↦ let same = (raised_at b lb).column_left left in let old = sound.bounded (column b) (placed.pairing.below b lb) in omega arith
            | inr both ↦ let more = (raised_at b lb).column_behind both.0 both.1 in let small = (small_from by room b lb).column_behind both.0 both.1 in omega arith
          ]

      pub lifted_sound : AreSound square next
      lifted_sound = record {
        costs = sound.costs;
        within = λ i j li lj. (let r = row_of square.size column placed.pairing j lj in subst (λ k. raised_in next i ≤ cost_at square i k + lowered_in next k) r.2 (pair_within i r.0 li r.1));
        bounded = λ j lj. (let r = row_of square.size column placed.pairing j lj in subst (λ k. lowered_in next k ≤ 1000000000000) r.2 (column_bounded r.0 r.1));
      }

      lifted_met : (i : ℕ) → t.last < i → i < square.size → raised_in next i ≡ cost_at square i (column i) + lowered_in next (column i)
      lifted_met i behind known =
          let old = row_met i behind known in
          elim (cases_Bool (is_reached t i)) [
            | inl reached ↦ let up = (raised_at i known).row reached in let down = (raised_at i known).column_behind behind reached in omega arith
            | inr not_reached ↦ let same = (raised_at i known).other not_reached in let kept = (raised_at i known).column_left (inr not_reached) in omega arith
          ]

      pub lifted_placed : ArePlaced square next column (t.last + 1)
      lifted_placed = record {
        pairing = placed.pairing;
        met = λ i behind known. eq-eqb (raised_in next i) (cost_at square i (column i) + lowered_in next (column i)) (lifted_met i (omega arith) known);
        free = λ i upto known. (raised_at i known).column_left (inl (omega arith)) ∙ placed.free i upto known;
      }

      pub lifted_root : raised_in numbers t.last < raised_in next t.last
      lifted_root = let known = a.last_known in let up = (raised_at t.last (omega arith)).row root_reached in omega arith

-- a row whose column wasn't lowered isn't raised above its cost
pub raised_upto : (square : Square) (numbers : Numbers) (column : ℕ → ℕ) (row : ℕ) → row < square.size → AreSound square numbers → ArePlaced square numbers column (row + 1) → raised_in numbers row ≤ 1000000000000
raised_upto square numbers column row known sound placed =
    let free = placed.free row (omega arith) known in
    let fits = sound.within row (column row) known (placed.pairing.below row known) in
    let cost = sound.costs row (column row) in
    omega arith

-- with the columns turned along a way from the row, it is placed too
pub placed_more : (square : Square) (numbers : Numbers) (p q : ℕ → ℕ) (t : Tree) (end : End) (row : ℕ) → t.last ≡ row → row_in t 0 ≡ row → row < square.size → IsEnd (meets square numbers) p t end → IsTurned (meets square numbers) t end.row p q → IsPairing square.size q → ArePlaced square numbers p (row + 1) → ArePlaced square numbers q row
placed_more square numbers p q t end row ends root known e turned pairing placed =
    let upto : end.row ≤ row = let u = e.upto_last in omega arith in
    record {
      pairing = pairing;
      met = λ i from l. elim (cases_eq i row) [
        | inl same ↦ subst (λ r. meets square numbers r (q r) ≡ true) (root ∙ sym same) turned.root
        | inr other ↦
            let apart : i ≡ end.row → ⊥ = λ s. let x : i ≡ end.row = s in omega arith in
            elim (turned.others i apart) [
              | inl kept ↦ subst (λ c. meets square numbers i c ≡ true) (sym kept) (placed.met i (omega arith) l)
              | inr met ↦ met
            ]
      ];
      free = λ i before l. elim (cases_eq i end.row) [
        | inl same ↦
            let apart : end.row ≡ row_in t 0 → ⊥ = λ s. let x : end.row ≡ row_in t 0 = s in omega arith in
            ap (lowered_in numbers) (ap q same ∙ turned.given apart ∙ ap p root) ∙ placed.free row (omega arith) known
        | inr other ↦
            let apart : i ≡ row_in t 0 → ⊥ = λ s. let x : i ≡ row_in t 0 = s in omega arith in
            ap (lowered_in numbers) (turned.kept i (omega arith) other apart) ∙ placed.free i (omega arith) l
      ];
    }

-- so many rows were raised where they were reached, and the others wait
pub record IsRaising (column : ℕ → ℕ) (t : Tree) (by : ℕ) (before now : Numbers) (at : ℕ) : Type 0 where
  pub done : (b : ℕ) → b < at → IsRaised column t by before now b
  pub rows : (b : ℕ) → at ≤ b → b < t.size → raised_in now b ≡ raised_in before b
  pub columns : (b : ℕ) → at ≤ b → b < t.size → lowered_in now (column b) ≡ lowered_in before (column b)

pub raising_first : (column : ℕ → ℕ) (t : Tree) (by : ℕ) (before : Numbers) → IsRaising column t by before before 0
raising_first column t by before = record { done = λ b l. absurd (omega arith); rows = λ b l m. refl; columns = λ b l m. refl }

-- what was said of a number holds of an equal one
raised_same : (column : ℕ → ℕ) (t : Tree) (by : ℕ) (before from now next : Numbers) (b : ℕ) → raised_in from b ≡ raised_in before b → lowered_in from (column b) ≡ lowered_in before (column b) → raised_in next b ≡ raised_in now b → lowered_in next (column b) ≡ lowered_in now (column b) → IsRaised column t by from now b → IsRaised column t by before next b
raised_same column t by before from now next b row_from column_from row_next column_next h = record {
  row = λ r. (let x = h.row r in omega arith);
  other = λ r. (let x = h.other r in omega arith);
  column_behind = λ l r. (let x = h.column_behind l r in omega arith);
  column_left = λ l. (let x = h.column_left l in omega arith);
}

pub raising_more : (column : ℕ → ℕ) (t : Tree) (by : ℕ) (before now next : Numbers) (at : ℕ) → IsPairing t.size column → at < t.size → IsRaised column t by now next at → ((b : ℕ) → b ≢ at → raised_in next b ≡ raised_in now b) → ((j : ℕ) → j ≢ column at → lowered_in next j ≡ lowered_in now j) → IsRaising column t by before now at → IsRaising column t by before next (at + 1)
raising_more column t by before now next at pairing known raised rows columns h = record {
  done = λ b l. elim (cases_eq b at) [
    | inl same ↦ subst (λ k. IsRaised column t by before next k) (sym same) (raised_same column t by before now next next at (h.rows at (omega arith) known) (h.columns at (omega arith) known) refl refl raised)
    | inr other ↦ raised_same column t by before before now next b refl refl (rows b other) (columns (column b) (apart b other (omega arith))) (h.done b (omega arith))
  ];
  rows = λ b l m. rows b (λ s. (let x : b ≡ at = s in omega arith)) ∙ h.rows b (omega arith) m;
  columns = λ b l m. columns (column b) (apart b (λ s. (let x : b ≡ at = s in omega arith)) m) ∙ h.columns b (omega arith) m;
}
  where
    apart : (b : ℕ) → b ≢ at → b < t.size → column b ≢ column at
    apart b other l s = other (pairing.apart b at l known s)

pub raising_small : (column : ℕ → ℕ) (t : Tree) (by : ℕ) (before now : Numbers) (at : ℕ) → at < t.size → IsSmall before column t by at → IsRaising column t by before now at → IsSmall now column t by at
raising_small column t by before now at known s h =
    let row = h.rows at (omega arith) known in
    let down = h.columns at (omega arith) known in
    record { row = λ r. (let x = s.row r in omega arith); column_behind = λ l r. (let x = s.column_behind l r in omega arith) }
