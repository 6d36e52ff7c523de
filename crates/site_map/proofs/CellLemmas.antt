-- Lists of cells: membership, repeats, and the ascending list of some of the first cells.
use Rattle.std.proofs.Common.{◌≡◌, ℕ, zero, suc, ◌+◌, ◌<◌, ◌≤◌, Bool, true, false, cond, not, ◌&&◌, ◌||◌, eqb, ltb, inl, inr, List, [], ◌∷◌, ◌++◌, length, map, get_or, take, refl, sym, ap, subst, ◌∙◌, arith}
use Rattle.std.specs.FinSet as set
use Rattle.std.specs.FinSet.{contains-empty}
use Rattle.std.specs.Ordering.{nat_cmp}
use Rattle.bit_set.specs.Marks.{contains-insert_nat, contains-remove_nat}
use Rattle.std.specs.List.{filter, list_any, list_all, range_with_len, All}
use Rattle.std.proofs.lemmas.Bool.{false≢true, eqb-true, eq-eqb, ne_eqb, ltb-true, cases_Bool, cases_eq, or_parts, or_from, or_left, or_right, or_cases, and_parts, and_from, and_right}
use Rattle.std.proofs.lemmas.List.{map-append, take_more, append-nil}
use Rattle.std.proofs.lemmas.List.Folds.{list_any_at, list_any_more, list_any-append}
use Rattle.std.proofs.lemmas.List.Elements.{All-nil, All-cons, All-head, All-tail, All-from_get_or, filter-append, filter_agree, All-weaker}
use Rattle.fleet_base.specs.declared.numbers.CellNo.{CellNo}
use Rattle.fleet_model.specs.Lists.{numbers_below, has_cell}
use Rattle.site_map.specs.Cells.{are_known, cells_below, has_repeat, in_order, CellsRise}
use Rattle.site_map.specs.Inside.{AreCells}

pub eqb_turned : (a b : ℕ) → eqb a b ≡ eqb b a
eqb_turned a b = elim (cases_eq a b) [
  | inl same ↦ eq-eqb a b same ∙ sym (eq-eqb b a (sym same))
  | inr other ↦ ne_eqb a b other ∙ sym (ne_eqb b a (λ e. other (sym e)))
]

-- tests that agree on each element agree on the list
pub list_any_agree : {A : Type 0} (p q : A → Bool) → ((x : A) → p x ≡ q x) → (xs : List A) → list_any p xs ≡ list_any q xs
list_any_agree p q same [] = refl
list_any_agree p q same (x ∷ xs) = ap (λ b. b || list_any p xs) (same x) ∙ ap (λ b. q x || b) (list_any_agree p q same xs)

pub list_any_agree_in : {A : Type 0} (p q : A → Bool) (xs : List A) → All (λ x. p x ≡ q x) xs → list_any p xs ≡ list_any q xs
list_any_agree_in p q [] same = refl
list_any_agree_in p q (x ∷ xs) same =
    ap (λ b. b || list_any p xs) (All-head (λ y. p y ≡ q y) x xs same)
    ∙ ap (λ b. q x || b) (list_any_agree_in p q xs (All-tail (λ y. p y ≡ q y) x xs same))

abbrev pub no_cell : CellNo
no_cell = record { 0 = 0 }

-- each cell of a list is in it
pub has_each : (cells : List CellNo) → All (λ c. has_cell cells c ≡ true) cells
has_each cells = All-from_get_or (λ c. has_cell cells c ≡ true) cells no_cell
    (λ i within. list_any_at (λ d. eqb d.0 (get_or cells i no_cell).0) cells i no_cell within (eq-eqb (get_or cells i no_cell).0 (get_or cells i no_cell).0 refl))

-- a cell that stands among those before it is a repeat
pub has_repeat_at : (cells : List CellNo) (i : ℕ) → i < length cells → has_cell (take i cells) (get_or cells i no_cell) ≡ true → has_repeat cells ≡ true
has_repeat_at [] i within has = absurd (omega arith)
has_repeat_at (c ∷ cs) zero within has = absurd (false≢true has)
has_repeat_at (c ∷ cs) (suc i) within has =
    elim (or_cases (eqb c.0 (get_or cs i no_cell).0) (has_cell (take i cs) (get_or cs i no_cell)) has) [
      | inl first ↦ or_left (has_cell cs c) (has_repeat cs) (list_any_at (λ d. eqb d.0 c.0) cs i no_cell (omega arith) (eqb_turned (get_or cs i no_cell).0 c.0 ∙ first))
      | inr later ↦ or_right (has_cell cs c) (has_repeat cs) (has_repeat_at cs i (omega arith) later)
    ]

-- a new cell behind others makes no repeat
pub has_repeat_push : (cells : List CellNo) (x : CellNo) → has_repeat cells ≡ false → has_cell cells x ≡ false → has_repeat (cells ++ x ∷ []) ≡ false
has_repeat_push [] x distinct new = refl
has_repeat_push (c ∷ cs) x distinct new =
    let parts = or_parts (has_cell cs c) (has_repeat cs) distinct in
    let apart = or_parts (eqb c.0 x.0) (has_cell cs x) new in
    or_from (has_cell (cs ++ x ∷ []) c) (has_repeat (cs ++ x ∷ []))
    (list_any-append (λ d. eqb d.0 c.0) cs (x ∷ []) ∙ or_from (has_cell cs c) (eqb x.0 c.0 || false) parts.0 (or_from (eqb x.0 c.0) false (eqb_turned x.0 c.0 ∙ apart.0) refl))
    (has_repeat_push cs x parts.1 apart.1)

range_push : (a n : ℕ) → range_with_len a (suc n) ≡ range_with_len a n ++ (a + n) ∷ []
range_push a zero = ap (λ k. k ∷ []) (omega arith)
range_push a (suc n) =
    ap (λ ks. a ∷ ks) (range_push (a + 1) n)
    ∙ ap (λ k. (a ∷ range_with_len (a + 1) n) ++ k ∷ []) (omega arith)

pub numbers_below_push : (n : ℕ) → numbers_below (suc n) ≡ numbers_below n ++ n ∷ []
numbers_below_push n = range_push 0 n ∙ ap (λ k. numbers_below n ++ k ∷ []) (omega arith)

pub cells_below_push : (n : ℕ) → cells_below (suc n) ≡ cells_below n ++ record { 0 = n } ∷ []
cells_below_push n = ap (map (λ k. record { 0 = k })) (numbers_below_push n) ∙ map-append (λ k. record { 0 = k }) (numbers_below n) (n ∷ [])

abbrev pub to_cell : ℕ → CellNo
to_cell k = record { 0 = k }

-- a cell is among the kept ones where it is among all, and is kept
pub has_cell-filter : (q : CellNo → Bool) (cells : List CellNo) (c : CellNo) → has_cell (filter q cells) c ≡ (q c && has_cell cells c)
has_cell-filter q [] c = elim (q c) as (λ b. false ≡ (b && false)) [ true ↦ refl | false ↦ refl ]
has_cell-filter q (d ∷ ds) c =
    elim (cases_eq d.0 c.0) [
      | inl same ↦
          let is : d ≡ c = ap (λ k. record { 0 = k }) same in
          let here : eqb d.0 c.0 ≡ true = eq-eqb d.0 c.0 same in
          elim (cases_Bool (q c)) [
            | inl kept ↦
                let kept_d : q d ≡ true = ap q is ∙ kept in
                rw (kept_d, kept) (or_left (eqb d.0 c.0) (has_cell (filter q ds) c) here ∙ sym (or_left (eqb d.0 c.0) (has_cell ds c) here))
            | inr left ↦
                let left_d : q d ≡ false = ap q is ∙ left in
                rw left_d (has_cell-filter q ds c ∙ ap (λ b. b && has_cell ds c) left ∙ ap (λ b. b && (eqb d.0 c.0 || has_cell ds c)) (sym left))
          ]
      | inr other ↦
          let off : eqb d.0 c.0 ≡ false = ne_eqb d.0 c.0 other in
          let skipped : has_cell (cond (q d) (d ∷ filter q ds) (filter q ds)) c ≡ has_cell (filter q ds) c =
          elim (q d) as (λ b. has_cell (cond b (d ∷ filter q ds) (filter q ds)) c ≡ has_cell (filter q ds) c) [
            | true ↦ ap (λ b. b || has_cell (filter q ds) c) off
            | false ↦ refl
          ] in
          skipped ∙ has_cell-filter q ds c ∙ ap (λ b. q c && (b || has_cell ds c)) (sym off)
    ]

has_cell-range : (a n : ℕ) (c : CellNo) → a ≤ c.0 → c.0 < a + n → has_cell (map (λ k. record { 0 = k }) (range_with_len a n)) c ≡ true
has_cell-range a zero c low high = absurd (omega arith)
has_cell-range a (suc n) c low high =
    elim (cases_eq a c.0) [
      | inl same ↦ or_left (eqb a c.0) (has_cell (map (λ k. record { 0 = k }) (range_with_len (a + 1) n)) c) (eq-eqb a c.0 same)
      | inr other ↦ or_right (eqb a c.0) (has_cell (map (λ k. record { 0 = k }) (range_with_len (a + 1) n)) c) (has_cell-range (a + 1) n c (omega arith) (omega arith))
    ]

-- a cell of known ones is known
has_cell_known : (n : ℕ) (cells : List CellNo) (c : CellNo) → are_known n cells ≡ true → has_cell cells c ≡ true → c.0 < n
has_cell_known n [] c known has = absurd (false≢true has)
has_cell_known n (d ∷ ds) c known has =
    let parts = and_parts (ltb d.0 n) (are_known n ds) known in
    elim (or_cases (eqb d.0 c.0) (has_cell ds c) has) [
      | inl first ↦ let same = eqb-true d.0 c.0 first in let below = ltb-true d.0 n parts.0 in omega arith
      | inr later ↦ has_cell_known n ds c parts.1 later
    ]

-- known cells in order are the same cells
pub has_cell-in_order : (n : ℕ) (cells : List CellNo) (c : CellNo) → are_known n cells ≡ true → has_cell (in_order n cells) c ≡ has_cell cells c
has_cell-in_order n cells c known =
    has_cell-filter (has_cell cells) (cells_below n) c
    ∙ elim (cases_Bool (has_cell cells c)) [
      | inl has ↦
          let below = has_cell_known n cells c known has in
          ap (λ b. b && has_cell (cells_below n) c) has ∙ has_cell-range 0 n c (omega arith) (omega arith) ∙ sym has
      | inr not_there ↦ ap (λ b. b && has_cell (cells_below n) c) not_there ∙ sym not_there
    ]

CellsRise-filter : (q : CellNo → Bool) (low a n : ℕ) → low ≤ a → CellsRise low (filter q (map (λ k. record { 0 = k }) (range_with_len a n)))
CellsRise-filter q low a zero above = tt
CellsRise-filter q low a (suc n) above =
    elim (q (record { 0 = a })) as (λ b. CellsRise low (cond b (record { 0 = a } ∷ filter q (map (λ k. record { 0 = k }) (range_with_len (a + 1) n))) (filter q (map (λ k. record { 0 = k }) (range_with_len (a + 1) n))))) [
      | true ↦ (above, CellsRise-filter q (a + 1) (a + 1) n (omega arith))
      | false ↦ CellsRise-filter q low (a + 1) n (omega arith)
    ]

known-filter : (q : CellNo → Bool) (bound a n : ℕ) → a + n ≤ bound → All (λ c. c.0 < bound) (filter q (map (λ k. record { 0 = k }) (range_with_len a n)))
known-filter q bound a zero within = All-nil (λ c. c.0 < bound)
known-filter q bound a (suc n) within =
    let later : All (λ c. c.0 < bound) (filter q (map (λ k. record { 0 = k }) (range_with_len (a + 1) n))) = known-filter q bound (a + 1) n (omega arith) in
    elim (q (record { 0 = a })) as (λ b. All (λ c. c.0 < bound) (cond b (record { 0 = a } ∷ filter q (map (λ k. record { 0 = k }) (range_with_len (a + 1) n))) (filter q (map (λ k. record { 0 = k }) (range_with_len (a + 1) n))))) [
      | true ↦ All-cons (λ c. c.0 < bound) (record { 0 = a }) (filter q (map (λ k. record { 0 = k }) (range_with_len (a + 1) n))) (omega arith) later
      | false ↦ later
    ]

pub some_has : (cells : List CellNo) (c : CellNo) → has_cell cells c ≡ true → 0 < length cells
some_has [] c has = absurd (false≢true has)
some_has (d ∷ ds) c has = omega arith

-- some known cells in order are cells as a crossing or an area has them
pub AreCells-in_order : (n : ℕ) (cells : List CellNo) → are_known n cells ≡ true → 0 < length cells → AreCells n (in_order n cells)
AreCells-in_order n [] known some = absurd (omega arith)
AreCells-in_order n (c ∷ cs) known some = record {
  rise = CellsRise-filter (has_cell (c ∷ cs)) 0 0 n (omega arith);
  known = known-filter (has_cell (c ∷ cs)) n 0 n (omega arith);
  some = some_has (in_order n (c ∷ cs)) c (has_cell-in_order n (c ∷ cs) c known ∙ or_left (eqb c.0 c.0) (has_cell cs c) (eq-eqb c.0 c.0 refl));
}

-- known cells are below each greater bound
pub known_All : (n bound : ℕ) (cells : List CellNo) → are_known n cells ≡ true → n ≤ bound → All (λ c. c.0 < bound) cells
known_All n bound [] known upto = All-nil (λ c. c.0 < bound)
known_All n bound (c ∷ cs) known upto =
    let parts = and_parts (ltb c.0 n) (are_known n cs) known in
    let below = ltb-true c.0 n parts.0 in
    All-cons (λ d. d.0 < bound) c cs (omega arith) (known_All n bound cs parts.1 upto)

-- the set has the numbers of these cells, none of which stands twice
pub record IsSeen (seen : set.FinSet nat_cmp) (cells : List CellNo) : Type 0 where
  pub numbers : (c : CellNo) → set.contains seen c.0 ≡ has_cell cells c
  pub distinct : has_repeat cells ≡ false

or_turned : (a b : Bool) → (a || b) ≡ (b || a)
or_turned a b = elim a as (λ v. (v || b) ≡ (b || v)) [
  | true ↦ elim b as (λ v. true ≡ (v || true)) [ true ↦ refl | false ↦ refl ]
  | false ↦ elim b as (λ v. v ≡ (v || false)) [ true ↦ refl | false ↦ refl ]
]

-- one more cell of a list among the members of a set
pub numbers_more : (seen : set.FinSet nat_cmp) (cells : List CellNo) (i : ℕ) → i < length cells → ((c : CellNo) → set.contains seen c.0 ≡ has_cell (take i cells) c) → (c : CellNo) → set.contains (set.insert seen (get_or cells i no_cell).0) c.0 ≡ has_cell (take (i + 1) cells) c
numbers_more seen cells i within numbers c =
    contains-insert_nat seen (get_or cells i no_cell).0 c.0
    ∙ ap (λ b. eqb c.0 (get_or cells i no_cell).0 || b) (numbers c)
    ∙ ap (λ b. b || has_cell (take i cells) c) (eqb_turned c.0 (get_or cells i no_cell).0)
    ∙ or_turned (eqb (get_or cells i no_cell).0 c.0) (has_cell (take i cells) c)
    ∙ sym (list_any_more (λ d. eqb d.0 c.0) cells i no_cell within)

pub IsSeen_more : (seen : set.FinSet nat_cmp) (cells : List CellNo) (i : ℕ) → i < length cells → set.contains seen (get_or cells i no_cell).0 ≡ false → IsSeen seen (take i cells) → IsSeen (set.insert seen (get_or cells i no_cell).0) (take (i + 1) cells)
IsSeen_more seen cells i within new so_far = record {
  numbers = numbers_more seen cells i within so_far.numbers;
  distinct = ap has_repeat (take_more cells i no_cell within) ∙ has_repeat_push (take i cells) (get_or cells i no_cell) so_far.distinct (sym (so_far.numbers (get_or cells i no_cell)) ∙ new);
}

pub IsSeen_none : IsSeen set.empty []
IsSeen_none = record { numbers = λ c. contains-empty nat_cmp c.0; distinct = refl }

-- the kept cells with the next one
pub kept_more : (q : CellNo → Bool) (n : ℕ) → filter q (cells_below (n + 1)) ≡ filter q (cells_below n) ++ cond (q (record { 0 = n })) (record { 0 = n } ∷ []) []
kept_more q n =
    ap (filter q) (ap cells_below (let e : n + 1 ≡ suc n = omega arith in e) ∙ cells_below_push n)
    ∙ filter-append q (cells_below n) (record { 0 = n } ∷ [])

pub kept_true : (q : CellNo → Bool) (n : ℕ) (xs ys : List CellNo) → q (record { 0 = n }) ≡ true → xs ≡ filter q (cells_below n) → ys ≡ xs ++ record { 0 = n } ∷ [] → ys ≡ filter q (cells_below (n + 1))
kept_true q n xs ys kept so_far pushed =
    pushed ∙ ap (λ l. l ++ record { 0 = n } ∷ []) so_far
    ∙ ap (λ b. filter q (cells_below n) ++ cond b (record { 0 = n } ∷ []) []) (sym kept)
    ∙ sym (kept_more q n)

pub kept_false : (q : CellNo → Bool) (n : ℕ) (xs : List CellNo) → q (record { 0 = n }) ≡ false → xs ≡ filter q (cells_below n) → xs ≡ filter q (cells_below (n + 1))
kept_false q n xs left so_far =
    so_far ∙ sym (append-nil (filter q (cells_below n)))
    ∙ ap (λ b. filter q (cells_below n) ++ cond b (record { 0 = n } ∷ []) []) (sym left)
    ∙ sym (kept_more q n)

-- the common members, with one more cell of the list
pub common_more : (found members : set.FinSet nat_cmp) (cells : List CellNo) (i : ℕ) → i < length cells → set.contains members (get_or cells i no_cell).0 ≡ true → ((c : CellNo) → set.contains found c.0 ≡ (has_cell (take i cells) c && set.contains members c.0)) → (c : CellNo) → set.contains (set.insert found (get_or cells i no_cell).0) c.0 ≡ (has_cell (take (i + 1) cells) c && set.contains members c.0)
common_more found members cells i within member so_far c =
    let k : ℕ = (get_or cells i no_cell).0 in
    contains-insert_nat found k c.0
    ∙ ap (λ b. eqb c.0 k || b) (so_far c)
    ∙ elim (cases_eq c.0 k) [
      | inl same ↦
          let there : set.contains members c.0 ≡ true = ap (set.contains members) same ∙ member in
          or_left (eqb c.0 k) (has_cell (take i cells) c && set.contains members c.0) (eq-eqb c.0 k same)
          ∙ sym (and_from (has_cell (take (i + 1) cells) c) (set.contains members c.0)
          (list_any_more (λ d. eqb d.0 c.0) cells i no_cell within ∙ or_right (has_cell (take i cells) c) (eqb k c.0) (eq-eqb k c.0 (sym same))) there)
      | inr other ↦
          ap (λ b. b || (has_cell (take i cells) c && set.contains members c.0)) (ne_eqb c.0 k other)
          ∙ ap (λ b. b && set.contains members c.0) (sym (or_turned (has_cell (take i cells) c) false)
          ∙ ap (λ b. has_cell (take i cells) c || b) (sym (ne_eqb k c.0 (λ e. other (sym e))))
          ∙ sym (list_any_more (λ d. eqb d.0 c.0) cells i no_cell within))
    ]

pub common_same : (found members : set.FinSet nat_cmp) (cells : List CellNo) (i : ℕ) → i < length cells → set.contains members (get_or cells i no_cell).0 ≡ false → ((c : CellNo) → set.contains found c.0 ≡ (has_cell (take i cells) c && set.contains members c.0)) → (c : CellNo) → set.contains found c.0 ≡ (has_cell (take (i + 1) cells) c && set.contains members c.0)
common_same found members cells i within missing so_far c =
    let k : ℕ = (get_or cells i no_cell).0 in
    so_far c
    ∙ elim (cases_eq c.0 k) [
      | inl same ↦
          let off : set.contains members c.0 ≡ false = ap (set.contains members) same ∙ missing in
          and_right (has_cell (take i cells) c) (set.contains members c.0) off ∙ sym (and_right (has_cell (take (i + 1) cells) c) (set.contains members c.0) off)
      | inr other ↦
          ap (λ b. b && set.contains members c.0) (sym (or_turned (has_cell (take i cells) c) false)
          ∙ ap (λ b. has_cell (take i cells) c || b) (sym (ne_eqb k c.0 (λ e. other (sym e))))
          ∙ sym (list_any_more (λ d. eqb d.0 c.0) cells i no_cell within))
    ]

-- a set without one more cell of the list
pub removed_more : (free before : set.FinSet nat_cmp) (cells : List CellNo) (i : ℕ) → i < length cells → ((c : CellNo) → set.contains free c.0 ≡ (set.contains before c.0 && not (has_cell (take i cells) c))) → (c : CellNo) → set.contains (set.remove free (get_or cells i no_cell).0) c.0 ≡ (set.contains before c.0 && not (has_cell (take (i + 1) cells) c))
removed_more free before cells i within so_far c =
    let k : ℕ = (get_or cells i no_cell).0 in
    contains-remove_nat free k c.0
    ∙ ap (λ b. not (eqb c.0 k) && b) (so_far c)
    ∙ ap (λ b. not b && (set.contains before c.0 && not (has_cell (take i cells) c))) (eqb_turned c.0 k)
    ∙ not_and (eqb k c.0) (set.contains before c.0) (has_cell (take i cells) c)
    ∙ ap (λ b. set.contains before c.0 && not b) (sym (list_any_more (λ d. eqb d.0 c.0) cells i no_cell within))
  where
    not_and : (e x h : Bool) → (not e && (x && not h)) ≡ (x && not (h || e))
    not_and true true true = refl
    not_and true true false = refl
    not_and true false h = refl
    not_and false true true = refl
    not_and false true false = refl
    not_and false false h = refl

-- the cells that are kept by a set of some cells are those cells in order
pub in_order_kept : (members : set.FinSet nat_cmp) (cells kept : List CellNo) (n count : ℕ) → ((c : CellNo) → set.contains members c.0 ≡ has_cell cells c) → count ≡ n → kept ≡ filter (λ c. set.contains members c.0) (cells_below count) → kept ≡ in_order n cells
in_order_kept members cells kept n count is_member same is =
    is ∙ filter_agree (λ (c : CellNo). set.contains members c.0) (has_cell cells) is_member (cells_below count) ∙ ap (λ m. in_order m cells) same

-- what is read at an index within a list doesn't depend on the default
pub read_at : {A : Type 0} (xs : List A) (i : ℕ) (x d : A) → i < length xs → x ≡ get_or xs i x → x ≡ get_or xs i d
read_at [] i x d within is = absurd (omega arith)
read_at (y ∷ ys) zero x d within is = is
read_at (y ∷ ys) (suc i) x d within is = read_at ys i x d (omega arith) is

-- what all cells of a list pass, a cell in it passes
pub list_all_has : (p : CellNo → Bool) (cells : List CellNo) (c : CellNo) → list_all p cells ≡ true → has_cell cells c ≡ true → p c ≡ true
list_all_has p [] c all has = absurd (false≢true has)
list_all_has p (d ∷ ds) c all has =
    let parts = and_parts (p d) (list_all p ds) all in
    elim (or_cases (eqb d.0 c.0) (has_cell ds c) has) [
      | inl first ↦ let is : d ≡ c = ap (λ k. record { 0 = k }) (eqb-true d.0 c.0 first) in ap p (sym is) ∙ parts.0
      | inr later ↦ list_all_has p ds c parts.1 later
    ]

pub All_has : (P : CellNo → Type 0) (cells : List CellNo) (c : CellNo) → All P cells → has_cell cells c ≡ true → P c
All_has P [] c all has = absurd (false≢true has)
All_has P (d ∷ ds) c all has = elim (or_cases (eqb d.0 c.0) (has_cell ds c) has) [
  | inl first ↦ let is : d ≡ c = ap (λ k. record { 0 = k }) (eqb-true d.0 c.0 first) in subst P is (All-head P d ds all)
  | inr later ↦ All_has P ds c (All-tail P d ds all) later
]

pub none_has : (p : CellNo → Bool) (cells : List CellNo) (c : CellNo) → list_any p cells ≡ false → has_cell cells c ≡ true → p c ≡ false
none_has p [] c none has = absurd (false≢true has)
none_has p (d ∷ ds) c none has =
    let parts = or_parts (p d) (list_any p ds) none in
    elim (or_cases (eqb d.0 c.0) (has_cell ds c) has) [
      | inl first ↦ let is : d ≡ c = ap (λ k. record { 0 = k }) (eqb-true d.0 c.0 first) in ap p (sym is) ∙ parts.0
      | inr later ↦ none_has p ds c parts.1 later
    ]

-- what no cell of a list passes, none passes once they are in order
pub none_in_order : (p : CellNo → Bool) (n : ℕ) (cells : List CellNo) → are_known n cells ≡ true → list_any p cells ≡ false → All (λ c. p c ≡ false) (in_order n cells)
none_in_order p n cells known none =
    All-weaker (λ c. has_cell (in_order n cells) c ≡ true) (λ c. p c ≡ false)
    (λ c has. none_has p cells c none (sym (has_cell-in_order n cells c known) ∙ has))
    (in_order n cells) (has_each (in_order n cells))

-- a list that is written back as a whole
pub written_back : {A : Type 0} (n : ℕ) (new rest : List A) → n ≡ length new → take n (new ++ rest) ≡ new
written_back zero [] [] same = refl
written_back zero [] (r ∷ rs) same = refl
written_back (suc n) [] rest same = absurd (omega arith)
written_back zero (x ∷ xs) rest same = absurd (omega arith)
written_back (suc n) (x ∷ xs) rest same = ap (λ ys. x ∷ ys) (written_back n xs rest (omega arith))
