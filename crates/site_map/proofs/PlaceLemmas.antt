-- Places of cells in crossings, and lists that change index by index.
use Rattle.std.proofs.Common.{◌≡◌, ℕ, zero, suc, ◌+◌, ◌<◌, ◌≤◌, Bool, true, false, cond, not, ◌||◌, inl, inr, List, [], ◌∷◌, ◌++◌, length, map, get_or, set, Option, Some, None, refl, sym, ap, subst, ◌∙◌, arith, get_or-set_same, get_or-set_other}
use Rattle.std.specs.List.{position_or_len, All}
use Rattle.std.proofs.lemmas.List.Elements.{All-head, All-tail}
use Rattle.std.proofs.lemmas.Bool.{cases_Bool, cases_eq, eq-eqb, ne_eqb, or_parts, false≢true}
use Rattle.fleet_model.specs.Lists.{has_cell}
use Rattle.fleet_base.specs.declared.numbers.CellNo.{CellNo}
use Rattle.site_map.specs.declared.places.Place.{Place}
use Rattle.site_map.specs.declared.places.Places.{Places}
use Rattle.site_map.specs.declared.places.Places.TheVariants.{Free, One, Two}
use Rattle.site_map.specs.Built.{crossings_with, no_crossing}
use Rattle.site_map.specs.Crossings.{BuiltCrossing, flow_of, in_flow, with_line}
use Rattle.site_map.specs.Inside.{entered, marked, marked_place, place_in, places_from, places_list}
use Rattle.site_map.proofs.CrossingLemmas.{in_flow_push}

-- the elements below an index are changed by a relation, and the others stay
pub record IsChangedBelow {X : Type 0} (R : ℕ → X → X → Type 0) (n : ℕ) (d : X) (old new : List X) : Type 0 where
  pub below : (k : ℕ) → k < n → R k (get_or old k d) (get_or new k d)
  pub above : (k : ℕ) → n ≤ k → get_or new k d ≡ get_or old k d

pub changed_none : {X : Type 0} (R : ℕ → X → X → Type 0) (d : X) (xs : List X) → IsChangedBelow R 0 d xs xs
changed_none R d xs = record { below = λ k h. absurd (omega arith); above = λ k h. refl }

pub changed_set : {X : Type 0} (R : ℕ → X → X → Type 0) (n : ℕ) (d : X) (old new : List X) (y : X) → n < length new → IsChangedBelow R n d old new → R n (get_or old n d) y → IsChangedBelow R (n + 1) d old (set new n y)
changed_set R n d old new y within so_far here = record {
  below = λ k h. elim (cases_eq k n) [
    | inl same ↦
        let at : get_or (set new n y) k d ≡ y = ap (λ j. get_or (set new n y) j d) same ∙ get_or-set_same new n y d within in
        subst (λ v. R k (get_or old k d) v) (sym at) (subst (λ j. R j (get_or old j d) y) (sym same) here)
    | inr other ↦
        let ne : k ≡ n → ⊥ = other in
        let at : get_or (set new n y) k d ≡ get_or new k d = get_or-set_other new n k y d ne in
        subst (λ v. R k (get_or old k d) v) (sym at) (so_far.below k (omega arith))
  ];
  above = λ k h.
      let ne : k ≡ n → ⊥ = omega arith in
      let at : get_or (set new n y) k d ≡ get_or new k d = get_or-set_other new n k y d ne in
      at ∙ so_far.above k (omega arith);
}

pub changed_kept : {X : Type 0} (R : ℕ → X → X → Type 0) (n : ℕ) (d : X) (old new : List X) → IsChangedBelow R n d old new → R n (get_or old n d) (get_or old n d) → IsChangedBelow R (n + 1) d old new
changed_kept R n d old new so_far here = record {
  below = λ k h. elim (cases_eq k n) [
    | inl same ↦ subst (λ v. R k (get_or old k d) v) (sym (so_far.above k (omega arith))) (subst (λ j. R j (get_or old j d) (get_or old j d)) (sym same) here)
    | inr other ↦ so_far.below k (omega arith)
  ];
  above = λ k h. so_far.above k (omega arith);
}

-- how places change as a crossing is entered, and as a line is marked
abbrev pub Enters : (ℕ → Bool) → ℕ → ℕ → Places → Places → Type 0
Enters is_in crossing k old new = places_list new ≡ entered (is_in k) crossing (places_list old)

abbrev pub Marks : (ℕ → Bool) → ℕ → ℕ → ℕ → Places → Places → Type 0
Marks is_in crossing line k old new = places_list new ≡ marked (is_in k) crossing line (places_list old)

pub entered_at : (b : Bool) (k : ℕ) (old new : List Place) → b ≡ true → new ≡ entered true k old → new ≡ entered b k old
entered_at b k old new is made = made ∙ ap (λ v. entered v k old) (sym is)

pub entered_not : (b : Bool) (k : ℕ) (old : List Place) → b ≡ false → old ≡ entered b k old
entered_not b k old is = ap (λ v. entered v k old) (sym is)

pub marked_at : (b : Bool) (k line : ℕ) (old new : List Place) → b ≡ true → new ≡ marked true k line old → new ≡ marked b k line old
marked_at b k line old new is made = made ∙ ap (λ v. marked v k line old) (sym is)

pub marked_not : (b : Bool) (k line : ℕ) (old : List Place) → b ≡ false → old ≡ marked b k line old
marked_not b k line old is = ap (λ v. marked v k line old) (sym is)

-- a cell has one place for each crossing that contains it
pub length-places : (k : ℕ) (xs : List BuiltCrossing) (c : CellNo) → length (places_from k xs c) ≡ crossings_with xs c
length-places k [] c = refl
length-places k (x ∷ xs) c =
    elim (has_cell x.cells c) as (λ b. length (cond b (place_in k x c ∷ places_from (k + 1) xs c) (places_from (k + 1) xs c)) ≡ cond b 1 0 + crossings_with xs c) [
      | true ↦ omega (arith, length-places (k + 1) xs c)
      | false ↦ omega (arith, length-places (k + 1) xs c)
    ]

pub length-places_list : (places : Places) → length (places_list places) ≤ 2
length-places_list Free = omega arith
length-places_list (One p) = omega arith
length-places_list (Two p q) = omega arith

-- the places behind one more crossing without lines
pub places_push : (k : ℕ) (xs : List BuiltCrossing) (cells : List CellNo) (c : CellNo) → places_from k (xs ++ record { cells = cells; flows = [] } ∷ []) c ≡ entered (has_cell cells c) (k + length xs) (places_from k xs c)
places_push k [] cells c =
    ap (λ j. cond (has_cell cells c) (record { crossing = j; line = None } ∷ []) []) (let e : k ≡ k + 0 = omega arith in e)
places_push k (x ∷ xs) cells c =
    let later = places_push (k + 1) xs cells c in
    let count : k + 1 + length xs ≡ k + suc (length xs) = omega arith in
    let all : places_from (k + 1) (xs ++ record { cells = cells; flows = [] } ∷ []) c ≡ entered (has_cell cells c) (k + suc (length xs)) (places_from (k + 1) xs c) = later ∙ ap (λ j. entered (has_cell cells c) j (places_from (k + 1) xs c)) count in
    elim (has_cell x.cells c) as (λ b. cond b (place_in k x c ∷ places_from (k + 1) (xs ++ record { cells = cells; flows = [] } ∷ []) c) (places_from (k + 1) (xs ++ record { cells = cells; flows = [] } ∷ []) c) ≡ entered (has_cell cells c) (k + suc (length xs)) (cond b (place_in k x c ∷ places_from (k + 1) xs c) (places_from (k + 1) xs c))) [
      | true ↦
          ap (λ ps. place_in k x c ∷ ps) all
          ∙ elim (has_cell cells c) as (λ b. place_in k x c ∷ entered b (k + suc (length xs)) (places_from (k + 1) xs c) ≡ entered b (k + suc (length xs)) (place_in k x c ∷ places_from (k + 1) xs c)) [ true ↦ refl | false ↦ refl ]
      | false ↦ all
    ]

-- a cell that no crossing has, has no place
pub places_none : (k : ℕ) (xs : List BuiltCrossing) (c : CellNo) → All (λ x. has_cell x.cells c ≡ false) xs → places_from k xs c ≡ []
places_none k [] c none = refl
places_none k (x ∷ xs) c none =
    ap (λ b. cond b (place_in k x c ∷ places_from (k + 1) xs c) (places_from (k + 1) xs c)) (All-head (λ y. has_cell y.cells c ≡ false) x xs none)
    ∙ places_none (k + 1) xs c (All-tail (λ y. has_cell y.cells c ≡ false) x xs none)

abbrev pub has_it : CellNo → List CellNo → Bool
has_it c flow = has_cell flow c

-- the place of a cell among flows, with one more behind them
pub position_new : (flows : List (List CellNo)) (line : List CellNo) (c : CellNo) → in_flow flows c ≡ false → has_cell line c ≡ true → position_or_len (has_it c) (flows ++ line ∷ []) ≡ length flows
position_new [] line c none has = ap (λ b. cond (not b) (1 + 0) 0) has
position_new (f ∷ fs) line c none has =
    let parts = or_parts (has_cell f c) (in_flow fs c) none in
    ap (λ b. cond (not b) (1 + position_or_len (has_it c) (fs ++ line ∷ [])) 0) parts.0
    ∙ omega (arith, position_new fs line c parts.1 has)

pub position_old : (flows more : List (List CellNo)) (c : CellNo) → in_flow flows c ≡ true → position_or_len (has_it c) (flows ++ more) ≡ position_or_len (has_it c) flows
position_old [] more c has = absurd (false≢true has)
position_old (f ∷ fs) more c has =
    elim (cases_Bool (has_cell f c)) [
      | inl here ↦ ap (λ b. cond (not b) (1 + position_or_len (has_it c) (fs ++ more)) 0) here ∙ sym (ap (λ b. cond (not b) (1 + position_or_len (has_it c) fs) 0) here)
      | inr later ↦
          ap (λ b. cond (not b) (1 + position_or_len (has_it c) (fs ++ more)) 0) later
          ∙ ap (λ n. 1 + n) (position_old fs more c (ap (λ b. b || in_flow fs c) (sym later) ∙ has))
          ∙ sym (ap (λ b. cond (not b) (1 + position_or_len (has_it c) fs) 0) later)
    ]

pub position_past : (flows : List (List CellNo)) (c : CellNo) → in_flow flows c ≡ false → position_or_len (has_it c) flows ≡ length flows
position_past [] c none = refl
position_past (f ∷ fs) c none =
    let parts = or_parts (has_cell f c) (in_flow fs c) none in
    ap (λ b. cond (not b) (1 + position_or_len (has_it c) fs) 0) parts.0
    ∙ omega (arith, position_past fs c parts.1)

pub position_within : (flows : List (List CellNo)) (c : CellNo) → in_flow flows c ≡ true → position_or_len (has_it c) flows < length flows
position_within [] c has = absurd (false≢true has)
position_within (f ∷ fs) c has =
    elim (cases_Bool (has_cell f c)) [
      | inl here ↦ subst (λ n. n < suc (length fs)) (sym (ap (λ b. cond (not b) (1 + position_or_len (has_it c) fs) 0) here)) (omega arith)
      | inr later ↦
          let within = position_within fs c (ap (λ b. b || in_flow fs c) (sym later) ∙ has) in
          subst (λ n. n < suc (length fs)) (sym (ap (λ b. cond (not b) (1 + position_or_len (has_it c) fs) 0) later)) (omega (arith, within))
    ]

or_false : (a b : Bool) → b ≡ false → (a || b) ≡ a
or_false a b is = ap (λ v. a || v) is ∙ elim a as (λ v. (v || false) ≡ v) [ true ↦ refl | false ↦ refl ]

or_true : (a b : Bool) → b ≡ true → (a || b) ≡ true
or_true a b is = ap (λ v. a || v) is ∙ elim a as (λ v. (v || true) ≡ true) [ true ↦ refl | false ↦ refl ]

-- the place of a cell that isn't in a new line stays
place_same : (k : ℕ) (x : BuiltCrossing) (line : List CellNo) (c : CellNo) → has_cell line c ≡ false → place_in k (with_line x line) c ≡ place_in k x c
place_same k x line c out =
    let flows : in_flow (x.flows ++ line ∷ []) c ≡ in_flow x.flows c = in_flow_push x.flows line c ∙ or_false (in_flow x.flows c) (has_cell line c) out in
    elim (cases_Bool (in_flow x.flows c)) [
      | inl has ↦
          ap (λ b. record { crossing = k; line = cond b (Some (position_or_len (has_it c) (x.flows ++ line ∷ []))) None }) (flows ∙ has)
          ∙ ap (λ n. record { crossing = k; line = Some n }) (position_old x.flows (line ∷ []) c has)
          ∙ ap (λ b. record { crossing = k; line = cond b (Some (position_or_len (has_it c) x.flows)) None }) (sym has)
      | inr none ↦
          ap (λ b. record { crossing = k; line = cond b (Some (position_or_len (has_it c) (x.flows ++ line ∷ []))) None }) (flows ∙ none)
          ∙ ap (λ b. record { crossing = k; line = cond b (Some (position_or_len (has_it c) x.flows)) None }) (sym none)
    ]

-- the place of a cell of a new line
place_marked : (k : ℕ) (x : BuiltCrossing) (line : List CellNo) (c : CellNo) → has_cell line c ≡ true → in_flow x.flows c ≡ false → place_in k (with_line x line) c ≡ record { crossing = k; line = Some (length x.flows) }
place_marked k x line c has none =
    let flows : in_flow (x.flows ++ line ∷ []) c ≡ true = in_flow_push x.flows line c ∙ or_true (in_flow x.flows c) (has_cell line c) has in
    ap (λ b. record { crossing = k; line = cond b (Some (position_or_len (has_it c) (x.flows ++ line ∷ []))) None }) flows
    ∙ ap (λ n. record { crossing = k; line = Some n }) (position_new x.flows line c none has)

marked_other : (k j line : ℕ) (l : Option ℕ) → (j ≡ k → ⊥) → marked_place k line (record { crossing = j; line = l }) ≡ record { crossing = j; line = l }
marked_other k j line l other = ap (λ b. cond b (record { crossing = k; line = Some line }) (record { crossing = j; line = l })) (ne_eqb j k other)

-- places in later crossings aren't marked
marked_later : (k j line : ℕ) (xs : List BuiltCrossing) (c : CellNo) → k < j → map (marked_place k line) (places_from j xs c) ≡ places_from j xs c
marked_later k j line [] c later = refl
marked_later k j line (x ∷ xs) c later =
    elim (has_cell x.cells c) as (λ b. map (marked_place k line) (cond b (place_in j x c ∷ places_from (j + 1) xs c) (places_from (j + 1) xs c)) ≡ cond b (place_in j x c ∷ places_from (j + 1) xs c) (places_from (j + 1) xs c)) [
      | true ↦
          ap (λ p. p ∷ map (marked_place k line) (places_from (j + 1) xs c)) (marked_other k j line (cond (in_flow x.flows c) (Some (flow_of x c)) None) (omega arith))
          ∙ ap (λ ps. place_in j x c ∷ ps) (marked_later k (j + 1) line xs c (omega arith))
      | false ↦ marked_later k (j + 1) line xs c (omega arith)
    ]

-- a cell that isn't in a new line has the places that it had
pub places_same : (j : ℕ) (xs : List BuiltCrossing) (i : ℕ) (line : List CellNo) (c : CellNo) → i < length xs → has_cell line c ≡ false → places_from j (set xs i (with_line (get_or xs i no_crossing) line)) c ≡ places_from j xs c
places_same j [] i line c within out = absurd (omega arith)
places_same j (x ∷ xs) zero line c within out = ap (λ p. cond (has_cell x.cells c) (p ∷ places_from (j + 1) xs c) (places_from (j + 1) xs c)) (place_same j x line c out)
places_same j (x ∷ xs) (suc i) line c within out = ap (λ ps. cond (has_cell x.cells c) (place_in j x c ∷ ps) ps) (places_same (j + 1) xs i line c (omega arith) out)

-- a cell of a new line is marked in that crossing
pub places_marked : (j : ℕ) (xs : List BuiltCrossing) (i : ℕ) (line : List CellNo) (c : CellNo) → i < length xs → has_cell line c ≡ true → has_cell (get_or xs i no_crossing).cells c ≡ true → in_flow (get_or xs i no_crossing).flows c ≡ false → places_from j (set xs i (with_line (get_or xs i no_crossing) line)) c ≡ map (marked_place (j + i) (length (get_or xs i no_crossing).flows)) (places_from j xs c)
places_marked j [] i line c within has there none = absurd (omega arith)
places_marked j (x ∷ xs) zero line c within has there none =
    let here : j ≡ j + 0 = omega arith in
    let n : ℕ = length x.flows in
    ap (λ b. cond b (place_in j (with_line x line) c ∷ places_from (j + 1) xs c) (places_from (j + 1) xs c)) there
    ∙ ap (λ p. p ∷ places_from (j + 1) xs c) (place_marked j x line c has none)
    ∙ ap (λ ps. record { crossing = j; line = Some n } ∷ ps) (sym (marked_later j (j + 1) n xs c (omega arith)))
    ∙ ap (λ b. cond b (record { crossing = j; line = Some n }) (place_in j x c) ∷ map (marked_place j n) (places_from (j + 1) xs c)) (sym (eq-eqb j j refl))
    ∙ ap (λ b. map (marked_place j n) (cond b (place_in j x c ∷ places_from (j + 1) xs c) (places_from (j + 1) xs c))) (sym there)
    ∙ ap (λ k. map (marked_place k n) (places_from j (x ∷ xs) c)) here
places_marked j (x ∷ xs) (suc i) line c within has there none =
    let n : ℕ = length (get_or xs i no_crossing).flows in
    let shift : j + 1 + i ≡ j + suc i = omega arith in
    let later : places_from (j + 1) (set xs i (with_line (get_or xs i no_crossing) line)) c ≡ map (marked_place (j + suc i) n) (places_from (j + 1) xs c) = places_marked (j + 1) xs i line c (omega arith) has there none ∙ ap (λ k. map (marked_place k n) (places_from (j + 1) xs c)) shift in
    ap (λ ps. cond (has_cell x.cells c) (place_in j x c ∷ ps) ps) later
    ∙ elim (has_cell x.cells c) as (λ b. cond b (place_in j x c ∷ map (marked_place (j + suc i) n) (places_from (j + 1) xs c)) (map (marked_place (j + suc i) n) (places_from (j + 1) xs c)) ≡ map (marked_place (j + suc i) n) (cond b (place_in j x c ∷ places_from (j + 1) xs c) (places_from (j + 1) xs c))) [
      | true ↦ ap (λ p. p ∷ map (marked_place (j + suc i) n) (places_from (j + 1) xs c)) (sym (marked_other (j + suc i) j n (cond (in_flow x.flows c) (Some (flow_of x c)) None) (omega arith)))
      | false ↦ refl
    ]
