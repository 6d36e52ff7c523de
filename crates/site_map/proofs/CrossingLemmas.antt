-- Crossings: the rest, flow lines, and the number of claims.
use Rattle.std.proofs.Common.{◌≡◌, suc, ◌+◌, ◌<◌, ◌≤◌, max, Bool, true, false, cond, not, ◌&&◌, ◌||◌, inl, inr, List, [], ◌∷◌, ◌++◌, length, refl, sym, ap, subst, ◌∙◌, arith}
use Rattle.std.specs.List.{filter, list_any, All}
use Rattle.std.specs.FinSet as set
use Rattle.std.specs.Ordering.{nat_cmp}
use Rattle.std.proofs.lemmas.Bool.{true≢false, false≢true, cases_Bool, or_parts, or_from}
use Rattle.std.proofs.lemmas.List.{length_push}
use Rattle.std.proofs.lemmas.List.Folds.{list_any-append}
use Rattle.std.proofs.lemmas.List.Elements.{All-weaker}
use Rattle.fleet_model.specs.Lists.{has_cell}
use Rattle.fleet_base.specs.declared.numbers.CellNo.{CellNo}
use Rattle.site_map.specs.Crossings.{BuiltCrossing, claim_count_of, completed, flows_with_rest, in_flow, with_line}
use Rattle.site_map.specs.Inside.{IsCrossing}
use Rattle.site_map.proofs.CellLemmas.{has_each, list_any_agree_in}

filter_none : {A : Type 0} (p : A → Bool) (xs : List A) → list_any p xs ≡ false → filter p xs ≡ []
filter_none p [] none = refl
filter_none p (x ∷ xs) none =
    let parts = or_parts (p x) (list_any p xs) none in
    ap (λ b. cond b (x ∷ filter p xs) (filter p xs)) parts.0 ∙ filter_none p xs parts.1

filter_some : {A : Type 0} (p : A → Bool) (xs : List A) → list_any p xs ≡ true → 0 < length (filter p xs)
filter_some p [] some = absurd (false≢true some)
filter_some p (x ∷ xs) some =
    elim (p x) as (λ b. (b || list_any p xs) ≡ true → 0 < length (cond b (x ∷ filter p xs) (filter p xs))) [
      | true ↦ λ e. omega arith
      | false ↦ λ e. filter_some p xs e
    ] some

length_with_rest : (line : List CellNo) (lines : List (List CellNo)) (rest : List CellNo) → 0 < length rest → length (flows_with_rest (line ∷ lines) rest) ≡ length (line ∷ lines) + 1
length_with_rest line lines [] some = absurd (omega arith)
length_with_rest line lines (c ∷ cs) some = length_push (line ∷ lines) (c ∷ cs)

abbrev pub is_rest : List (List CellNo) → CellNo → Bool
is_rest flows c = not (in_flow flows c)

-- a crossing with lines has one more flow than lines where cells are in none of them
pub length-completed : (cells : List CellNo) (line : List CellNo) (lines : List (List CellNo)) → length (completed (record { cells = cells; flows = line ∷ lines })).flows ≡ cond (list_any (is_rest (line ∷ lines)) cells) (length (line ∷ lines) + 1) (length (line ∷ lines))
length-completed cells line lines =
    elim (cases_Bool (list_any (is_rest (line ∷ lines)) cells)) [
      | inl some ↦
          length_with_rest line lines (filter (is_rest (line ∷ lines)) cells) (filter_some (is_rest (line ∷ lines)) cells some)
          ∙ ap (λ b. cond b (length (line ∷ lines) + 1) (length (line ∷ lines))) (sym some)
      | inr none ↦
          ap (λ rest. length (flows_with_rest (line ∷ lines) rest)) (filter_none (is_rest (line ∷ lines)) cells none)
          ∙ ap (λ b. cond b (length (line ∷ lines) + 1) (length (line ∷ lines))) (sym none)
    ]

-- the claims of a crossing: one for each line, and one more where cells are in no line
pub claim_count-completed : (cells : List CellNo) (flows : List (List CellNo)) → 0 < length cells → claim_count_of (completed (record { cells = cells; flows = flows })) ≡ cond (list_any (is_rest flows) cells) (length flows + 1) (length flows)
claim_count-completed [] flows some = absurd (omega arith)
claim_count-completed (c ∷ cs) [] some = refl
claim_count-completed (c ∷ cs) (line ∷ lines) some =
    ap (max 1) (length-completed (c ∷ cs) line lines)
    ∙ elim (list_any (is_rest (line ∷ lines)) (c ∷ cs)) as (λ b. max 1 (cond b (suc (length lines) + 1) (suc (length lines))) ≡ cond b (suc (length lines) + 1) (suc (length lines))) [
      | true ↦ omega arith
      | false ↦ omega arith
    ]

pub in_flow_push : (flows : List (List CellNo)) (line : List CellNo) (c : CellNo) → in_flow (flows ++ line ∷ []) c ≡ (in_flow flows c || has_cell line c)
in_flow_push flows line c =
    list_any-append (λ flow. has_cell flow c) flows (line ∷ [])
    ∙ elim (has_cell line c) as (λ b. (in_flow flows c || (b || false)) ≡ (in_flow flows c || b)) [ true ↦ refl | false ↦ refl ]

not_or : (x a b : Bool) → ((x && not a) && not b) ≡ (x && not (a || b))
not_or x a b = elim x as (λ v. ((v && not a) && not b) ≡ (v && not (a || b))) [
  | true ↦ elim a as (λ v. (not v && not b) ≡ not (v || b)) [ true ↦ refl | false ↦ refl ]
  | false ↦ refl
]

-- the cells that are free behind one more line
pub free_behind : (cells line : List CellNo) (flows : List (List CellNo)) (c : CellNo) → ((has_cell cells c && not (in_flow flows c)) && not (has_cell line c)) ≡ (has_cell cells c && not (in_flow (flows ++ line ∷ []) c))
free_behind cells line flows c =
    not_or (has_cell cells c) (in_flow flows c) (has_cell line c)
    ∙ ap (λ b. has_cell cells c && not b) (sym (in_flow_push flows line c))

-- whether a line leaves a rest, by the sets of free cells and of the line's cells
pub rest_by_sets : (cells line : List CellNo) (flows : List (List CellNo)) (free members : set.FinSet nat_cmp) → ((c : CellNo) → set.contains free c.0 ≡ (has_cell cells c && not (in_flow flows c))) → ((c : CellNo) → set.contains members c.0 ≡ has_cell line c) → list_any (λ c. set.contains free c.0 && not (set.contains members c.0)) cells ≡ list_any (is_rest (flows ++ line ∷ [])) cells
rest_by_sets cells line flows free members is_free is_member =
    list_any_agree_in (λ c. set.contains free c.0 && not (set.contains members c.0)) (is_rest (flows ++ line ∷ [])) cells
    (All-weaker (λ c. has_cell cells c ≡ true) (λ c. (set.contains free c.0 && not (set.contains members c.0)) ≡ is_rest (flows ++ line ∷ []) c)
    (λ c has.
    ap (λ b. b && not (set.contains members c.0)) (is_free c)
    ∙ ap (λ b. (has_cell cells c && not (in_flow flows c)) && not b) (is_member c)
    ∙ free_behind cells line flows c
    ∙ ap (λ b. b && not (in_flow (flows ++ line ∷ []) c)) has)
    cells (has_each cells))

-- a crossing without lines has a rest
pub rest_at_first : (cells : List CellNo) → 0 < length cells → true ≡ list_any (is_rest []) cells
rest_at_first [] some = absurd (omega arith)
rest_at_first (c ∷ cs) some = refl

and_true : (b : Bool) → b ≡ (b && true)
and_true b = elim b as (λ v. v ≡ (v && true)) [ true ↦ refl | false ↦ refl ]

pub IsCrossing-new : (cells : List CellNo) (members : set.FinSet nat_cmp) → 0 < length cells → All (λ c. c.0 < 1024) cells → ((c : CellNo) → set.contains members c.0 ≡ has_cell cells c) → IsCrossing cells [] members true
IsCrossing-new cells members some known is_member = record {
  some = some;
  known = known;
  free_cells = λ c. is_member c ∙ and_true (has_cell cells c);
  rest = rest_at_first cells some;
}

-- the number of claims, by whether there is a rest
pub claims_of_kept : (cells : List CellNo) (lines : List (List CellNo)) (free : set.FinSet nat_cmp) (has_rest : Bool) → IsCrossing cells lines free has_rest → claim_count_of (completed (record { cells = cells; flows = lines })) ≡ cond has_rest (length lines + 1) (length lines)
claims_of_kept cells lines free has_rest kept =
    claim_count-completed cells lines kept.some
    ∙ ap (λ b. cond b (length lines + 1) (length lines)) (sym kept.rest)

-- a crossing without lines has no flows; one with lines has a claim for each flow
pub flows_none : (cells : List CellNo) (lines : List (List CellNo)) → length lines ≡ 0 → length (completed (record { cells = cells; flows = lines })).flows ≡ 0
flows_none cells [] none = refl
flows_none cells (line ∷ lines) none = absurd (omega arith)

pub flows_some : (cells : List CellNo) (lines : List (List CellNo)) → 0 < length lines → claim_count_of (completed (record { cells = cells; flows = lines })) ≡ length (completed (record { cells = cells; flows = lines })).flows
flows_some cells [] some = absurd (omega arith)
flows_some cells (line ∷ lines) some =
    let least : 1 ≤ length (completed (record { cells = cells; flows = line ∷ lines })).flows = subst (λ n. 1 ≤ n) (sym (length-completed cells line lines)) (elim (list_any (is_rest (line ∷ lines)) cells) as (λ b. 1 ≤ cond b (length (line ∷ lines) + 1) (length (line ∷ lines))) [ true ↦ omega arith | false ↦ omega arith ]) in
    omega arith

-- the number of claims with one more line
pub claims_with_line : (cells line : List CellNo) (lines : List (List CellNo)) (free members : set.FinSet nat_cmp) (has_rest : Bool) → IsCrossing cells lines free has_rest → ((c : CellNo) → set.contains members c.0 ≡ has_cell line c) → claim_count_of (completed (with_line (record { cells = cells; flows = lines }) line)) ≡ cond (list_any (λ c. set.contains free c.0 && not (set.contains members c.0)) cells) (length lines + 2) (length lines + 1)
claims_with_line cells line lines free members has_rest kept is_member =
    claim_count-completed cells (lines ++ line ∷ []) kept.some
    ∙ ap (λ b. cond b (length (lines ++ line ∷ []) + 1) (length (lines ++ line ∷ []))) (sym (rest_by_sets cells line lines free members kept.free_cells is_member))
    ∙ elim (list_any (λ c. set.contains free c.0 && not (set.contains members c.0)) cells) as (λ b. cond b (length (lines ++ line ∷ []) + 1) (length (lines ++ line ∷ [])) ≡ cond b (length lines + 2) (length lines + 1)) [
      | true ↦ omega (arith, length_push lines line)
      | false ↦ length_push lines line
    ]

-- a crossing stays kept with one more line
pub IsCrossing-line : (cells line : List CellNo) (lines : List (List CellNo)) (free free' members : set.FinSet nat_cmp) (has_rest has_rest' : Bool) → IsCrossing cells lines free has_rest → ((c : CellNo) → set.contains members c.0 ≡ has_cell line c) → ((c : CellNo) → set.contains free' c.0 ≡ (set.contains free c.0 && not (has_cell line c))) → has_rest' ≡ list_any (λ c. set.contains free c.0 && not (set.contains members c.0)) cells → IsCrossing cells (lines ++ line ∷ []) free' has_rest'
IsCrossing-line cells line lines free free' members has_rest has_rest' kept is_member removed left = record {
  some = kept.some;
  known = kept.known;
  free_cells = λ c. removed c ∙ ap (λ b. b && not (has_cell line c)) (kept.free_cells c) ∙ free_behind cells line lines c;
  rest = left ∙ rest_by_sets cells line lines free members kept.free_cells is_member;
}

-- the same, by the answer of the look for a rest
pub claims_by_rest : (cells found line : List CellNo) (lines : List (List CellNo)) (free members : set.FinSet nat_cmp) (has_rest left : Bool) → IsCrossing cells lines free has_rest → ((c : CellNo) → set.contains members c.0 ≡ has_cell line c) → found ≡ cells → left ≡ list_any (λ c. set.contains free c.0 && not (set.contains members c.0)) found → claim_count_of (completed (with_line (record { cells = cells; flows = lines }) line)) ≡ cond left (length lines + 2) (length lines + 1)
claims_by_rest cells found line lines free members has_rest left kept is_member are left_is =
    claims_with_line cells line lines free members has_rest kept is_member
    ∙ ap (λ b. cond b (length lines + 2) (length lines + 1)) (sym (left_is ∙ ap (list_any (λ c. set.contains free c.0 && not (set.contains members c.0))) are))

-- a line leaves no rest where there was none
no_rest_still : (flows : List (List CellNo)) (line cells : List CellNo) → list_any (is_rest flows) cells ≡ false → list_any (is_rest (flows ++ line ∷ [])) cells ≡ false
no_rest_still flows line [] none = refl
no_rest_still flows line (c ∷ cs) none =
    let parts = or_parts (is_rest flows c) (list_any (is_rest flows) cs) none in
    or_from (is_rest (flows ++ line ∷ []) c) (list_any (is_rest (flows ++ line ∷ [])) cs)
    (ap not (in_flow_push flows line c) ∙ taken (in_flow flows c) (has_cell line c) parts.0)
    (no_rest_still flows line cs parts.1)
  where
    taken : (a b : Bool) → not a ≡ false → not (a || b) ≡ false
    taken true b h = refl
    taken false b h = absurd (true≢false h)

-- a line adds one claim or none
pub claims_step : (x : BuiltCrossing) (line : List CellNo) → 0 < length x.cells → (claim_count_of (completed x) ≤ claim_count_of (completed (with_line x line))) × (claim_count_of (completed (with_line x line)) ≤ claim_count_of (completed x) + 1)
claims_step x line some =
    let before = claim_count-completed x.cells x.flows some in
    let after = claim_count-completed x.cells (x.flows ++ line ∷ []) some in
    let long = length_push x.flows line in
    elim (cases_Bool (list_any (is_rest x.flows) x.cells)) [
      | inl rest ↦
          let before_is = before ∙ ap (λ b. cond b (length x.flows + 1) (length x.flows)) rest in
          elim (cases_Bool (list_any (is_rest (x.flows ++ line ∷ [])) x.cells)) [
            | inl left ↦ let after_is = after ∙ ap (λ b. cond b (length (x.flows ++ line ∷ []) + 1) (length (x.flows ++ line ∷ []))) left in (omega (arith, before_is, after_is, long), omega (arith, before_is, after_is, long))
            | inr gone ↦ let after_is = after ∙ ap (λ b. cond b (length (x.flows ++ line ∷ []) + 1) (length (x.flows ++ line ∷ []))) gone in (omega (arith, before_is, after_is, long), omega (arith, before_is, after_is, long))
          ]
      | inr none ↦
          let before_is = before ∙ ap (λ b. cond b (length x.flows + 1) (length x.flows)) none in
          let after_is = after ∙ ap (λ b. cond b (length (x.flows ++ line ∷ []) + 1) (length (x.flows ++ line ∷ []))) (no_rest_still x.flows line x.cells none) in
          (omega (arith, before_is, after_is, long), omega (arith, before_is, after_is, long))
    ]
