-- Crossings that come one after the other, each with one flow after the other: their claims stay few.
use Rattle.std.proofs.Common.{◌≡◌, ℕ, zero, suc, ◌+◌, ◌<◌, ◌≤◌, Bool, true, false, not, cond, leb, List, [], ◌∷◌, ◌++◌, length, map, take, get_or, refl, sym, ap, subst, ◌∙◌, arith}
use Rattle.std.specs.Prelude.{All}
use Rattle.std.specs.List.{filter, list_any}
use Rattle.std.proofs.lemmas.Bool.{false≢true, lt-leb, not_from_true}
use Rattle.std.proofs.lemmas.List.{map-append, take_all, take_more}
use Rattle.std.proofs.lemmas.List.Elements.{All-get_or, All-head, All-tail, All-take, All-weaker}
use Rattle.std.proofs.lemmas.List.Folds.{list_any_none, map_fixed}
use Rattle.fleet_model.specs.Lists.{has_cell}
use Rattle.fleet_base.specs.declared.numbers.CellNo.{CellNo}
use Rattle.site_map.specs.Built.{BuiltSite, crossings_with, no_crossing}
use Rattle.site_map.specs.Crossings.{BuiltCrossing, claim_count_of, completed, crossing_claims, flows_with_rest, in_flow, rest_of}
use Rattle.site_map.specs.Valid.{IsCrossingIn, IsValidSite}
use Rattle.site_map.proofs.CellLemmas.{All_has, has_each}
use Rattle.site_map.proofs.ClaimLemmas.{crossing_claims-append, crossing_claims_front, crossing_claims_more}
use Rattle.site_map.proofs.CrossingLemmas.{claims_step}

none_kept : (p : CellNo → Bool) (cells : List CellNo) → All (λ c. p c ≡ false) cells → filter p cells ≡ []
none_kept p [] none = refl
none_kept p (c ∷ cs) none = rw (All-head (λ d. p d ≡ false) c cs none) (none_kept p cs (All-tail (λ d. p d ≡ false) c cs none))

no_rest : (flows : List (List CellNo)) (rest : List CellNo) → (0 < length flows → rest ≡ []) → flows_with_rest flows rest ≡ flows
no_rest [] rest none = refl
no_rest (f ∷ fs) rest none = ap (flows_with_rest (f ∷ fs)) (none (omega arith))

-- flows that share all cells out leave no rest
pub whole_completed : (n : ℕ) (x : BuiltCrossing) → IsCrossingIn n x → completed x ≡ x
whole_completed n x valid =
    ap (λ flows. let y : BuiltCrossing = record { cells = x.cells; flows = flows } in y)
    (no_rest x.flows (rest_of x)
    (λ some. none_kept (λ c. not (in_flow x.flows c)) x.cells (All-weaker (λ c. has_cell x.cells c ≡ true) (λ c. not (in_flow x.flows c) ≡ false) (λ c has. not_from_true (in_flow x.flows c) (valid.whole c some has)) x.cells (has_each x.cells))))

pub whole_all : (n : ℕ) (xs : List BuiltCrossing) → All (IsCrossingIn n) xs → map completed xs ≡ xs
whole_all n xs all = map_fixed completed xs (All-weaker (IsCrossingIn n) (λ x. completed x ≡ x) (λ x valid. whole_completed n x valid) xs all)

-- a crossing with its first flows
abbrev pub with_first : BuiltCrossing → ℕ → BuiltCrossing
with_first x j = record { cells = x.cells; flows = take j x.flows }

-- it has no more claims than with all of them: `left` flows are left out
few_first : (x : BuiltCrossing) (left j : ℕ) → 0 < length x.cells → j + left ≡ length x.flows → claim_count_of (completed (with_first x j)) ≤ claim_count_of (completed x)
few_first x zero j some all =
    let same : take j x.flows ≡ x.flows = take_all j x.flows (omega arith) in
    subst (λ (flows : List (List CellNo)). claim_count_of (completed (record { cells = x.cells; flows = flows })) ≤ claim_count_of (completed x)) (sym same) (omega arith)
few_first x (suc left) j some all =
    let more : take (j + 1) x.flows ≡ take j x.flows ++ get_or x.flows j [] ∷ [] = take_more x.flows j [] (omega arith) in
    let step = (claims_step (with_first x j) (get_or x.flows j []) some).0 in
    let later = few_first x left (j + 1) some (omega arith) in
    let next : claim_count_of (completed (with_first x j)) ≤ claim_count_of (completed (with_first x (j + 1))) =
    subst (λ (flows : List (List CellNo)). claim_count_of (completed (with_first x j)) ≤ claim_count_of (completed (record { cells = x.cells; flows = flows }))) (sym more) step in
    omega arith

pub claims_first : (n : ℕ) (x : BuiltCrossing) (j left : ℕ) → IsCrossingIn n x → j + left ≡ length x.flows → claim_count_of (completed (with_first x j)) ≤ claim_count_of x
claims_first n x j left valid all = subst (λ y. claim_count_of (completed (with_first x j)) ≤ claim_count_of y) (whole_completed n x valid) (few_first x left j valid.cells.some all)

-- with crossing k as far as it is read, the claims are few
pub claims_upto : (site : BuiltSite) (k j left : ℕ) → IsValidSite site → k < length site.crossings → j + left ≡ length (get_or site.crossings k no_crossing).flows
    → crossing_claims (map completed (take k site.crossings ++ with_first (get_or site.crossings k no_crossing) j ∷ [])) ≤ 256
claims_upto site k j left valid within all =
    let x : BuiltCrossing = get_or site.crossings k no_crossing in
    let front : List BuiltCrossing = take k site.crossings in
    let own : IsCrossingIn site.cells x = All-get_or (IsCrossingIn site.cells) site.crossings k no_crossing within valid.crossed in
    let split : map completed (front ++ with_first x j ∷ []) ≡ front ++ completed (with_first x j) ∷ [] =
    map-append completed front (with_first x j ∷ []) ∙ ap (λ (xs : List BuiltCrossing). xs ++ completed (with_first x j) ∷ []) (whole_all site.cells front (All-take (IsCrossingIn site.cells) k site.crossings valid.crossed)) in
    let sum : crossing_claims (map completed (front ++ with_first x j ∷ [])) ≡ crossing_claims front + (claim_count_of (completed (with_first x j)) + 0) = ap crossing_claims split ∙ crossing_claims-append front (completed (with_first x j) ∷ []) in
    let less = claims_first site.cells x j left own all in
    let more = crossing_claims_more site.crossings k within in
    let front_few = crossing_claims_front site.crossings (k + 1) in
    let few = valid.few_claims in
    omega arith

-- a cell of crossing k is in fewer of those before it than it may be in
pub with_append : (xs ys : List BuiltCrossing) (c : CellNo) → crossings_with (xs ++ ys) c ≡ crossings_with xs c + crossings_with ys c
with_append [] ys c = omega arith
with_append (x ∷ xs) ys c = ap (λ n. cond (has_cell x.cells c) 1 0 + n) (with_append xs ys c) ∙ omega arith

with_front : (xs : List BuiltCrossing) (k : ℕ) (c : CellNo) → crossings_with (take k xs) c ≤ crossings_with xs c
with_front [] zero c = omega arith
with_front [] (suc k) c = omega arith
with_front (x ∷ xs) zero c = omega arith
with_front (x ∷ xs) (suc k) c = let later = with_front xs k c in omega arith

one_if : (b : Bool) → b ≡ true → (let n : ℕ = cond b 1 0 in n ≡ 1)
one_if true is = refl
one_if false is = absurd (false≢true is)

pub crossed_less : (xs : List BuiltCrossing) (k : ℕ) (c : CellNo) → k < length xs → has_cell (get_or xs k no_crossing).cells c ≡ true → crossings_with (take k xs) c + 1 ≤ crossings_with xs c
crossed_less xs k c within has =
    let more = ap (λ ys. crossings_with ys c) (take_more xs k no_crossing within) ∙ with_append (take k xs) (get_or xs k no_crossing ∷ []) c in
    let one = one_if (has_cell (get_or xs k no_crossing).cells c) has in
    let front = with_front xs (k + 1) c in
    omega arith

pub few_crossings_with : (site : BuiltSite) (k : ℕ) → IsValidSite site → k < length site.crossings → list_any (λ c. leb 2 (crossings_with (take k site.crossings) c)) (get_or site.crossings k no_crossing).cells ≡ false
few_crossings_with site k valid within =
    let x : BuiltCrossing = get_or site.crossings k no_crossing in
    let own : IsCrossingIn site.cells x = All-get_or (IsCrossingIn site.cells) site.crossings k no_crossing within valid.crossed in
    list_any_none (λ c. leb 2 (crossings_with (take k site.crossings) c)) x.cells
    (All-weaker (λ c. has_cell x.cells c ≡ true) (λ c. leb 2 (crossings_with (take k site.crossings) c) ≡ false)
    (λ c has.
    let known : c.0 < site.cells = All_has (λ d. d.0 < site.cells) x.cells c own.cells.known has in
    let most = valid.twice c known in
    let less = crossed_less site.crossings k c within has in
    lt-leb 2 (crossings_with (take k site.crossings) c) (omega arith))
    x.cells (has_each x.cells))
