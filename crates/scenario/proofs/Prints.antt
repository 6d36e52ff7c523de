-- What is printed for one thing more.
use Rattle.std.proofs.Common.{◌≡◌, ℕ, zero, suc, ◌+◌, ◌<◌, ◌≤◌, Bool, true, false, cond, List, [], ◌∷◌, ◌++◌, length, take, get_or, Some, refl, sym, ap, ◌∙◌, arith, append_assoc}
use Rattle.std.specs.Prelude.{flat_map, slice_get}
use Rattle.std.proofs.Math.Numerals.{add-one}
use Rattle.std.proofs.lemmas.Bool.{false≢true}
use Rattle.std.proofs.lemmas.List.{append-nil}
use Rattle.std.proofs.lemmas.List.Concat.{flat_map-append}
use Rattle.fleet_base.specs.declared.numbers.CellNo.{CellNo}
use Rattle.fleet_base.specs.declared.numbers.ClaimNo.{ClaimNo}
use Rattle.fleet_model.specs.Lists.{numbers_below, has_cell}
use Rattle.fleet_model.specs.Sites.{footprint_of}
use Rattle.site_map.specs.Built.{BuiltSite, crossing_at, crossings_with, no_crossing}
use Rattle.site_map.specs.Claims.{claims_from, footprint_in, site_of}
use Rattle.site_map.specs.Crossings.{BuiltCrossing, claim_count_of, crossing_claims, flow_of}
use Rattle.site_map.proofs.CellLemmas.{numbers_below_push}
use Rattle.site_map.proofs.SiteLemmas.{footprint_at}
use Rattle.scenario.specs.Canonical.{each}

-- one more
pub each_more : (text : ℕ → List ℕ) (n : ℕ) → each text (n + 1) ≡ each text n ++ text n
each_more text n =
    ap (λ k. each text k) (add-one n) ∙ ap (λ (ks : List ℕ). flat_map text ks) (numbers_below_push n) ∙ flat_map-append text (numbers_below n) (n ∷ [])
    ∙ ap (λ last. each text n ++ last) (append-nil (text n))

pub then_more : (old now next : List ℕ) (text : ℕ → List ℕ) (n : ℕ) → now ≡ old ++ each text n → next ≡ now ++ text n → next ≡ old ++ each text (n + 1)
then_more old now next text n so_far more =
    more ∙ ap (λ xs. xs ++ text n) so_far ∙ append_assoc old (each text n) (text n) ∙ ap (λ xs. old ++ xs) (sym (each_more text n))

-- the claim of a cell in a crossing, by how many crossings before contain it
at_claim : (has : Bool) (claim : ClaimNo) (later : List ClaimNo) (n : ℕ) → slice_get (cond has (claim ∷ later) later) (cond has 1 0 + n) ≡ slice_get later n
at_claim true claim later n =
    let same : 1 + n ≡ suc n = omega arith in
    ap (λ k. slice_get (claim ∷ later) k) same
at_claim false claim later n =
    let same : 0 + n ≡ n = omega arith in
    ap (λ k. slice_get later k) same

first_of : (has : Bool) (claim : ClaimNo) (later : List ClaimNo) → has ≡ true → slice_get (cond has (claim ∷ later) later) 0 ≡ Some claim
first_of true claim later is = refl
first_of false claim later is = absurd (false≢true is)

pub claim_in : (first : ℕ) (xs : List BuiltCrossing) (k : ℕ) (c : CellNo) (none : BuiltCrossing) → k < length xs → has_cell (get_or xs k none).cells c ≡ true
    → slice_get (claims_from first xs c) (crossings_with (take k xs) c) ≡ Some (record { 0 = first + crossing_claims (take k xs) + flow_of (get_or xs k none) c })
claim_in first [] k c none within has = absurd (omega arith)
claim_in first (x ∷ xs) zero c none within has =
    let same : first + flow_of x c ≡ first + 0 + flow_of x c = omega arith in
    first_of (has_cell x.cells c) (record { 0 = first + flow_of x c }) (claims_from (first + claim_count_of x) xs c) has ∙ ap (λ (n : ℕ). Some (record { 0 = n })) same
claim_in first (x ∷ xs) (suc k) c none within has =
    let later = claim_in (first + claim_count_of x) xs k c none (omega arith) has in
    let same : first + claim_count_of x + crossing_claims (take k xs) + flow_of (get_or xs k none) c ≡ first + (claim_count_of x + crossing_claims (take k xs)) + flow_of (get_or xs k none) c = omega arith in
    at_claim (has_cell x.cells c) (record { 0 = first + flow_of x c }) (claims_from (first + claim_count_of x) xs c) (crossings_with (take k xs) c) ∙ later ∙ ap (λ (n : ℕ). Some (record { 0 = n })) same

pub claim_at : (site : BuiltSite) (k : ℕ) (c : CellNo) → c.0 < site.cells → k < length site.crossings → has_cell (crossing_at site k).cells c ≡ true
    → slice_get (footprint_of (site_of site) c) (1 + crossings_with (take k site.crossings) c) ≡ Some (record { 0 = site.cells + crossing_claims (take k site.crossings) + flow_of (crossing_at site k) c })
claim_at site k c known within has =
    let same : 1 + crossings_with (take k site.crossings) c ≡ suc (crossings_with (take k site.crossings) c) = omega arith in
    ap (λ (cs : List ClaimNo). slice_get cs (1 + crossings_with (take k site.crossings) c)) (footprint_at site c known)
    ∙ ap (λ n. slice_get (footprint_in site c) n) same
    ∙ claim_in site.cells site.crossings k c no_crossing within has

-- the crossings that contain a cell, with one more
pub with_more : (xs : List BuiltCrossing) (k : ℕ) (c : CellNo) (none : BuiltCrossing) → k < length xs → crossings_with (take (k + 1) xs) c ≡ crossings_with (take k xs) c + cond (has_cell (get_or xs k none).cells c) 1 0
with_more xs k c none within = ap (λ n. crossings_with (take n xs) c) (add-one k) ∙ go xs k within
  where
    go : (ys : List BuiltCrossing) (n : ℕ) → n < length ys → crossings_with (take (suc n) ys) c ≡ crossings_with (take n ys) c + cond (has_cell (get_or ys n none).cells c) 1 0
    go [] n within = absurd (omega arith)
    go (y ∷ ys) zero within = omega arith
    go (y ∷ ys) (suc n) within = let later = go ys n (omega arith) in omega arith

-- the claims of crossings, with those of one more
pub claims_more : (xs : List BuiltCrossing) (k : ℕ) (none : BuiltCrossing) → k < length xs → crossing_claims (take (k + 1) xs) ≡ crossing_claims (take k xs) + claim_count_of (get_or xs k none)
claims_more xs k none within = ap (λ n. crossing_claims (take n xs)) (add-one k) ∙ go xs k within
  where
    go : (ys : List BuiltCrossing) (n : ℕ) → n < length ys → crossing_claims (take (suc n) ys) ≡ crossing_claims (take n ys) + claim_count_of (get_or ys n none)
    go [] n within = absurd (omega arith)
    go (y ∷ ys) zero within = omega arith
    go (y ∷ ys) (suc n) within = let later = go ys n (omega arith) in omega arith

pub claims_upto : (xs : List BuiltCrossing) (n : ℕ) → crossing_claims (take n xs) ≤ crossing_claims xs
claims_upto [] zero = omega arith
claims_upto [] (suc n) = omega arith
claims_upto (x ∷ xs) zero = omega arith
claims_upto (x ∷ xs) (suc n) = let later = claims_upto xs n in omega arith
