-- Laws of a site as built: footprints, groups and names.
use Rattle.std.proofs.Common.{◌≡◌, ℕ, zero, suc, ◌+◌, ◌-◌, ◌<◌, ◌≤◌, max, Bool, true, false, cond, ◌||◌, eqb, ◌==◌, if◌then◌else◌, ◌≢◌, inl, inr, List, [], ◌∷◌, ◌++◌, length, map, get_or, take, replicate, Option, Some, None, refl, sym, ap, subst, ◌∙◌, arith, zero-add}
use Rattle.std.specs.List.{list_any, position_or_len, slice_get, find, All, AllPairs, Contains}
use Rattle.std.specs.Option.{option_map, unwrap_or}
use Rattle.std.proofs.lemmas.Bool.{cases_Bool, cases_lt, false≢true, not_from_false, and_from, or_cases, eqb-true, lt-ltb, ne_eqb, false_from_ne_true}
use Rattle.std.proofs.lemmas.List.{get_or-map, get_or_past, length-append, length-map, length-replicate, length_push}
use Rattle.std.proofs.lemmas.List.FromFn.{length-map-range_with_len, get_or-map-range_with_len, length-range_with_len, get_or-range_with_len}
use Rattle.std.proofs.lemmas.List.Elements.{All-nil, All-cons, All-head, All-tail, All-get_or, All-weaker}
use Rattle.std.proofs.lemmas.Option.{slice_get-get_or, slice_get-map}
use Rattle.fleet_base.specs.declared.numbers.CellNo.{CellNo}
use Rattle.fleet_base.specs.declared.numbers.ClaimGroup.{ClaimGroup}
use Rattle.fleet_base.specs.declared.numbers.ClaimNo.{ClaimNo}
use Rattle.fleet_base.specs.declared.numbers.Link.{Link}
use Rattle.fleet_base.specs.Lists.{placed, RiseFrom}
use Rattle.fleet_model.specs.Lists.{numbers_below, has_cell}
use Rattle.fleet_model.specs.Sites.{footprint_of, in_conflict, link_cost, links_from, IsSite}
use Rattle.site_map.specs.declared.places.Place.{Place}
use Rattle.site_map.specs.declared.places.Places.{Places}
use Rattle.site_map.specs.declared.places.Places.TheVariants.{Free}
use Rattle.site_map.specs.declared.names.ClaimName.{ClaimName}
use Rattle.site_map.specs.declared.names.ClaimName.TheVariants.{Cell, Crossing}
use Rattle.fleet_model.proofs.Claims.{conflict_symmetric}
use Rattle.site_map.specs.Cells.{cells_below}
use Rattle.site_map.specs.Crossings.{BuiltCrossing, claim_count_of, completed, crossing_claims, flow_of, flows_with_rest, in_flow, rest_of}
use Rattle.site_map.specs.Built.{BuiltSite, completed_site, no_crossing}
use Rattle.site_map.specs.Claims.{cell_group, claim_total, claims_from, flow_names, footprint_in, groups_from, groups_of, is_alone, names_from, names_of, site_of}
use Rattle.fleet_base.specs.declared.limits.TheConstants.{MAX_COST}
use Rattle.site_map.specs.Inside.{AreLinks, IsKept, IsOwner, place_in, places_from, places_list}
use Rattle.site_map.proofs.CellLemmas.{has_cell-filter, no_cell, some_has, to_cell}
use Rattle.site_map.proofs.ClaimLemmas.{crossing_claims_more}
use Rattle.site_map.proofs.CrossingLemmas.{claim_count-completed, is_rest}
use Rattle.site_map.proofs.PlaceLemmas.{has_it, length-places_list, position_new, position_old, position_past, position_within}

-- a cell that passes a test is in the rest of its list
any_has : (p : CellNo → Bool) (cells : List CellNo) (c : CellNo) → has_cell cells c ≡ true → p c ≡ true → list_any p cells ≡ true
any_has p [] c has pass = absurd (false≢true has)
any_has p (d ∷ ds) c has pass =
    elim (or_cases (eqb d.0 c.0) (has_cell ds c) has) [
      | inl first ↦ let is : d ≡ c = ap (λ k. record { 0 = k }) (eqb-true d.0 c.0 first) in ap (λ b. b || list_any p ds) (ap p is ∙ pass)
      | inr later ↦ ap (λ b. p d || b) (any_has p ds c later pass) ∙ or_true (p d)
    ]
  where
    or_true : (b : Bool) → (b || true) ≡ true
    or_true true = refl
    or_true false = refl

-- the last flow doesn't change the number of a cell's flow
flow_with_rest : (flows : List (List CellNo)) (rest : List CellNo) (c : CellNo) → (in_flow flows c ≡ false → has_cell rest c ≡ true) → position_or_len (has_it c) (flows_with_rest flows rest) ≡ position_or_len (has_it c) flows
flow_with_rest [] rest c left = refl
flow_with_rest (f ∷ fs) [] c left = refl
flow_with_rest (f ∷ fs) (r ∷ rs) c left =
    elim (cases_Bool (in_flow (f ∷ fs) c)) [
      | inl has ↦ position_old (f ∷ fs) ((r ∷ rs) ∷ []) c has
      | inr none ↦ position_new (f ∷ fs) (r ∷ rs) c none (left none) ∙ sym (position_past (f ∷ fs) c none)
    ]

pub flow_of-completed : (x : BuiltCrossing) (c : CellNo) → has_cell x.cells c ≡ true → flow_of (completed x) c ≡ flow_of x c
flow_of-completed x c has =
    flow_with_rest x.flows (rest_of x) c
    (λ none. has_cell-filter (is_rest x.flows) x.cells c ∙ and_from (is_rest x.flows c) (has_cell x.cells c) (not_from_false (in_flow x.flows c) none) has)

-- the flow of a cell of a crossing has one of the crossing's claims
pub flow_within : (x : BuiltCrossing) (c : CellNo) → has_cell x.cells c ≡ true → flow_of x c < claim_count_of (completed x)
flow_within x c has =
    let count = claim_count-completed x.cells x.flows (some_has x.cells c has) in
    elim (cases_Bool (in_flow x.flows c)) [
      | inl in_one ↦
          let within = position_within x.flows c in_one in
          let least : length x.flows ≤ cond (list_any (is_rest x.flows) x.cells) (length x.flows + 1) (length x.flows) = elim (list_any (is_rest x.flows) x.cells) as (λ b. length x.flows ≤ cond b (length x.flows + 1) (length x.flows)) [ true ↦ omega arith | false ↦ omega arith ] in
          omega (arith, within, least, count)
      | inr none ↦
          let past = position_past x.flows c none in
          let rest = any_has (is_rest x.flows) x.cells c has (not_from_false (in_flow x.flows c) none) in
          let most = count ∙ ap (λ b. cond b (length x.flows + 1) (length x.flows)) rest in
          omega (arith, past, most)
    ]

-- flows are no more than claims
pub flows_few : (x : BuiltCrossing) → 0 < length x.cells → length x.flows ≤ claim_count_of (completed x)
flows_few x some =
    subst (λ n. length x.flows ≤ n) (sym (claim_count-completed x.cells x.flows some))
    (elim (list_any (is_rest x.flows) x.cells) as (λ b. length x.flows ≤ cond b (length x.flows + 1) (length x.flows)) [ true ↦ omega arith | false ↦ omega arith ])

-- the claim of a place, where first tells the first claim of each crossing and last the number of its last flow
abbrev pub claim_by : (ℕ → ℕ) → (ℕ → ℕ) → Place → ClaimNo
claim_by first last place = record { 0 = first place.crossing + unwrap_or place.line (last place.crossing) }

place_flow : (first last : ℕ → ℕ) (k : ℕ) (x : BuiltCrossing) (c : CellNo) → last k ≡ length x.flows → claim_by first last (place_in k x c) ≡ record { 0 = first k + flow_of x c }
place_flow first last k x c last_is =
    elim (cases_Bool (in_flow x.flows c)) [
      | inl has ↦ ap (λ b. record { 0 = first k + unwrap_or (cond b (Some (flow_of x c)) None) (last k) }) has
      | inr none ↦
          ap (λ b. record { 0 = first k + unwrap_or (cond b (Some (flow_of x c)) None) (last k) }) none
          ∙ ap (λ n. record { 0 = first k + n }) (last_is ∙ sym (position_past x.flows c none))
    ]

-- the claims of a cell are those of its places
pub claims_by_places : (first last : ℕ → ℕ) (k base : ℕ) (xs : List BuiltCrossing) (c : CellNo) → ((i : ℕ) → i < length xs → first (k + i) ≡ base + crossing_claims (take i (map completed xs))) → ((i : ℕ) → i < length xs → last (k + i) ≡ length (get_or xs i no_crossing).flows) → claims_from base (map completed xs) c ≡ map (claim_by first last) (places_from k xs c)
claims_by_places first last k base [] c firsts lasts = refl
claims_by_places first last k base (x ∷ xs) c firsts lasts =
    let count : ℕ = claim_count_of (completed x) in
    let next : (i : ℕ) → i < length xs → first (k + 1 + i) ≡ base + count + crossing_claims (take i (map completed xs)) =
    λ i within. ap first (let e : k + 1 + i ≡ k + suc i = omega arith in e) ∙ firsts (suc i) (omega arith) ∙ omega arith
    in
    let lasts' : (i : ℕ) → i < length xs → last (k + 1 + i) ≡ length (get_or xs i no_crossing).flows =
    λ i within. ap last (let e : k + 1 + i ≡ k + suc i = omega arith in e) ∙ lasts (suc i) (omega arith)
    in
    let later = claims_by_places first last (k + 1) (base + count) xs c next lasts' in
    let here : k + 0 ≡ k = omega arith in
    let first_is : first k ≡ base = ap first (sym here) ∙ firsts 0 (omega arith) ∙ omega arith in
    let last_is : last k ≡ length x.flows = ap last (sym here) ∙ lasts 0 (omega arith) in
    elim (cases_Bool (has_cell x.cells c)) [
      | inl has ↦
          ap (λ b. cond b (record { 0 = base + flow_of (completed x) c } ∷ claims_from (base + count) (map completed xs) c) (claims_from (base + count) (map completed xs) c)) has
          ∙ ap (λ n. record { 0 = base + n } ∷ claims_from (base + count) (map completed xs) c) (flow_of-completed x c has)
          ∙ ap (λ n. record { 0 = n + flow_of x c } ∷ claims_from (base + count) (map completed xs) c) (sym first_is)
          ∙ ap (λ d. d ∷ claims_from (base + count) (map completed xs) c) (sym (place_flow first last k x c last_is))
          ∙ ap (λ ds. claim_by first last (place_in k x c) ∷ ds) later
          ∙ ap (λ b. map (claim_by first last) (cond b (place_in k x c ∷ places_from (k + 1) xs c) (places_from (k + 1) xs c))) (sym has)
      | inr out ↦
          ap (λ b. cond b (record { 0 = base + flow_of (completed x) c } ∷ claims_from (base + count) (map completed xs) c) (claims_from (base + count) (map completed xs) c)) out
          ∙ later
          ∙ ap (λ b. map (claim_by first last) (cond b (place_in k x c ∷ places_from (k + 1) xs c) (places_from (k + 1) xs c))) (sym out)
    ]

-- the claims of a cell rise
pub claims_rise : (low base : ℕ) (xs : List BuiltCrossing) (c : CellNo) → low ≤ base → RiseFrom low (claims_from base (map completed xs) c)
claims_rise low base [] c upto = tt
claims_rise low base (x ∷ xs) c upto =
    elim (cases_Bool (has_cell x.cells c)) [
      | inl has ↦
          let within : flow_of (completed x) c < claim_count_of (completed x) = subst (λ n. n < claim_count_of (completed x)) (sym (flow_of-completed x c has)) (flow_within x c has) in
          subst (λ b. RiseFrom low (cond b (record { 0 = base + flow_of (completed x) c } ∷ claims_from (base + claim_count_of (completed x)) (map completed xs) c) (claims_from (base + claim_count_of (completed x)) (map completed xs) c))) (sym has)
          (omega arith, claims_rise (base + flow_of (completed x) c + 1) (base + claim_count_of (completed x)) xs c (omega (arith, within)))
      | inr out ↦
          subst (λ b. RiseFrom low (cond b (record { 0 = base + flow_of (completed x) c } ∷ claims_from (base + claim_count_of (completed x)) (map completed xs) c) (claims_from (base + claim_count_of (completed x)) (map completed xs) c))) (sym out)
          (claims_rise low (base + claim_count_of (completed x)) xs c (omega arith))
    ]

-- the claims of a cell are claims of these crossings
pub claims_known : (base : ℕ) (xs : List BuiltCrossing) (c : CellNo) → All (λ d. d.0 < base + crossing_claims (map completed xs)) (claims_from base (map completed xs) c)
claims_known base [] c = All-nil (λ d. d.0 < base + 0)
claims_known base (x ∷ xs) c =
    let count : ℕ = claim_count_of (completed x) in
    let all : ℕ = base + (count + crossing_claims (map completed xs)) in
    let later : All (λ (d : ClaimNo). d.0 < all) (claims_from (base + count) (map completed xs) c) =
    All-weaker (λ (d : ClaimNo). d.0 < base + count + crossing_claims (map completed xs)) (λ d. d.0 < all) (λ d h. omega arith) (claims_from (base + count) (map completed xs) c) (claims_known (base + count) xs c)
    in
    elim (cases_Bool (has_cell x.cells c)) [
      | inl has ↦
          let within : flow_of (completed x) c < count = subst (λ n. n < count) (sym (flow_of-completed x c has)) (flow_within x c has) in
          subst (λ b. All (λ (d : ClaimNo). d.0 < all) (cond b (record { 0 = base + flow_of (completed x) c } ∷ claims_from (base + count) (map completed xs) c) (claims_from (base + count) (map completed xs) c))) (sym has)
          (All-cons (λ (d : ClaimNo). d.0 < all) (record { 0 = base + flow_of (completed x) c }) (claims_from (base + count) (map completed xs) c) (omega (arith, within)) later)
      | inr out ↦
          subst (λ b. All (λ (d : ClaimNo). d.0 < all) (cond b (record { 0 = base + flow_of (completed x) c } ∷ claims_from (base + count) (map completed xs) c) (claims_from (base + count) (map completed xs) c))) (sym out) later
    ]

-- a cell has a claim for each crossing that contains it
pub length-claims : (first last : ℕ → ℕ) (base : ℕ) (xs : List BuiltCrossing) (c : CellNo) (places : Places) → claims_from base (map completed xs) c ≡ map (claim_by first last) (places_from 0 xs c) → places_list places ≡ places_from 0 xs c → length (claims_from base (map completed xs) c) ≤ 2
length-claims first last base xs c places are listed =
    let count : length (claims_from base (map completed xs) c) ≡ length (places_list places) = ap length are ∙ length-map (places_from 0 xs c) (claim_by first last) ∙ ap length (sym listed) in
    omega (arith, count, length-places_list places)

-- what the footprint of a cell is in the site that the rules speak of
pub footprint_at : (built : BuiltSite) (c : CellNo) → c.0 < built.cells → footprint_of (site_of built) c ≡ footprint_in built c
unfolding footprint_of
footprint_at built c within =
    let long : c.0 < length (cells_below built.cells) = omega (arith, length-map-range_with_len to_cell 0 built.cells) in
    get_or-map (footprint_in built) (cells_below built.cells) c.0 no_cell [] long
    ∙ ap (footprint_in built) (get_or-map-range_with_len to_cell 0 built.cells c.0 c.0 no_cell within (zero-add c.0))

pub footprint_past : (built : BuiltSite) (c : CellNo) → built.cells ≤ c.0 → footprint_of (site_of built) c ≡ []
unfolding footprint_of
footprint_past built c past =
    get_or_past (map (footprint_in built) (cells_below built.cells)) c.0 [] (omega (arith, length-footprints built))
  where
    length-footprints : (b : BuiltSite) → length (map (footprint_in b) (cells_below b.cells)) ≡ b.cells
    length-footprints b = length-map (cells_below b.cells) (footprint_in b) ∙ length-map-range_with_len to_cell 0 b.cells

-- the links from a cell
pub links_at_cell : (built : BuiltSite) (c : CellNo) → links_from (site_of built) c ≡ get_or built.links c.0 []
unfolding links_from
links_at_cell built c = refl

pub cost_at : (built : BuiltSite) (a b : CellNo) → link_cost (site_of built) a b ≡ option_map (λ l. l.cost) (find (λ l. eqb l.to.0 b.0) (get_or built.links a.0 []))
unfolding link_cost links_from
cost_at built a b = refl

abbrev Costs : Link → Type 0
Costs l = (1 ≤ l.cost) × (l.cost ≤ MAX_COST)

found_link : (n to cost : ℕ) (links : List Link) → All (λ l. l.to.0 < n) links → All Costs links → option_map (λ l. l.cost) (find (λ l. eqb l.to.0 to) links) ≡ Some cost → (1 ≤ cost) × (to < n)
found_link n to cost [] known costs found = cc
found_link n to cost (l ∷ ls) known costs found =
    elim (cases_Bool (eqb l.to.0 to)) [
      | inl here ↦
          let cost_is : Some l.cost ≡ Some cost = sym (ap (λ b. option_map (λ m. m.cost) (cond b (Some l) (find (λ m. eqb m.to.0 to) ls))) here) ∙ found in
          let same : l.cost ≡ cost = cc in
          let at = eqb-true l.to.0 to here in
          let low = (All-head Costs l ls costs).0 in
          let below = All-head (λ m. m.to.0 < n) l ls known in
          (omega (arith, same, low), omega (arith, at, below))
      | inr later ↦
          found_link n to cost ls (All-tail (λ m. m.to.0 < n) l ls known) (All-tail Costs l ls costs)
          (sym (ap (λ b. option_map (λ m. m.cost) (cond b (Some l) (find (λ m. eqb m.to.0 to) ls))) later) ∙ found)
    ]

abbrev group_record : ℕ → Bool → ClaimGroup
group_record n b = record { group = n; alone = b }

-- the claims of crossings, by groups: an element of two lists joined, and of copies
pub slice_get_left : {A : Type 0} (xs ys : List A) (i : ℕ) → i < length xs → slice_get (xs ++ ys) i ≡ slice_get xs i
slice_get_left [] ys i within = absurd (omega arith)
slice_get_left (x ∷ xs) ys zero within = refl
slice_get_left (x ∷ xs) ys (suc i) within = slice_get_left xs ys i (omega arith)

pub slice_get_right : {A : Type 0} (xs ys : List A) (n i : ℕ) → n ≡ length xs → slice_get (xs ++ ys) (n + i) ≡ slice_get ys i
slice_get_right [] ys n i same = ap (slice_get ys) (let e : n + i ≡ i = omega arith in e)
slice_get_right (x ∷ xs) ys n i same =
    ap (slice_get (x ∷ (xs ++ ys))) (let e : n + i ≡ suc (length xs + i) = omega arith in e)
    ∙ slice_get_right xs ys (length xs) i refl

slice_get-replicate : {A : Type 0} (n i : ℕ) (x : A) → i < n → slice_get (replicate n x) i ≡ Some x
slice_get-replicate zero i x within = absurd (omega arith)
slice_get-replicate (suc n) zero x within = refl
slice_get-replicate (suc n) (suc i) x within = slice_get-replicate n i x (omega arith)

-- the group of a claim of crossing k of these
pub group_of_crossing : (first : ℕ) (xs : List BuiltCrossing) (k i : ℕ) → k < length xs → i < claim_count_of (get_or xs k no_crossing) → slice_get (groups_from first xs) (crossing_claims (take k xs) + i) ≡ Some (record { group = first + crossing_claims (take k xs); alone = is_alone (get_or xs k no_crossing) })
group_of_crossing first [] k i known within = absurd (omega arith)
group_of_crossing first (x ∷ xs) zero i known within =
    let at : 0 + i ≡ i = omega arith in
    ap (slice_get (groups_from first (x ∷ xs))) at
    ∙ slice_get_left (replicate (claim_count_of x) (record { group = first; alone = is_alone x })) (groups_from (first + claim_count_of x) xs) i (omega (arith, length-replicate (claim_count_of x) (group_record first (is_alone x))))
    ∙ slice_get-replicate (claim_count_of x) i (record { group = first; alone = is_alone x }) within
    ∙ ap (λ n. Some (record { group = n; alone = is_alone x })) (let e : first ≡ first + 0 = omega arith in e)
group_of_crossing first (x ∷ xs) (suc k) i known within =
    let at : claim_count_of x + crossing_claims (take k xs) + i ≡ claim_count_of x + (crossing_claims (take k xs) + i) = omega arith in
    ap (slice_get (groups_from first (x ∷ xs))) at
    ∙ slice_get_right (replicate (claim_count_of x) (record { group = first; alone = is_alone x })) (groups_from (first + claim_count_of x) xs) (claim_count_of x) (crossing_claims (take k xs) + i) (sym (length-replicate (claim_count_of x) (group_record first (is_alone x))))
    ∙ group_of_crossing (first + claim_count_of x) xs k i (omega arith) within
    ∙ ap (λ n. Some (record { group = n; alone = is_alone (get_or xs k no_crossing) })) (let e : first + claim_count_of x + crossing_claims (take k xs) ≡ first + (claim_count_of x + crossing_claims (take k xs)) = omega arith in e)

pub length-groups_from : (first : ℕ) (xs : List BuiltCrossing) → length (groups_from first xs) ≡ crossing_claims xs
length-groups_from first [] = refl
length-groups_from first (x ∷ xs) =
    omega (arith, length-append (replicate (claim_count_of x) (group_record first (is_alone x))) (groups_from (first + claim_count_of x) xs), length-replicate (claim_count_of x) (group_record first (is_alone x)), length-groups_from (first + claim_count_of x) xs)

length-cell_groups : (n : ℕ) → length (map cell_group (numbers_below n)) ≡ n
length-cell_groups n = length-map-range_with_len cell_group 0 n

-- there is a group for each claim
pub length-groups : (built : BuiltSite) → length (groups_of built) ≡ built.cells + crossing_claims built.crossings
length-groups built =
    omega (arith, length-append (map cell_group (numbers_below built.cells)) (groups_from built.cells built.crossings), length-cell_groups built.cells, length-groups_from built.cells built.crossings)

-- the group of a cell's claim, and that of a crossing's
pub group_of_cell : (built : BuiltSite) (c : ℕ) → c < built.cells → slice_get (groups_of built) c ≡ Some (cell_group c)
group_of_cell built c within =
    slice_get_left (map cell_group (numbers_below built.cells)) (groups_from built.cells built.crossings) c (omega (arith, length-cell_groups built.cells))
    ∙ slice_get-get_or (map cell_group (numbers_below built.cells)) c (cell_group 0) (omega (arith, length-cell_groups built.cells))
    ∙ ap (λ g. Some g) (get_or-map-range_with_len cell_group 0 built.cells c c (cell_group 0) within (zero-add c))

pub group_behind_cells : (built : BuiltSite) (k i : ℕ) → k < length built.crossings → i < claim_count_of (get_or built.crossings k no_crossing) → slice_get (groups_of built) (built.cells + (crossing_claims (take k built.crossings) + i)) ≡ Some (record { group = built.cells + crossing_claims (take k built.crossings); alone = is_alone (get_or built.crossings k no_crossing) })
group_behind_cells built k i known within =
    slice_get_right (map cell_group (numbers_below built.cells)) (groups_from built.cells built.crossings) built.cells (crossing_claims (take k built.crossings) + i) (sym (length-cell_groups built.cells))
    ∙ group_of_crossing built.cells built.crossings k i known within

-- the site that these parts make, with the last flow of each crossing
abbrev pub whole : List (List Link) → List BuiltCrossing → List (List CellNo) → BuiltSite
whole links crossings areas = record { cells = length links; crossings = map completed crossings; areas = areas; links = links }

-- a crossing has no flows where it has no lines
pub alone-completed : (x : BuiltCrossing) → eqb (length x.flows) 0 ≡ is_alone (completed x)
alone-completed x = go x.flows (rest_of x)
  where
    go : (flows : List (List CellNo)) (rest : List CellNo) → eqb (length flows) 0 ≡ eqb (length (flows_with_rest flows rest)) 0
    go [] rest = refl
    go (f ∷ fs) [] = refl
    go (f ∷ fs) (r ∷ rs) = ne_eqb (length (f ∷ fs)) 0 (λ e. omega arith) ∙ sym (ne_eqb (length ((f ∷ fs) ++ (r ∷ rs) ∷ [])) 0 (λ e. omega (arith, length_push (f ∷ fs) (r ∷ rs))))

flow_least : (x : BuiltCrossing) (c : CellNo) → flow_of x c ≤ length x.flows
flow_least x c = elim (cases_Bool (in_flow x.flows c)) [
  | inl has ↦ let h = position_within x.flows c has in omega (arith, h)
  | inr none ↦ let h = position_past x.flows c none in omega (arith, h)
]

place_line : (k : ℕ) (x : BuiltCrossing) (c : CellNo) → unwrap_or (place_in k x c).line (length x.flows) ≡ flow_of x c
place_line k x c = elim (cases_Bool (in_flow x.flows c)) [
  | inl has ↦ ap (λ b. unwrap_or (cond b (Some (flow_of x c)) None) (length x.flows)) has
  | inr none ↦ ap (λ b. unwrap_or (cond b (Some (flow_of x c)) None) (length x.flows)) none ∙ sym (position_past x.flows c none)
]

-- the places of a cell are in crossings of the site
pub places_known : (last : ℕ → ℕ) (k : ℕ) (xs : List BuiltCrossing) (c : CellNo) → ((i : ℕ) → i < length xs → last (k + i) ≡ length (get_or xs i no_crossing).flows) → All (λ p. (p.crossing < k + length xs) × (unwrap_or p.line (last p.crossing) ≤ last p.crossing)) (places_from k xs c)
places_known last k [] c lasts = All-nil (λ p. (p.crossing < k + 0) × (unwrap_or p.line (last p.crossing) ≤ last p.crossing))
places_known last k (x ∷ xs) c lasts =
    let lasts' : (i : ℕ) → i < length xs → last (k + 1 + i) ≡ length (get_or xs i no_crossing).flows =
    λ i within. ap last (let e : k + 1 + i ≡ k + suc i = omega arith in e) ∙ lasts (suc i) (omega arith)
    in
    let last_is : last k ≡ length x.flows = ap last (let e : k ≡ k + 0 = omega arith in e) ∙ lasts 0 (omega arith) in
    let later : All (λ (p : Place). (p.crossing < k + suc (length xs)) × (unwrap_or p.line (last p.crossing) ≤ last p.crossing)) (places_from (k + 1) xs c) =
    All-weaker (λ (p : Place). (p.crossing < k + 1 + length xs) × (unwrap_or p.line (last p.crossing) ≤ last p.crossing)) (λ p. (p.crossing < k + suc (length xs)) × (unwrap_or p.line (last p.crossing) ≤ last p.crossing)) (λ p h. (let below = h.0 in omega arith, h.1)) (places_from (k + 1) xs c) (places_known last (k + 1) xs c lasts')
    in
    let here : (k < k + suc (length xs)) × (unwrap_or (place_in k x c).line (last k) ≤ last k) =
    (omega arith, subst (λ n. unwrap_or (place_in k x c).line n ≤ n) (sym last_is) (subst (λ n. n ≤ length x.flows) (sym (place_line k x c)) (flow_least x c)))
    in
    elim (has_cell x.cells c) as (λ b. All (λ (p : Place). (p.crossing < k + suc (length xs)) × (unwrap_or p.line (last p.crossing) ≤ last p.crossing)) (cond b (place_in k x c ∷ places_from (k + 1) xs c) (places_from (k + 1) xs c))) [
      | true ↦ All-cons (λ (p : Place). (p.crossing < k + suc (length xs)) × (unwrap_or p.line (last p.crossing) ≤ last p.crossing)) (place_in k x c) (places_from (k + 1) xs c) here later
      | false ↦ later
    ]

-- the footprint of a cell by its places
pub footprint_by_places : (links : List (List Link)) (count : ℕ) (places : List Places) (crossings : List BuiltCrossing) (areas : List (List CellNo)) (firsts owners : List ℕ) (cell : CellNo) (here : Places) → IsKept links count places crossings areas firsts owners → cell.0 < length links → here ≡ get_or places cell.0 Free → footprint_in (whole links crossings areas) cell ≡ record { 0 = cell.0 } ∷ map (claim_by (λ k. length links + crossing_claims (take k (map completed crossings))) (λ k. length (get_or crossings k no_crossing).flows)) (places_list here)
footprint_by_places links count places crossings areas firsts owners cell here kept known here_is =
    let first : ℕ → ℕ = λ k. length links + crossing_claims (take k (map completed crossings)) in
    let last : ℕ → ℕ = λ k. length (get_or crossings k no_crossing).flows in
    let same : (i : ℕ) → 0 + i ≡ i = λ i. omega arith in
    ap (λ ds. record { 0 = cell.0 } ∷ ds)
    (claims_by_places first last 0 (length links) crossings cell (λ i within. ap first (same i)) (λ i within. ap last (same i))
    ∙ ap (map (claim_by first last)) (sym (ap places_list here_is ∙ kept.found cell known)))

-- a claim behind the last of a list that rises is put at its end
pub placed_last : (low : ℕ) (claims : List ClaimNo) (d : ClaimNo) → RiseFrom low (claims ++ d ∷ []) → (placed claims d ≡ claims ++ d ∷ []) × (Contains claims d → ⊥)
placed_last low [] d rise = (refl, λ (i, within, at). omega arith)
placed_last low (e ∷ es) d rise =
    let later = placed_last (e.0 + 1) es d rise.1 in
    let above = last_above (e.0 + 1) es d rise.1 in
    let below : e.0 < d.0 = omega arith in
    (ap (λ b. cond b (e ∷ placed es d) (d ∷ e ∷ es)) (lt-ltb e.0 d.0 below) ∙ ap (λ l. e ∷ l) later.0, missing e es d below later.1)
  where
    last_above : (low : ℕ) (ds : List ClaimNo) (d : ClaimNo) → RiseFrom low (ds ++ d ∷ []) → low ≤ d.0
    last_above low [] d rise = rise.0
    last_above low (e ∷ es) d rise = let above = last_above (e.0 + 1) es d rise.1 in let first = rise.0 in omega arith

    missing : (e : ClaimNo) (es : List ClaimNo) (d : ClaimNo) → e.0 < d.0 → (Contains es d → ⊥) → Contains (e ∷ es) d → ⊥
    missing e es d below none (zero, within, at) = let same : e.0 ≡ d.0 = ap (λ (f : ClaimNo). f.0) at in omega arith
    missing e es d below none (suc i, within, at) = none (i, omega arith, at)

-- the front of a list that rises, rises
pub RiseFrom-front : (low : ℕ) (xs ys : List ClaimNo) → RiseFrom low (xs ++ ys) → RiseFrom low xs
RiseFrom-front low [] ys rise = tt
RiseFrom-front low (x ∷ xs) ys rise = (rise.0, RiseFrom-front (x.0 + 1) xs ys rise.1)

-- every site is one that the rules speak of
module _ (links : List (List Link)) (count : ℕ) (places : List Places) (crossings : List BuiltCrossing) (areas : List (List CellNo)) (firsts owners : List ℕ) where
  pub footprint_short : (a : CellNo) → IsKept links count places crossings areas firsts owners → length (footprint_of (site_of (whole links crossings areas)) a) ≤ 3
  footprint_short a kept =
      elim (cases_lt a.0 (length links)) [
        | inl within ↦
            let here : Places = get_or places a.0 Free in
            let is = ap length (footprint_at (whole links crossings areas) a within ∙ footprint_by_places links count places crossings areas firsts owners a here kept within refl) in
            let few = length-places_list here in
            let same = length-map (places_list here) (claim_by (λ k. length links + crossing_claims (take k (map completed crossings))) (λ k. length (get_or crossings k no_crossing).flows)) in
            omega (arith, is, few, same)
        | inr past ↦ let none = ap length (footprint_past (whole links crossings areas) a past) in omega (arith, none)
      ]

  pub footprint_rises : (a : CellNo) → RiseFrom 0 (footprint_of (site_of (whole links crossings areas)) a)
  footprint_rises a =
      elim (cases_lt a.0 (length links)) [
        | inl within ↦ subst (RiseFrom 0) (sym (footprint_at (whole links crossings areas) a within)) (omega arith, claims_rise (a.0 + 1) (length links) crossings a (omega arith))
        | inr past ↦ subst (RiseFrom 0) (sym (footprint_past (whole links crossings areas) a past)) tt
      ]

  costs_known : (a b : CellNo) (cost : ℕ) → IsKept links count places crossings areas firsts owners → link_cost (site_of (whole links crossings areas)) a b ≡ Some cost → (1 ≤ cost) × (a.0 < length links) × (b.0 < length links)
  costs_known a b cost kept found =
      let there = sym (cost_at (whole links crossings areas) a b) ∙ found in
      elim (cases_lt a.0 (length links)) [
        | inl within ↦
            let are = All-get_or (AreLinks (length links)) links a.0 [] within kept.linked in
            let fact = found_link (length links) b.0 cost (get_or links a.0 []) are.known are.costs there in
            (fact.0, within, fact.1)
        | inr past ↦
            let none : None ≡ Some cost = sym (ap (λ row. option_map (λ l. l.cost) (find (λ l. eqb l.to.0 b.0) row)) (get_or_past links a.0 [] past)) ∙ there in
            cc
      ]

  length-site : length (map (footprint_in (whole links crossings areas)) (cells_below (length links))) ≡ length links
  length-site = length-map (cells_below (length links)) (footprint_in (whole links crossings areas)) ∙ length-map-range_with_len to_cell 0 (length links)

  pub is_site : IsKept links count places crossings areas firsts owners → IsSite (site_of (whole links crossings areas))
  is_site kept = record {
    small = omega (arith, length-site, kept.few_cells);
    short = λ a. footprint_short a kept;
    ascending = footprint_rises;
    links = λ a b cost found. let fact = costs_known a b cost kept found in (fact.0, omega (arith, fact.1, length-site), omega (arith, fact.2, length-site));
  }

AllPairs-cons : {A : Type 0} (R : A → A → Type 0) (x : A) (xs : List A) → All (R x) xs → AllPairs R xs → AllPairs R (x ∷ xs)
AllPairs-cons R x xs first later zero zero d low high = absurd (omega arith)
AllPairs-cons R x xs first later zero (suc j) d low high = All-get_or (R x) xs j d (omega arith) first
AllPairs-cons R x xs first later (suc i) zero d low high = absurd (omega arith)
AllPairs-cons R x xs first later (suc i) (suc j) d low high = later i j d (omega arith) (omega arith)

AllPairs-nil : {A : Type 0} (R : A → A → Type 0) → AllPairs R []
AllPairs-nil R i j d low high = absurd (omega arith)

-- the number of a claim's group, by a list of groups
abbrev group_in : List ClaimGroup → ClaimNo → Option ℕ
group_in gs d = option_map (λ g. g.group) (slice_get gs d.0)

-- the claim has a group, whose number is at least this one
abbrev HasGroup : List ClaimGroup → ℕ → ClaimNo → Type 0
HasGroup gs low d = (g : ℕ) × (group_in gs d ≡ Some g) × (low ≤ g)

-- the groups are numbered by the first claim of each crossing
abbrev AreGrouped : List ClaimGroup → ℕ → List BuiltCrossing → Type 0
AreGrouped gs base xs = (k i : ℕ) → k < length xs → i < claim_count_of (get_or xs k no_crossing) → group_in gs (record { 0 = base + (crossing_claims (take k xs) + i) }) ≡ Some (base + crossing_claims (take k xs))

grouped_later : (gs : List ClaimGroup) (base : ℕ) (x : BuiltCrossing) (xs : List BuiltCrossing) → AreGrouped gs base (x ∷ xs) → AreGrouped gs (base + claim_count_of x) xs
grouped_later gs base x xs grouped k i known within =
    ap (λ n. group_in gs (record { 0 = n })) (let e : base + claim_count_of x + (crossing_claims (take k xs) + i) ≡ base + (claim_count_of x + crossing_claims (take k xs) + i) = omega arith in e)
    ∙ grouped (suc k) i (omega arith) within
    ∙ ap (λ n. Some n) (let e : base + (claim_count_of x + crossing_claims (take k xs)) ≡ base + claim_count_of x + crossing_claims (take k xs) = omega arith in e)

head_group : (gs : List ClaimGroup) (base : ℕ) (x : BuiltCrossing) (xs : List BuiltCrossing) (c : CellNo) → has_cell x.cells c ≡ true → AreGrouped gs base (map completed (x ∷ xs)) → group_in gs (record { 0 = base + flow_of (completed x) c }) ≡ Some base
head_group gs base x xs c has grouped =
    let within : flow_of (completed x) c < claim_count_of (completed x) = subst (λ n. n < claim_count_of (completed x)) (sym (flow_of-completed x c has)) (flow_within x c has) in
    ap (λ n. group_in gs (record { 0 = n })) (let e : base + flow_of (completed x) c ≡ base + (0 + flow_of (completed x) c) = omega arith in e)
    ∙ grouped 0 (flow_of (completed x) c) (omega arith) within
    ∙ ap (λ n. Some n) (let e : base + 0 ≡ base = omega arith in e)

claims_grouped : (gs : List ClaimGroup) (low base : ℕ) (xs : List BuiltCrossing) (c : CellNo) → low ≤ base → AreGrouped gs base (map completed xs) → All (HasGroup gs low) (claims_from base (map completed xs) c)
claims_grouped gs low base [] c upto grouped = All-nil (HasGroup gs low)
claims_grouped gs low base (x ∷ xs) c upto grouped =
    let count : ℕ = claim_count_of (completed x) in
    let later = claims_grouped gs low (base + count) xs c (omega arith) (grouped_later gs base (completed x) (map completed xs) grouped) in
    elim (cases_Bool (has_cell x.cells c)) [
      | inl has ↦
          subst (λ b. All (HasGroup gs low) (cond b (record { 0 = base + flow_of (completed x) c } ∷ claims_from (base + count) (map completed xs) c) (claims_from (base + count) (map completed xs) c))) (sym has)
          (All-cons (HasGroup gs low) (record { 0 = base + flow_of (completed x) c }) (claims_from (base + count) (map completed xs) c) (base, head_group gs base x xs c has grouped, upto) later)
      | inr out ↦ subst (λ b. All (HasGroup gs low) (cond b (record { 0 = base + flow_of (completed x) c } ∷ claims_from (base + count) (map completed xs) c) (claims_from (base + count) (map completed xs) c))) (sym out) later
    ]

abbrev Apart : List ClaimGroup → ClaimNo → ClaimNo → Type 0
Apart gs d e = group_in gs d ≢ group_in gs e

apart_from : (gs : List ClaimGroup) (d : ClaimNo) (g low : ℕ) → group_in gs d ≡ Some g → g < low → (e : ClaimNo) → HasGroup gs low e → Apart gs d e
apart_from gs d g low is below e (h, other, above) = λ same. (let both : Some g ≡ Some h = sym is ∙ same ∙ other in let eq : g ≡ h = cc in omega arith)

claims_apart : (gs : List ClaimGroup) (base : ℕ) (xs : List BuiltCrossing) (c : CellNo) → AreGrouped gs base (map completed xs) → AllPairs (Apart gs) (claims_from base (map completed xs) c)
claims_apart gs base [] c grouped = AllPairs-nil (Apart gs)
claims_apart gs base (x ∷ xs) c grouped =
    let count : ℕ = claim_count_of (completed x) in
    let next = grouped_later gs base (completed x) (map completed xs) grouped in
    let later = claims_apart gs (base + count) xs c next in
    elim (cases_Bool (has_cell x.cells c)) [
      | inl has ↦
          subst (λ b. AllPairs (Apart gs) (cond b (record { 0 = base + flow_of (completed x) c } ∷ claims_from (base + count) (map completed xs) c) (claims_from (base + count) (map completed xs) c))) (sym has)
          (AllPairs-cons (Apart gs) (record { 0 = base + flow_of (completed x) c }) (claims_from (base + count) (map completed xs) c)
          (All-weaker (HasGroup gs (base + count)) (Apart gs (record { 0 = base + flow_of (completed x) c })) (apart_from gs (record { 0 = base + flow_of (completed x) c }) base (base + count) (head_group gs base x xs c has grouped) (omega arith)) (claims_from (base + count) (map completed xs) c) (claims_grouped gs (base + count) (base + count) xs c (omega arith) next))
          later)
      | inr out ↦ subst (λ b. AllPairs (Apart gs) (cond b (record { 0 = base + flow_of (completed x) c } ∷ claims_from (base + count) (map completed xs) c) (claims_from (base + count) (map completed xs) c))) (sym out) later
    ]

-- claims of one footprint have different groups
pub footprint_apart : (built : BuiltSite) (c : CellNo) → c.0 < built.cells → AllPairs (Apart (groups_of (completed_site built))) (footprint_in (completed_site built) c)
footprint_apart built c within =
    let gs : List ClaimGroup = groups_of (completed_site built) in
    let grouped : AreGrouped gs built.cells (map completed built.crossings) = λ k i known inside. ap (option_map (λ g. g.group)) (group_behind_cells (completed_site built) k i known inside) in
    AllPairs-cons (Apart gs) (record { 0 = c.0 }) (claims_from built.cells (map completed built.crossings) c)
    (All-weaker (HasGroup gs built.cells) (Apart gs (record { 0 = c.0 })) (apart_from gs (record { 0 = c.0 }) c.0 built.cells (ap (option_map (λ g. g.group)) (group_of_cell (completed_site built) c.0 within)) within) (claims_from built.cells (map completed built.crossings) c) (claims_grouped gs built.cells built.cells built.crossings c (omega arith) grouped))
    (claims_apart gs built.cells built.crossings c grouped)

-- the claims of a footprint are claims of the site, and rise
pub footprint_known : (built : BuiltSite) (c : CellNo) → c.0 < built.cells → All (λ d. d.0 < claim_total (completed_site built)) (footprint_in (completed_site built) c)
footprint_known built c within =
    All-cons (λ (d : ClaimNo). d.0 < claim_total (completed_site built)) (record { 0 = c.0 }) (claims_from built.cells (map completed built.crossings) c) (omega arith) (claims_known built.cells built.crossings c)

pub footprint_in_rises : (built : BuiltSite) (c : CellNo) → c.0 < built.cells → RiseFrom 0 (footprint_in (completed_site built) c)
footprint_in_rises built c within = (omega arith, claims_rise (c.0 + 1) built.cells built.crossings c (omega arith))

-- the name of a claim of a crossing
abbrev pub crossing_name : ℕ → List (List CellNo) → ℕ → ClaimName
crossing_name k flows i = Crossing k (if length flows == 0 then None else Some i)

name_by_flow : (k : ℕ) (flows : List (List CellNo)) (i : ℕ) → i < max 1 (length flows) → slice_get (flow_names k flows) i ≡ Some (crossing_name k flows i)
name_by_flow k [] zero within = refl
name_by_flow k [] (suc i) within = absurd (omega arith)
name_by_flow k (f ∷ fs) i within =
    let n : ℕ = length (f ∷ fs) in
    let inside : i < length (numbers_below n) = omega (arith, length-range_with_len 0 n) in
    slice_get-map (λ j. Crossing k (Some j)) (numbers_below n) i
    ∙ ap (option_map (λ j. Crossing k (Some j))) (slice_get-get_or (numbers_below n) i 0 inside ∙ ap (λ j. Some j) (get_or-range_with_len 0 n i 0 (omega arith) ∙ zero-add i))
    ∙ ap (λ b. Some (Crossing k (cond b None (Some i)))) (sym (ne_eqb n 0 (λ e. omega arith)))

length-flow_names : (k : ℕ) (flows : List (List CellNo)) → length (flow_names k flows) ≡ max 1 (length flows)
length-flow_names k [] = refl
length-flow_names k (f ∷ fs) = length-map (numbers_below (length (f ∷ fs))) (λ j. Crossing k (Some j)) ∙ length-range_with_len 0 (length (f ∷ fs)) ∙ omega arith

name_of_crossing : (from : ℕ) (xs : List BuiltCrossing) (k i : ℕ) → k < length xs → i < claim_count_of (get_or xs k no_crossing) → slice_get (names_from from xs) (crossing_claims (take k xs) + i) ≡ Some (crossing_name (from + k) (get_or xs k no_crossing).flows i)
name_of_crossing from [] k i known within = absurd (omega arith)
name_of_crossing from (x ∷ xs) zero i known within =
    ap (slice_get (names_from from (x ∷ xs))) (let e : 0 + i ≡ i = omega arith in e)
    ∙ slice_get_left (flow_names from x.flows) (names_from (from + 1) xs) i (omega (arith, length-flow_names from x.flows))
    ∙ name_by_flow from x.flows i within
    ∙ ap (λ n. Some (crossing_name n x.flows i)) (let e : from ≡ from + 0 = omega arith in e)
name_of_crossing from (x ∷ xs) (suc k) i known within =
    ap (slice_get (names_from from (x ∷ xs))) (let e : claim_count_of x + crossing_claims (take k xs) + i ≡ claim_count_of x + (crossing_claims (take k xs) + i) = omega arith in e)
    ∙ slice_get_right (flow_names from x.flows) (names_from (from + 1) xs) (claim_count_of x) (crossing_claims (take k xs) + i) (sym (length-flow_names from x.flows))
    ∙ name_of_crossing (from + 1) xs k i (omega arith) within
    ∙ ap (λ n. Some (crossing_name n (get_or xs k no_crossing).flows i)) (let e : from + 1 + k ≡ from + suc k = omega arith in e)

length-cell_names : (n : ℕ) → length (map (λ c. Cell c) (cells_below n)) ≡ n
length-cell_names n = length-map (cells_below n) (λ c. Cell c) ∙ length-map-range_with_len to_cell 0 n

pub name_of_cell : (built : BuiltSite) (c : ℕ) → c < built.cells → slice_get (names_of built) c ≡ Some (Cell (record { 0 = c }))
name_of_cell built c within =
    slice_get_left (map (λ d. Cell d) (cells_below built.cells)) (names_from 0 built.crossings) c (omega (arith, length-cell_names built.cells))
    ∙ slice_get-map (λ d. Cell d) (cells_below built.cells) c
    ∙ ap (option_map (λ d. Cell d)) (slice_get-get_or (cells_below built.cells) c no_cell (omega (arith, length-map-range_with_len to_cell 0 built.cells)) ∙ ap (λ d. Some d) (get_or-map-range_with_len to_cell 0 built.cells c c no_cell within (zero-add c)))

pub name_behind_cells : (built : BuiltSite) (k i : ℕ) → k < length built.crossings → i < claim_count_of (get_or built.crossings k no_crossing) → slice_get (names_of built) (built.cells + (crossing_claims (take k built.crossings) + i)) ≡ Some (crossing_name k (get_or built.crossings k no_crossing).flows i)
name_behind_cells built k i known within =
    slice_get_right (map (λ d. Cell d) (cells_below built.cells)) (names_from 0 built.crossings) built.cells (crossing_claims (take k built.crossings) + i) (sym (length-cell_names built.cells))
    ∙ name_of_crossing 0 built.crossings k i known within
    ∙ ap (λ n. Some (crossing_name n (get_or built.crossings k no_crossing).flows i)) (zero-add k)

-- where a claim stands among those of its crossing
pub owner_place : (xs : List BuiltCrossing) (claim k : ℕ) → IsOwner xs claim k → claim - crossing_claims (take k xs) < claim_count_of (get_or xs k no_crossing)
owner_place xs claim k owner = omega (arith, owner.from, owner.upto, crossing_claims_more xs k owner.known)

-- conflict goes both ways
pub conflict_turned : (groups : List ClaimGroup) (c d : ClaimNo) → in_conflict groups c d ≡ in_conflict groups d c
conflict_turned groups c d =
    elim (cases_Bool (in_conflict groups c d)) [
      | inl holds ↦ holds ∙ sym (conflict_symmetric groups c d holds)
      | inr fails ↦ fails ∙ sym (false_from_ne_true (in_conflict groups d c) (λ h. false≢true (sym fails ∙ conflict_symmetric groups d c h)))
    ]
