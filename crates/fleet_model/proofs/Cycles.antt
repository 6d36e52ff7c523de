-- There is one least cycle at most, and the search among all short lists finds it.
use Rattle.std.proofs.Common.{◌≡◌, ℕ, zero, suc, ◌<◌, ◌≤◌, Bool, true, false, ◌&&◌, ◌==◌, refl, sym, ap, ◌∙◌, subst, List, [], ◌∷◌, map, length, Option, Some, None, unwrap_or, arith, eq-eqb}
use Rattle.std.proofs.lemmas.Bool.{both_ways, and_parts, and_from, eqb-true, false_from_ne_true}
use Rattle.std.specs.List.{filter}
use Rattle.fleet_model.specs.Lists.{In, here, there, least, numbers_below}
use Rattle.fleet_model.specs.Cycles.{leads, are_distinct, is_cycle, is_upto, precedes, IsLeastCycle, lists_within, cycle_through}
use Rattle.fleet_model.proofs.Lists.{In-nil, In_either, In-filter, In_unfilter, In-map, In-flat_map, In_below}
use Rattle.fleet_model.proofs.Leasts.{least_none, least_in, least_first}
use Rattle.fleet_model.proofs.Dictionary.{upto_same, upto_total, upto_trans, upto_one, is_upto_total, is_upto_itself, is_upto_trans, is_upto_one}
use Rattle.fleet_model.proofs.Distinct.{distinct_length}

-- of two lists one precedes the other
pub precedes_total : (xs ys : List ℕ) → precedes xs ys ≡ false → precedes ys xs ≡ true
precedes_total xs ys h = upto_total (length xs) (length ys) (is_upto xs ys) (is_upto ys xs) (is_upto_total xs ys) h

-- each list precedes itself
pub precedes_itself : (xs : List ℕ) → precedes xs xs ≡ true
precedes_itself xs = upto_same (length xs) (length xs) (is_upto xs xs) refl (is_upto_itself xs)

-- what precedes one that precedes a third precedes that too
pub precedes_trans : (xs ys zs : List ℕ) → precedes xs ys ≡ true → precedes ys zs ≡ true → precedes xs zs ≡ true
precedes_trans xs ys zs h g = upto_trans (length xs) (length ys) (length zs) (is_upto xs ys) (is_upto ys zs) (is_upto xs zs) (is_upto_trans xs ys zs) h g

-- two lists that precede each other are one
pub one_first : (xs ys : List ℕ) → precedes xs ys ≡ true → precedes ys xs ≡ true → xs ≡ ys
one_first xs ys h g = let p = upto_one (length xs) (length ys) (is_upto xs ys) (is_upto ys xs) h g in is_upto_one xs ys p.1 p.2

-- two least cycles are equal
pub one_least : (edge : ℕ → ℕ → Bool) (r : ℕ) (xs ys : List ℕ) → IsLeastCycle edge r xs → IsLeastCycle edge r ys → xs ≡ ys
one_least edge r [] [] h g = refl
one_least edge r [] (y ∷ ys) h g = absurd (both_ways (is_cycle edge r (y ∷ ys)) (h (y ∷ ys)) g.0)
one_least edge r (x ∷ xs) [] h g = absurd (both_ways (is_cycle edge r (x ∷ xs)) (g (x ∷ xs)) h.0)
one_least edge r (x ∷ xs) (y ∷ ys) h g = one_first (x ∷ xs) (y ∷ ys) (h.1 (y ∷ ys) g.0) (g.1 (x ∷ xs) h.0)

-- what a cycle is, in parts
pub record IsCycleOf (edge : ℕ → ℕ → Bool) (r : ℕ) (xs : List ℕ) : Type 0 where
  pub others : List ℕ
  pub begins : xs ≡ r ∷ others
  pub distinct : are_distinct xs ≡ true
  pub leads_back : leads edge r xs ≡ true

-- a cycle begins with its number, its members differ, and they lead back
pub cycle_parts : (edge : ℕ → ℕ → Bool) (r : ℕ) (xs : List ℕ) → is_cycle edge r xs ≡ true → IsCycleOf edge r xs
cycle_parts edge r [] h = absurd (both_ways false refl h)
cycle_parts edge r (x ∷ xs) h =
    let p = and_parts (x == r) (are_distinct (x ∷ xs) && leads edge r (x ∷ xs)) h in
    let q = and_parts (are_distinct (x ∷ xs)) (leads edge r (x ∷ xs)) p.1 in
    record { others = xs; begins = ap (λ y. y ∷ xs) (eqb-true x r p.0); distinct = q.0; leads_back = q.1 }

-- a chain of different numbers that leads back to its first is a cycle
pub cycle_from : (edge : ℕ → ℕ → Bool) (r : ℕ) (rs : List ℕ) → are_distinct (r ∷ rs) ≡ true → leads edge r (r ∷ rs) ≡ true → is_cycle edge r (r ∷ rs) ≡ true
cycle_from edge r rs d l = and_from (r == r) (are_distinct (r ∷ rs) && leads edge r (r ∷ rs)) (eq-eqb r r refl) (and_from (are_distinct (r ∷ rs)) (leads edge r (r ∷ rs)) d l)

-- each number of a chain leads to one of it, or to its last goal
pub leads_next : (edge : ℕ → ℕ → Bool) (z : ℕ) (members xs : List ℕ) → ((x : ℕ) → In x xs → In x members) → In z members → leads edge z xs ≡ true → (x : ℕ) → In x xs → (y : ℕ) × In y members × (edge x y ≡ true)
leads_next edge z members [] among last h x i = elim i [ ]
leads_next edge z members (a ∷ []) among last h x i = In_either i (λ e. (z, last, ap (λ w. edge w z) e ∙ h)) (λ j. elim j [ ])
leads_next edge z members (a ∷ b ∷ bs) among last h x i =
    let p = and_parts (edge a b) (leads edge z (b ∷ bs)) h in
    In_either i (λ e. (b, among b (there (here refl)), ap (λ w. edge w b) e ∙ p.0)) (λ j. leads_next edge z members (b ∷ bs) (λ w k. among w (there k)) last p.1 x j)

-- each member of a cycle leads to a member
pub cycle_next : (edge : ℕ → ℕ → Bool) (r : ℕ) (xs : List ℕ) → is_cycle edge r xs ≡ true → (x : ℕ) → In x xs → (y : ℕ) × In y xs × (edge x y ≡ true)
cycle_next edge r xs h x i =
    let p = cycle_parts edge r xs h in
    leads_next edge r xs xs (λ w k. k) (subst (λ ys. In r ys) (sym p.begins) (here refl)) p.leads_back x i

-- the members of a cycle differ
pub cycle_distinct : (edge : ℕ → ℕ → Bool) (r : ℕ) (xs : List ℕ) → is_cycle edge r xs ≡ true → are_distinct xs ≡ true
cycle_distinct edge r xs h = (cycle_parts edge r xs h).distinct

-- a chain whose edges hold under another relation is a chain of that
leads_on : (edge more : ℕ → ℕ → Bool) (z : ℕ) (members xs : List ℕ) → ((x : ℕ) → In x xs → In x members) → In z members → ((a b : ℕ) → In a members → In b members → edge a b ≡ true → more a b ≡ true) → leads edge z xs ≡ true → leads more z xs ≡ true
leads_on edge more z members [] among last f h = h
leads_on edge more z members (x ∷ []) among last f h = f x z (among x (here refl)) last h
leads_on edge more z members (x ∷ y ∷ ys) among last f h =
    let p = and_parts (edge x y) (leads edge z (y ∷ ys)) h in
    and_from (more x y) (leads more z (y ∷ ys)) (f x y (among x (here refl)) (among y (there (here refl))) p.0) (leads_on edge more z members (y ∷ ys) (λ w k. among w (there k)) last f p.1)

-- a cycle whose edges hold under another relation is a cycle of that
pub cycle_on : (edge more : ℕ → ℕ → Bool) (r : ℕ) (xs : List ℕ) → ((a b : ℕ) → In a xs → In b xs → edge a b ≡ true → more a b ≡ true) → is_cycle edge r xs ≡ true → is_cycle more r xs ≡ true
cycle_on edge more r [] f h = h
cycle_on edge more r (x ∷ xs) f h =
    let p = and_parts (x == r) (are_distinct (x ∷ xs) && leads edge r (x ∷ xs)) h in
    let q = and_parts (are_distinct (x ∷ xs)) (leads edge r (x ∷ xs)) p.1 in
    let begins : r ≡ x = sym (eqb-true x r p.0) in
    and_from (x == r) (are_distinct (x ∷ xs) && leads more r (x ∷ xs)) p.0
    (and_from (are_distinct (x ∷ xs)) (leads more r (x ∷ xs)) q.0 (leads_on edge more r (x ∷ xs) (x ∷ xs) (λ w k. k) (here begins) f q.1))

-- each list of at most k numbers below n is listed
pub In_lists_within : (n k : ℕ) (xs : List ℕ) → length xs ≤ k → ((x : ℕ) → In x xs → x < n) → In xs (lists_within n k)
In_lists_within n zero [] l below = here refl
In_lists_within n zero (x ∷ xs) l below = absurd (omega arith)
In_lists_within n (suc k) [] l below = here refl
In_lists_within n (suc k) (x ∷ xs) l below =
    there (In-flat_map (λ ys. map (λ y. y ∷ ys) (numbers_below n)) {x = xs} (lists_within n k) (In_lists_within n k xs (omega arith) (λ y m. below y (there m))) (In-map (λ y. y ∷ xs) (numbers_below n) (In_below n x (below x (here refl)))))

-- a cycle of a relation between numbers below n is among the lists of at most n such numbers
pub cycle_within : (n : ℕ) (edge : ℕ → ℕ → Bool) (r : ℕ) (xs : List ℕ) → ((a b : ℕ) → edge a b ≡ true → (a < n) × (b < n)) → is_cycle edge r xs ≡ true → In xs (lists_within n n)
cycle_within n edge r xs bounded h =
    let below : (x : ℕ) → In x xs → x < n = λ x m. (let y = cycle_next edge r xs h x m in (bounded x y.0 y.2).0) in
    In_lists_within n n xs (distinct_length n xs (cycle_distinct edge r xs h) below) below

-- the cycle that the search finds is the least
pub cycle_through_least : (n : ℕ) (edge : ℕ → ℕ → Bool) (r : ℕ) → ((a b : ℕ) → edge a b ≡ true → (a < n) × (b < n)) → IsLeastCycle edge r (cycle_through n edge r)
cycle_through_least n edge r bounded = go (least precedes (filter (is_cycle edge r) (lists_within n n))) refl
  where
    among : (ys : List ℕ) → is_cycle edge r ys ≡ true → In ys (filter (is_cycle edge r) (lists_within n n))
    among ys h = In-filter (is_cycle edge r) (lists_within n n) (cycle_within n edge r ys bounded h) h

    go : (o : Option (List ℕ)) → least precedes (filter (is_cycle edge r) (lists_within n n)) ≡ o → IsLeastCycle edge r (unwrap_or o [])
    go None e = λ ys. false_from_ne_true (is_cycle edge r ys) (λ h. In-nil (subst (λ xs. In ys xs) (least_none precedes (filter (is_cycle edge r) (lists_within n n)) e) (among ys h)))
    go (Some []) e = absurd (both_ways false refl (In_unfilter (is_cycle edge r) (lists_within n n) (least_in precedes (filter (is_cycle edge r) (lists_within n n)) [] e)).1)
    go (Some (x ∷ xs)) e = (
      (In_unfilter (is_cycle edge r) (lists_within n n) (least_in precedes (filter (is_cycle edge r) (lists_within n n)) (x ∷ xs) e)).1,
      λ ys h. least_first precedes precedes_total precedes_itself precedes_trans (filter (is_cycle edge r) (lists_within n n)) (x ∷ xs) ys e (among ys h),
    )
