-- An order by two keys is an order where it is one by the second; the order of a dictionary is one.
use Rattle.std.proofs.Common.{◌≡◌, ℕ, ◌<◌, Bool, true, false, ◌&&◌, ◌||◌, ◌==◌, ◌⊎◌, inl, inr, refl, sym, ◌∙◌, List, [], ◌∷◌, arith, eq-eqb}
use Rattle.std.proofs.lemmas.Bool.{both_ways, or_cases, or_parts, or_left, or_right, and_parts, and_from, and_cases, ltb-true, lt-ltb, eqb-true, cases_order}
use Rattle.std.specs.Prelude.{nat_lt}
use Rattle.fleet_model.specs.Cycles.{is_upto}

-- what is in the order is less by the first key, or the same there and in the order by the second
pub upto_parts : (x y : ℕ) (a : Bool) → (nat_lt x y || ((x == y) && a)) ≡ true → (x < y) ⊎ ((x ≡ y) × (a ≡ true))
upto_parts x y a h = elim (or_cases (nat_lt x y) ((x == y) && a) h) [ inl l ↦ inl (ltb-true x y l) | inr e ↦ (let p = and_parts (x == y) a e in inr (eqb-true x y p.0, p.1)) ]

-- what is less by the first key is in the order
pub upto_less : (x y : ℕ) (a : Bool) → x < y → (nat_lt x y || ((x == y) && a)) ≡ true
upto_less x y a h = or_left (nat_lt x y) ((x == y) && a) (lt-ltb x y h)

-- what is the same by the first key and in the order by the second is in the order
pub upto_same : (x y : ℕ) (a : Bool) → x ≡ y → a ≡ true → (nat_lt x y || ((x == y) && a)) ≡ true
upto_same x y a e h = or_right (nat_lt x y) ((x == y) && a) (and_from (x == y) a (eq-eqb x y e) h)

-- what isn't in the order is behind by the first key, or by the second
pub upto_not : (x y : ℕ) (a : Bool) → (nat_lt x y || ((x == y) && a)) ≡ false → (y < x) ⊎ ((y ≡ x) × (a ≡ false))
upto_not x y a h = go (cases_order x y) (or_parts (nat_lt x y) ((x == y) && a) h)
  where
    go : (x ≡ y) ⊎ ((x < y) ⊎ (y < x)) → (nat_lt x y ≡ false) × (((x == y) && a) ≡ false) → (y < x) ⊎ ((y ≡ x) × (a ≡ false))
    go (inl e) p = elim (and_cases (x == y) a p.1) [ inl n ↦ absurd (both_ways (x == y) n (eq-eqb x y e)) | inr n ↦ inr (sym e, n) ]
    go (inr (inl l)) p = absurd (both_ways (nat_lt x y) p.0 (lt-ltb x y l))
    go (inr (inr l)) p = inl l

-- an order by two keys is total where it is so by the second
pub upto_total : (x y : ℕ) (a b : Bool) → (a ≡ false → b ≡ true) → (nat_lt x y || ((x == y) && a)) ≡ false → (nat_lt y x || ((y == x) && b)) ≡ true
upto_total x y a b f h = elim (upto_not x y a h) [ inl l ↦ upto_less y x b l | inr e ↦ upto_same y x b e.0 (f e.1) ]

-- an order by two keys is transitive where it is so by the second
pub upto_trans : (x y z : ℕ) (a b c : Bool) → (a ≡ true → b ≡ true → c ≡ true) → (nat_lt x y || ((x == y) && a)) ≡ true → (nat_lt y z || ((y == z) && b)) ≡ true → (nat_lt x z || ((x == z) && c)) ≡ true
upto_trans x y z a b c f h g = go (upto_parts x y a h) (upto_parts y z b g)
  where
    go : (x < y) ⊎ ((x ≡ y) × (a ≡ true)) → (y < z) ⊎ ((y ≡ z) × (b ≡ true)) → (nat_lt x z || ((x == z) && c)) ≡ true
    go (inl l) (inl k) = upto_less x z c (omega arith)
    go (inl l) (inr k) = let e = k.0 in upto_less x z c (omega arith)
    go (inr l) (inl k) = let e = l.0 in upto_less x z c (omega arith)
    go (inr l) (inr k) = upto_same x z c (l.0 ∙ k.0) (f l.1 k.1)

-- where an order by two keys holds both ways, the first keys are equal and it holds both ways by the second
pub upto_one : (x y : ℕ) (a b : Bool) → (nat_lt x y || ((x == y) && a)) ≡ true → (nat_lt y x || ((y == x) && b)) ≡ true → (x ≡ y) × (a ≡ true) × (b ≡ true)
upto_one x y a b h g = go (upto_parts x y a h) (upto_parts y x b g)
  where
    go : (x < y) ⊎ ((x ≡ y) × (a ≡ true)) → (y < x) ⊎ ((y ≡ x) × (b ≡ true)) → (x ≡ y) × (a ≡ true) × (b ≡ true)
    go (inl l) (inl k) = absurd (omega arith)
    go (inl l) (inr k) = let e = k.0 in absurd (omega arith)
    go (inr l) (inl k) = let e = l.0 in absurd (omega arith)
    go (inr l) (inr k) = (l.0, l.1, k.1)

-- of two lists one comes before the other in a dictionary, or they are one
pub is_upto_total : (xs ys : List ℕ) → is_upto xs ys ≡ false → is_upto ys xs ≡ true
is_upto_total [] ys h = absurd (both_ways true h refl)
is_upto_total (x ∷ xs) [] h = refl
is_upto_total (x ∷ xs) (y ∷ ys) h = upto_total x y (is_upto xs ys) (is_upto ys xs) (is_upto_total xs ys) h

-- each list comes no later than itself
pub is_upto_itself : (xs : List ℕ) → is_upto xs xs ≡ true
is_upto_itself [] = refl
is_upto_itself (x ∷ xs) = upto_same x x (is_upto xs xs) refl (is_upto_itself xs)

-- the order of a dictionary is transitive
pub is_upto_trans : (xs ys zs : List ℕ) → is_upto xs ys ≡ true → is_upto ys zs ≡ true → is_upto xs zs ≡ true
is_upto_trans [] ys zs h g = refl
is_upto_trans (x ∷ xs) [] zs h g = absurd (both_ways false refl h)
is_upto_trans (x ∷ xs) (y ∷ ys) [] h g = absurd (both_ways false refl g)
is_upto_trans (x ∷ xs) (y ∷ ys) (z ∷ zs) h g = upto_trans x y z (is_upto xs ys) (is_upto ys zs) (is_upto xs zs) (is_upto_trans xs ys zs) h g

-- two lists that each come no later than the other are one
pub is_upto_one : (xs ys : List ℕ) → is_upto xs ys ≡ true → is_upto ys xs ≡ true → xs ≡ ys
is_upto_one [] [] h g = refl
is_upto_one [] (y ∷ ys) h g = absurd (both_ways false refl g)
is_upto_one (x ∷ xs) [] h g = absurd (both_ways false refl h)
is_upto_one (x ∷ xs) (y ∷ ys) h g =
    let p = upto_one x y (is_upto xs ys) (is_upto ys xs) h g in
    let e = p.0 in
    let f = is_upto_one xs ys p.1 p.2 in
    cc
