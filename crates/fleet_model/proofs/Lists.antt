-- Membership in lists: of joined, mapped, filtered and paired ones, and of ranges.
use Rattle.std.proofs.Common.{◌≡◌, ℕ, zero, suc, ◌+◌, ◌<◌, ◌≤◌, Bool, true, false, cond, ◌==◌, ◌⊎◌, inl, inr, refl, sym, ap, ◌∙◌, subst, List, [], ◌∷◌, ◌++◌, map, length, arith}
use Rattle.std.proofs.lemmas.Bool.{both_ways, cases_order}
use Rattle.std.proofs.lemmas.List.Elements.{All-nil, All-cons, All-head, All-tail}
use Rattle.std.specs.List.{filter, All, flat_map, range_with_len}
use Rattle.fleet_model.specs.Lists.{In, here, there, pairs, numbers_below}

module _ {A : Type 0} where
  -- the empty list has no member
  pub In-nil : {x : A} → In x [] → ⊥
  In-nil h = elim h [ ]

  -- the first element is a member
  pub In_first : (x : A) (xs : List A) → In x (x ∷ xs)
  In_first x xs = here refl

  -- a member is the first element or one of the rest
  pub In_cases : {x y : A} {ys : List A} → In x (y ∷ ys) → (x ≡ y) ⊎ In x ys
  In_cases (here e) = inl e
  In_cases (there m) = inr m

  -- what holds of the first element and of each of the rest holds of a member
  pub In_either : {C : Type 0} {x y : A} {ys : List A} → In x (y ∷ ys) → (x ≡ y → C) → (In x ys → C) → C
  In_either (here e) f g = f e
  In_either (there m) f g = g m

  -- a member of the first list is one of both joined
  pub In-append_left : {x : A} (xs ys : List A) → In x xs → In x (xs ++ ys)
  In-append_left [] ys m = elim m [ ]
  In-append_left (z ∷ zs) ys (here e) = here e
  In-append_left (z ∷ zs) ys (there m) = there (In-append_left zs ys m)

  -- a member of the second list is one of both joined
  pub In-append_right : {x : A} (xs ys : List A) → In x ys → In x (xs ++ ys)
  In-append_right [] ys m = m
  In-append_right (z ∷ zs) ys m = there (In-append_right zs ys m)

  -- a member of two lists joined is one of the first or of the second
  pub In-append_cases : {x : A} (xs ys : List A) → In x (xs ++ ys) → In x xs ⊎ In x ys
  In-append_cases [] ys m = inr m
  In-append_cases (z ∷ zs) ys (here e) = inl (here e)
  In-append_cases {x} (z ∷ zs) ys (there m) = go (In-append_cases zs ys m)
    where
      go : In x zs ⊎ In x ys → In x (z ∷ zs) ⊎ In x ys
      go (inl n) = inl (there n)
      go (inr n) = inr n

  -- what equals a member is a member
  pub In_equal : {x y : A} {xs : List A} → x ≡ y → In y xs → In x xs
  In_equal e (here h) = here (e ∙ h)
  In_equal e (there m) = there (In_equal e m)

  -- a member of the rest is one with or without one more in front
  kept : (b : Bool) {x : A} (y : A) {zs : List A} → In x zs → In x (cond b (y ∷ zs) zs)
  kept true y m = there m
  kept false y m = m

  -- a member that passes is one of those that pass
  pub In-filter : (p : A → Bool) {x : A} (xs : List A) → In x xs → p x ≡ true → In x (filter p xs)
  In-filter p [] m h = elim m [ ]
  In-filter p (y ∷ ys) (here e) h = rw (ap p (sym e) ∙ h) (here e)
  In-filter p (y ∷ ys) (there m) h = kept (p y) y (In-filter p ys m h)

  -- a member of those that pass, with one more element, passes
  unkept : (p : A → Bool) {x y : A} {zs ys : List A} (b : Bool) → p y ≡ b → (In x zs → In x ys × (p x ≡ true)) → In x (cond b (y ∷ zs) zs) → In x (y ∷ ys) × (p x ≡ true)
  unkept p true e f (here h) = (here h, ap p h ∙ e)
  unkept p true e f (there m) = (there (f m).0, (f m).1)
  unkept p false e f m = (there (f m).0, (f m).1)

  -- one of those that pass is a member, and passes
  pub In_unfilter : (p : A → Bool) {x : A} (xs : List A) → In x (filter p xs) → In x xs × (p x ≡ true)
  In_unfilter p [] m = absurd (In-nil m)
  In_unfilter p (y ∷ ys) m = unkept p (p y) refl (In_unfilter p ys) m

  -- an element splits the list
  pub In_split : {x : A} (xs : List A) → In x xs → (before : List A) × (behind : List A) × (xs ≡ before ++ x ∷ behind)
  In_split [] m = elim m [ ]
  In_split (y ∷ ys) (here e) = ([], ys, ap (λ z. z ∷ ys) (sym e))
  In_split (y ∷ ys) (there m) = let s = In_split ys m in (y ∷ s.0, s.1, ap (λ zs. y ∷ zs) s.2)

-- what a member is mapped to is one of the mapped
pub In-map : {A B : Type 0} (f : A → B) {x : A} (xs : List A) → In x xs → In (f x) (map f xs)
In-map f [] m = elim m [ ]
In-map f (y ∷ ys) (here e) = here (ap f e)
In-map f (y ∷ ys) (there m) = there (In-map f ys m)

-- one of the mapped is what a member is mapped to
pub In_unmap : {A B : Type 0} (f : A → B) {y : B} (xs : List A) → In y (map f xs) → (x : A) × In x xs × (y ≡ f x)
In_unmap f [] m = elim m [ ]
In_unmap f (x ∷ xs) (here e) = (x, here refl, e)
In_unmap f (x ∷ xs) (there m) = let r = In_unmap f xs m in (r.0, there r.1, r.2)

-- between a fact of each element and `All`, which loops and chains give
pub All_In : {A : Type 0} (P : A → Type 0) (xs : List A) → All P xs → (x : A) → In x xs → P x
All_In P [] h x m = elim m [ ]
All_In P (y ∷ ys) h x (here e) = subst P (sym e) (All-head P y ys h)
All_In P (y ∷ ys) h x (there m) = All_In P ys (All-tail P y ys h) x m

-- what holds of each member is a fact of all
pub In_All : {A : Type 0} (P : A → Type 0) (xs : List A) → ((x : A) → In x xs → P x) → All P xs
In_All P [] h = All-nil P
In_All P (y ∷ ys) h = All-cons P y ys (h y (here refl)) (In_All P ys (λ x m. h x (there m)))

-- a member of one of the lists is a member of them joined
pub In-flat_map : {A B : Type 0} (f : A → List B) {x : A} {y : B} (xs : List A) → In x xs → In y (f x) → In y (flat_map f xs)
In-flat_map f [] m h = elim m [ ]
In-flat_map f {x} {y} (z ∷ zs) (here e) h = In-append_left (f z) (flat_map f zs) (rw (sym e) h)
In-flat_map f (z ∷ zs) (there m) h = In-append_right (f z) (flat_map f zs) (In-flat_map f zs m h)

-- a member of the joined lists is a member of one of them
pub In_unflat_map : {A B : Type 0} (f : A → List B) {y : B} (xs : List A) → In y (flat_map f xs) → (x : A) × In x xs × In y (f x)
In_unflat_map f [] m = elim m [ ]
In_unflat_map f (x ∷ xs) m = elim (In-append_cases (f x) (flat_map f xs) m) [ inl h ↦ (x, here refl, h) | inr h ↦ (let r = In_unflat_map f xs h in (r.0, there r.1, r.2)) ]

-- each number from a on, so many, is listed
In_range : (a n x : ℕ) → a ≤ x → x < a + n → In x (range_with_len a n)
In_range a zero x low high = absurd (omega arith)
In_range a (suc n) x low high = go (cases_order x a) (In_range (a + 1) n x)
  where
    go : (x ≡ a) ⊎ ((x < a) ⊎ (a < x)) → (a + 1 ≤ x → x < a + 1 + n → In x (range_with_len (a + 1) n)) → In x (a ∷ range_with_len (a + 1) n)
    go (inl e) ih = here e
    go (inr (inl l)) ih = absurd (omega arith)
    go (inr (inr l)) ih = there (ih (omega arith) (omega arith))

-- a number that is listed is one of them
In_unrange : (a n x : ℕ) → In x (range_with_len a n) → (a ≤ x) × (x < a + n)
In_unrange a zero x m = elim m [ ]
In_unrange a (suc n) x (here e) = (omega arith, omega arith)
In_unrange a (suc n) x (there m) = let r = In_unrange (a + 1) n x m in (omega arith, omega arith)

-- a number below n is listed among those below n
pub In_below : (n x : ℕ) → x < n → In x (numbers_below n)
In_below n x h = In_range 0 n x (omega arith) (omega arith)

-- a number that is listed among those below n is below n
pub below_In : (n x : ℕ) → In x (numbers_below n) → x < n
below_In n x m = let r = In_unrange 0 n x m in omega arith

-- each x is paired with each y
pub In_pairs : {A B : Type 0} {x : A} {y : B} (xs : List A) (ys : List B) → In x xs → In y ys → In (x, y) (pairs xs ys)
In_pairs {A} {B} {x} xs ys i j = In-flat_map (λ (a : A). map (λ (b : B). (a, b)) ys) {x = x} xs i (In-map (λ (b : B). (x, b)) ys j)

-- a pair is of an x and a y
pub pairs_In : {A B : Type 0} {p : A × B} (xs : List A) (ys : List B) → In p (pairs xs ys) → In p.0 xs × In p.1 ys
pairs_In {A} {B} {p} xs ys m =
    let r = In_unflat_map (λ (a : A). map (λ (b : B). (a, b)) ys) xs m in
    let s = In_unmap (λ (b : B). (r.0, b)) ys r.2 in
    (subst (λ a. In a xs) (sym (ap (λ (q : A × B). q.0) s.2)) r.1, subst (λ b. In b ys) (sym (ap (λ (q : A × B). q.1) s.2)) s.1)

-- a list without members is empty
pub none_in : {A : Type 0} (xs : List A) → ((x : A) → In x xs → ⊥) → xs ≡ []
none_in [] f = refl
none_in (x ∷ xs) f = absurd (f x (here refl))

-- a list with a member has at least one
pub length_In : {A : Type 0} (xs : List A) (x : A) → In x xs → 1 ≤ length xs
length_In [] x m = elim m [ ]
length_In (y ∷ ys) x m = omega arith

-- a list that has a length has a member
pub some_one : {A : Type 0} (xs : List A) → (length xs == 0) ≡ false → (x : A) × In x xs
some_one [] h = absurd (both_ways true h refl)
some_one (x ∷ xs) h = (x, here refl)

-- a list has the same elements where its two parts are swapped
pub In_swap : {A : Type 0} {x : A} (xs ys : List A) → In x (xs ++ ys) → In x (ys ++ xs)
In_swap xs ys m = elim (In-append_cases xs ys m) [ inl i ↦ In-append_right ys xs i | inr j ↦ In-append_left ys xs j ]
