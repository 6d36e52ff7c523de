-- What tests of a list's elements say of its members.
use Rattle.std.proofs.Common.{◌≡◌, Bool, true, false, cond, ◌⊎◌, inl, inr, refl, sym, ap, ◌∙◌, List, [], ◌∷◌, Option, Some}
use Rattle.std.proofs.lemmas.Bool.{both_ways, or_cases, or_left, or_right, and_parts, and_from, or_from, false_from_ne_true}
use Rattle.std.specs.List.{list_any, list_all, find}
use Rattle.std.specs.Option.{is_some}
use Rattle.fleet_model.specs.Lists.{In, here, there}

module _ {A : Type 0} (p : A → Bool) where
  -- where some element passes, here is one
  pub any_In : (xs : List A) → list_any p xs ≡ true → (x : A) × In x xs × (p x ≡ true)
  any_In [] h = absurd (both_ways false refl h)
  any_In (x ∷ xs) h = elim (or_cases (p x) (list_any p xs) h) [ inl t ↦ (x, here refl, t) | inr t ↦ (let r = any_In xs t in (r.0, there r.1, r.2)) ]

  -- an element that passes makes the test of some element true
  pub In_any : {x : A} (xs : List A) → In x xs → p x ≡ true → list_any p xs ≡ true
  In_any [] m h = elim m [ ]
  In_any (y ∷ ys) (here e) h = or_left (p y) (list_any p ys) (ap p (sym e) ∙ h)
  In_any (y ∷ ys) (there m) h = or_right (p y) (list_any p ys) (In_any ys m h)

  -- where no member passes, the test of some element is false
  pub any_none : (xs : List A) → ((x : A) → In x xs → p x ≡ false) → list_any p xs ≡ false
  any_none [] h = refl
  any_none (x ∷ xs) h = or_from (p x) (list_any p xs) (h x (here refl)) (any_none xs (λ y i. h y (there i)))

  -- where the test of some element is false, no member passes
  pub none_any : (xs : List A) (x : A) → In x xs → list_any p xs ≡ false → p x ≡ false
  none_any xs x i h = false_from_ne_true (p x) (λ t. both_ways (list_any p xs) h (In_any xs i t))

  -- where each element passes, each member does
  pub all_In : {x : A} (xs : List A) → list_all p xs ≡ true → In x xs → p x ≡ true
  all_In [] h m = elim m [ ]
  all_In (y ∷ ys) h (here e) = ap p e ∙ (and_parts (p y) (list_all p ys) h).0
  all_In (y ∷ ys) h (there m) = all_In ys (and_parts (p y) (list_all p ys) h).1 m

  -- where each member passes, the test of each element is true
  pub In_all : (xs : List A) → ((x : A) → In x xs → p x ≡ true) → list_all p xs ≡ true
  In_all [] f = refl
  In_all (y ∷ ys) f = and_from (p y) (list_all p ys) (f y (here refl)) (In_all ys (λ x m. f x (there m)))

  -- what is found is this element, which passes, or it is found behind it
  find_cases : (x y : A) (o : Option A) (b : Bool) → p x ≡ b → cond b (Some x) o ≡ Some y → ((x ≡ y) × (p y ≡ true)) ⊎ (o ≡ Some y)
  find_cases x y o true e h = let s : x ≡ y = cc in inl (s, ap p (sym s) ∙ e)
  find_cases x y o false e h = inr h

  -- what is found is an element that passes
  pub found_In : (xs : List A) (y : A) → find p xs ≡ Some y → In y xs × (p y ≡ true)
  found_In [] y h = absurd (cc)
  found_In (x ∷ xs) y h = elim (find_cases x y (find p xs) (p x) refl h) [ inl e ↦ (here (sym e.0), e.1) | inr e ↦ (let r = found_In xs y e in (there r.0, r.1)) ]

  -- where one is found behind this element, one is found from it on
  find_on : (x : A) (o : Option A) (b : Bool) → p x ≡ b → is_some o ≡ true → is_some (cond b (Some x) o) ≡ true
  find_on x o true e h = refl
  find_on x o false e h = h

  -- where an element passes, one is found
  pub In_found : {x : A} (xs : List A) → In x xs → p x ≡ true → is_some (find p xs) ≡ true
  In_found [] m h = elim m [ ]
  In_found (y ∷ ys) (here e) h = ap (λ b. is_some (cond b (Some y) (find p ys))) (ap p (sym e) ∙ h)
  In_found (y ∷ ys) (there m) h = find_on y (find p ys) (p y) refl (In_found ys m h)
