-- What a filter keeps, and how much.
use Rattle.std.proofs.Common.{◌≡◌, ◌+◌, ◌≤◌, Bool, true, false, cond, refl, sym, ap, ◌∙◌, List, [], ◌∷◌, length, arith}
use Rattle.std.proofs.lemmas.Bool.{both_ways}
use Rattle.std.specs.List.{filter}
use Rattle.fleet_model.specs.Lists.{In, here, there}
use Rattle.std.proofs.lemmas.List.Sums.{length-filter, count_by-le-length}

module _ {A : Type 0} where
  -- a filter keeps no more elements than there are
  pub length-filter-le : (p : A → Bool) (xs : List A) → length (filter p xs) ≤ length xs
  length-filter-le p xs = omega (arith, length-filter p xs, count_by-le-length p xs)

  pub filter_in : (p : A → Bool) (x : A) (xs : List A) → p x ≡ true → filter p (x ∷ xs) ≡ x ∷ filter p xs
  filter_in p x xs h = rw h refl

  pub filter_out : (p : A → Bool) (x : A) (xs : List A) → p x ≡ false → filter p (x ∷ xs) ≡ filter p xs
  filter_out p x xs h = rw h refl

  -- one more element keeps the order of the two lengths
  filter_le_step : (p q : A → Bool) (x : A) (xs : List A) (a b : Bool) → (a ≡ true → b ≡ true) → length (filter p xs) ≤ length (filter q xs) → length (cond a (x ∷ filter p xs) (filter p xs)) ≤ length (cond b (x ∷ filter q xs) (filter q xs))
  filter_le_step p q x xs true true f rest = omega arith
  filter_le_step p q x xs false true f rest = omega arith
  filter_le_step p q x xs false false f rest = rest
  filter_le_step p q x xs true false f rest = absurd (both_ways false refl (f refl))

  -- a test that passes no more leaves no more
  pub filter_le : (p q : A → Bool) (xs : List A) → ((x : A) → In x xs → p x ≡ true → q x ≡ true) → length (filter p xs) ≤ length (filter q xs)
  filter_le p q [] f = omega arith
  filter_le p q (x ∷ xs) f = filter_le_step p q x xs (p x) (q x) (f x (here refl)) (filter_le p q xs (λ y i h. f y (there i) h))

  -- one more element keeps the strict order of the two lengths
  filter_less_step : (p q : A → Bool) (x : A) (xs : List A) (a b : Bool) → (a ≡ true → b ≡ true) → length (filter p xs) + 1 ≤ length (filter q xs) → length (cond a (x ∷ filter p xs) (filter p xs)) + 1 ≤ length (cond b (x ∷ filter q xs) (filter q xs))
  filter_less_step p q x xs true true f rest = omega arith
  filter_less_step p q x xs false true f rest = omega arith
  filter_less_step p q x xs false false f rest = rest
  filter_less_step p q x xs true false f rest = absurd (both_ways false refl (f refl))

  -- a test that passes less, and an element that it doesn't pass any more
  pub filter_less : (p q : A → Bool) (xs : List A) (z : A) → ((x : A) → In x xs → p x ≡ true → q x ≡ true) → In z xs → p z ≡ false → q z ≡ true → length (filter p xs) + 1 ≤ length (filter q xs)
  filter_less p q [] z f m n y = elim m [ ]
  filter_less p q (x ∷ xs) z f (here e) n y = rw (ap p (sym e) ∙ n, ap q (sym e) ∙ y) (let k = filter_le p q xs (λ w i h. f w (there i) h) in omega arith)
  filter_less p q (x ∷ xs) z f (there m) n y = filter_less_step p q x xs (p x) (q x) (f x (here refl)) (filter_less p q xs z (λ w i h. f w (there i) h) m n y)

  -- one more element leaves the filtered list shorter
  filter_misses_step : (p : A → Bool) (x : A) (xs : List A) (a : Bool) → length (filter p xs) + 1 ≤ length xs → length (cond a (x ∷ filter p xs) (filter p xs)) + 1 ≤ length (x ∷ xs)
  filter_misses_step p x xs true rest = omega arith
  filter_misses_step p x xs false rest = omega arith

  -- a filter that doesn't pass some element is shorter
  pub filter_misses : (p : A → Bool) (xs : List A) (z : A) → In z xs → p z ≡ false → length (filter p xs) + 1 ≤ length xs
  filter_misses p [] z m n = elim m [ ]
  filter_misses p (x ∷ xs) z (here e) n = rw (ap p (sym e) ∙ n) (let k = length-filter-le p xs in omega arith)
  filter_misses p (x ∷ xs) z (there m) n = filter_misses_step p x xs (p x) (filter_misses p xs z m n)

  -- a filter that each element passes changes nothing
  pub filter_all : (p : A → Bool) (es : List A) → ((e : A) → In e es → p e ≡ true) → filter p es ≡ es
  filter_all p [] h = refl
  filter_all p (e ∷ es) h = filter_in p e es (h e (here refl)) ∙ ap (λ zs. e ∷ zs) (filter_all p es (λ x i. h x (there i)))

  -- a filter that no element passes leaves nothing
  pub filter_none : (p : A → Bool) (es : List A) → ((e : A) → In e es → p e ≡ false) → filter p es ≡ []
  filter_none p [] h = refl
  filter_none p (e ∷ es) h = filter_out p e es (h e (here refl)) ∙ filter_none p es (λ x i. h x (there i))

  filter_swap_step : (p q : A → Bool) (x : A) (ps qs : List A) (a b : Bool) → p x ≡ a → q x ≡ b → filter p qs ≡ filter q ps → filter p (cond b (x ∷ qs) qs) ≡ filter q (cond a (x ∷ ps) ps)
  filter_swap_step p q x ps qs true true h g ih = rw (h, g) (ap (λ zs. x ∷ zs) ih)
  filter_swap_step p q x ps qs true false h g ih = rw g ih
  filter_swap_step p q x ps qs false true h g ih = rw h ih
  filter_swap_step p q x ps qs false false h g ih = ih

  pub filter_swap : (p q : A → Bool) (xs : List A) → filter p (filter q xs) ≡ filter q (filter p xs)
  filter_swap p q [] = refl
  filter_swap p q (x ∷ xs) = filter_swap_step p q x (filter p xs) (filter q xs) (p x) (q x) refl refl (filter_swap p q xs)
