-- The elements of lists by their places.
use Rattle.std.proofs.Common.{◌≡◌, ℕ, zero, suc, ◌+◌, ◌-◌, ◌<◌, ◌≤◌, refl, sym, ap, ◌∙◌, List, [], ◌∷◌, ◌++◌, length, drop, arith, Some}
use Rattle.std.specs.Prelude.{slice_get}
use Rattle.fleet_model.specs.Lists.{In, here, there}

module _ {A : Type 0} where
  -- the element at a place is one of the list
  pub get_In : (xs : List A) (i : ℕ) (x : A) → slice_get xs i ≡ Some x → In x xs
  get_In [] i x h = absurd (cc)
  get_In (y ∷ ys) zero x h = here (cc)
  get_In (y ∷ ys) (suc i) x h = there (get_In ys i x h)

  -- an element of the list has a place
  pub In_get : (xs : List A) (x : A) → In x xs → (i : ℕ) × (slice_get xs i ≡ Some x)
  In_get [] x m = elim m [ ]
  In_get (y ∷ ys) x (here e) = (0, ap (λ z. Some z) (sym e))
  In_get (y ∷ ys) x (there m) = let r = In_get ys x m in (suc r.0, r.1)

  -- an element of the second part of two lists joined
  pub get-append_right : (xs ys : List A) (i : ℕ) → length xs ≤ i → slice_get (xs ++ ys) i ≡ slice_get ys (i - length xs)
  get-append_right [] ys i h = ap (slice_get ys) (omega arith)
  get-append_right (x ∷ xs) ys zero h = absurd (omega arith)
  get-append_right (x ∷ xs) ys (suc i) h = get-append_right xs ys i (omega arith) ∙ ap (slice_get ys) (omega arith)

  -- an element behind so many
  pub get-drop : (xs : List A) (n i : ℕ) → slice_get (drop n xs) i ≡ slice_get xs (n + i)
  get-drop xs zero i = ap (slice_get xs) (omega arith)
  get-drop [] (suc n) i = refl
  get-drop (x ∷ xs) (suc n) i = get-drop xs n i ∙ ap (slice_get (x ∷ xs)) (let e : suc (n + i) ≡ suc n + i = omega arith in e)
