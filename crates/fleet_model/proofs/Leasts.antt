-- The least element of a list is one of it, and comes before each.
use Rattle.std.proofs.Common.{◌≡◌, Bool, true, false, cond, ◌⊎◌, inl, inr, refl, sym, ◌∙◌, List, [], ◌∷◌, Option, Some, None}
use Rattle.fleet_model.specs.Lists.{In, here, there, earlier, least}
use Rattle.fleet_model.proofs.Lists.{In_either}

module _ {A : Type 0} (upto : A → A → Bool) where
  -- the earlier of two is the first, which comes no later, or the second
  earlier_cases : (x y : A) (b : Bool) → upto x y ≡ b → ((cond b x y ≡ x) × (upto x y ≡ true)) ⊎ ((cond b x y ≡ y) × (upto x y ≡ false))
  earlier_cases x y true h = inl (refl, h)
  earlier_cases x y false h = inr (refl, h)

  -- a list without a least element is empty
  pub least_none : (xs : List A) → least upto xs ≡ None → xs ≡ []
  least_none [] h = refl
  least_none (x ∷ xs) h = absurd (cc)

  -- the earlier of an element and one of the rest is one of the list
  earlier_in : (x z : A) (o : Option A) (xs : List A) → ((y : A) → o ≡ Some y → In y xs) → earlier upto x o ≡ z → In z (x ∷ xs)
  earlier_in x z None xs among h = here (sym h)
  earlier_in x z (Some y) xs among h = go (earlier_cases x y (upto x y) refl)
    where
      go : ((cond (upto x y) x y ≡ x) × (upto x y ≡ true)) ⊎ ((cond (upto x y) x y ≡ y) × (upto x y ≡ false)) → In z (x ∷ xs)
      go (inl e) = here (sym h ∙ e.0)
      go (inr e) = let s : z ≡ y = sym h ∙ e.0 in there (rw s (among y refl))

  -- the least element is one of the list
  pub least_in : (xs : List A) (z : A) → least upto xs ≡ Some z → In z xs
  least_in [] z h = absurd (cc)
  least_in (x ∷ xs) z h = earlier_in x z (least upto xs) xs (least_in xs) (cc)

  -- a list that has an element has a least one
  pub least_some : (xs : List A) (y : A) → In y xs → (z : A) × (least upto xs ≡ Some z)
  least_some [] y m = elim m [ ]
  least_some (x ∷ xs) y m = (earlier upto x (least upto xs), refl)

  module _ (total : (x y : A) → upto x y ≡ false → upto y x ≡ true) (itself : (x : A) → upto x x ≡ true) (trans : (x y z : A) → upto x y ≡ true → upto y z ≡ true → upto x z ≡ true) where
    -- the earlier of two comes before both
    earlier_first : (x z : A) (o : Option A) → earlier upto x o ≡ z → (upto z x ≡ true) × ((y : A) → o ≡ Some y → upto z y ≡ true)
    earlier_first x z None h = (rw (sym h) (itself x), λ y e. absurd (cc))
    earlier_first x z (Some w) h = go (earlier_cases x w (upto x w) refl)
      where
        go : ((cond (upto x w) x w ≡ x) × (upto x w ≡ true)) ⊎ ((cond (upto x w) x w ≡ w) × (upto x w ≡ false)) → (upto z x ≡ true) × ((y : A) → Some w ≡ Some y → upto z y ≡ true)
        go (inl e) = let s : z ≡ x = sym h ∙ e.0 in (rw s (itself x), λ y k. let t : w ≡ y = cc in rw (s, sym t) e.1)
        go (inr e) = let s : z ≡ w = sym h ∙ e.0 in (rw s (total x w e.1), λ y k. let t : w ≡ y = cc in rw (s, sym t) (itself w))

    -- the least element comes before each, where the order is total
    pub least_first : (xs : List A) (z y : A) → least upto xs ≡ Some z → In y xs → upto z y ≡ true
    least_first [] z y h m = elim m [ ]
    least_first (x ∷ xs) z y h m =
        let f = earlier_first x z (least upto xs) (cc) in
        In_either m (λ e. rw e f.0) (λ i. let w = least_some xs y i in trans z w.0 y (f.1 w.0 w.1) (least_first xs w.0 y w.1 i))
