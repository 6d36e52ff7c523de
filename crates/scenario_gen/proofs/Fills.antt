-- Lists that are filled from the front on, and blank behind.
use Rattle.std.proofs.Common.{◌≡◌, ℕ, suc, ◌+◌, ◌-◌, ◌<◌, ◌≤◌, refl, sym, ap, ◌∙◌, List, [], ◌∷◌, ◌++◌, length, map, replicate, get_or, set, arith, length-append, append_assoc}
use Rattle.std.proofs.lemmas.List.{length-replicate, get_or-append_right, get_or-replicate, set-append_right}
use Rattle.std.proofs.lemmas.List.FromFn.{length-map-range_with_len, map-range_with_len_more}
use Rattle.fleet_model.specs.Lists.{numbers_below}

module _ {X : Type 0} (f : ℕ → X) (blank : X) (n i : ℕ) where
  -- the first i of n places are filled
  abbrev pub filled : List X
  filled = map f (numbers_below i) ++ replicate (n - i) blank

  pub length-filled : i ≤ n → length filled ≡ n
  length-filled within =
      let all = length-append (map f (numbers_below i)) (replicate (n - i) blank) in
      let front = length-map-range_with_len f 0 i in
      let back = length-replicate (n - i) blank in
      omega arith

  -- the next place is blank
  pub filled_at : i < n → get_or filled i blank ≡ blank
  filled_at within =
      get_or-append_right (map f (numbers_below i)) (replicate (n - i) blank) i i blank (length-map-range_with_len f 0 i) (omega arith)
      ∙ get_or-replicate (n - i) (i - i) blank blank (omega arith)

  -- with the next place filled
  pub filled_more : (y : X) → i < n → y ≡ f i → set filled i y ≡ map f (numbers_below (i + 1)) ++ replicate (n - (i + 1)) blank
  filled_more y within is =
      let none : i - i ≡ 0 = omega arith in
      let some : n - i ≡ suc (n - (i + 1)) = omega arith in
      set-append_right (map f (numbers_below i)) (replicate (n - i) blank) i i y (length-map-range_with_len f 0 i) (omega arith)
      ∙ (ap (λ k. map f (numbers_below i) ++ set (replicate (n - i) blank) k y) none
      ∙ (ap (λ k. map f (numbers_below i) ++ set (replicate k blank) 0 y) some
      ∙ (sym (append_assoc (map f (numbers_below i)) (y ∷ []) (replicate (n - (i + 1)) blank))
      ∙ ap (λ xs. xs ++ replicate (n - (i + 1)) blank) (ap (λ z. map f (numbers_below i) ++ z ∷ []) is ∙ sym (map-range_with_len_more f 0 i i (omega arith))))))
