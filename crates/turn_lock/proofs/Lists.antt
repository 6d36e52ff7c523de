-- Sums over a list where one element changes, beginnings of lists, and the entries of one maker.
use Rattle.std.proofs.Common.{◌≡◌, ◌⊎◌, inl, inr, ⊎_elim, ◌≢◌, ℕ, zero, suc, ◌+◌, ◌<◌, ◌≤◌, ◌==◌, cond, List, [], ◌∷◌, ◌++◌, length, set, sum_by, refl, ap, sym, ◌∙◌, arith, zero-le, append_assoc, append-nil, length-append, eq-eqb, ne_eqb}
use mathlib.Core.Option.{some, some-injective, some-ne-none}
use mathlib.Core.List.{IsPrefix}
use lib.ListN.{get_elem?}
use Rattle.std.proofs.lemmas.List.{drop-append-le}
use Rattle.std.proofs.lemmas.List.Elements.{filter-append}
use Rattle.std.proofs.lemmas.List.Sums.{sum_by-cons}
use Rattle.std.proofs.Math.Seq.{drop-append_seam}
use Rattle.turn_lock.specs.Locks.{behind, entries_of}

module _ {A : Type 0} (f : A → ℕ) where
  pub sum_set : (l : List A) (i : ℕ) (a b : A) → get_elem? l i ≡ some a → sum_by f (set l i b) + f a ≡ sum_by f l + f b
  sum_set [] i a b e = absurd (some-ne-none a (sym e))
  sum_set (x ∷ xs) zero a b e = let p : f x ≡ f a = ap f (some-injective x a e) in omega (arith, sum_by-cons f x xs, sum_by-cons f b xs, p)
  sum_set (x ∷ xs) (suc i) a b e = omega (arith, sum_by-cons f x xs, sum_by-cons f x (set xs i b), sum_set xs i a b e)

  pub sum_few : (l : List A) → ((x : A) → f x ≤ 1) → sum_by f l ≤ length l
  sum_few [] h = zero-le
  sum_few (x ∷ xs) h = omega (arith, sum_by-cons f x xs, h x, sum_few xs h)

  pub one_of : (l : List A) (i : ℕ) (a : A) → get_elem? l i ≡ some a → f a ≤ sum_by f l
  one_of [] i a e = absurd (some-ne-none a (sym e))
  one_of (x ∷ xs) zero a e = let p : f x ≡ f a = ap f (some-injective x a e) in omega (arith, sum_by-cons f x xs, p)
  one_of (x ∷ xs) (suc i) a e = omega (arith, sum_by-cons f x xs, one_of xs i a e)

  pub two_of : (l : List A) (i j : ℕ) (a b : A) → get_elem? l i ≡ some a → get_elem? l j ≡ some b → i ≢ j → f a + f b ≤ sum_by f l
  two_of [] i j a b e g n = absurd (some-ne-none a (sym e))
  two_of (x ∷ xs) zero zero a b e g n = absurd (n refl)
  two_of (x ∷ xs) zero (suc j) a b e g n = let p : f x ≡ f a = ap f (some-injective x a e) in omega (arith, sum_by-cons f x xs, p, one_of xs j b g)
  two_of (x ∷ xs) (suc i) zero a b e g n = let p : f x ≡ f b = ap f (some-injective x b g) in omega (arith, sum_by-cons f x xs, p, one_of xs i a e)
  two_of (x ∷ xs) (suc i) (suc j) a b e g n = omega (arith, sum_by-cons f x xs, two_of xs i j a b e g (λ h. n (ap suc h)))

module _ {A : Type 0} where
  pub prefix_self : (xs : List A) → IsPrefix xs xs
  prefix_self xs = ([], append-nil xs)

  pub prefix_more : (xs ys : List A) → IsPrefix xs (xs ++ ys)
  prefix_more xs ys = (ys, refl)

  pub prefix_trans : (xs ys zs : List A) → IsPrefix xs ys → IsPrefix ys zs → IsPrefix xs zs
  prefix_trans xs ys zs p q = (p.0 ++ q.0, sym (append_assoc xs p.0 q.0) ∙ (ap (λ w. w ++ q.0) p.1 ∙ q.1))

  pub prefix_length : (xs ys : List A) → IsPrefix xs ys → length xs ≤ length ys
  prefix_length xs ys p = omega (arith, sym (ap length p.1) ∙ length-append xs p.0)

  pub behind_more : (start log more : List A) → IsPrefix start log → behind start (log ++ more) ≡ behind start log ++ more
  behind_more start log more p = drop-append-le (length start) log more (prefix_length start log p)

  pub behind_self : (start : List A) → behind start start ≡ []
  behind_self start = ap (λ (w : List A). behind start w) (sym (append-nil start)) ∙ drop-append_seam start []

  pub get_below : (l : List A) (i : ℕ) (a : A) → get_elem? l i ≡ some a → i < length l
  get_below [] i a e = absurd (some-ne-none a (sym e))
  get_below (x ∷ xs) zero a e = omega arith
  get_below (x ∷ xs) (suc i) a e = omega (arith, get_below xs i a e)

  -- an element of a list one longer is an old one, or the last
  pub at_end : (l : List A) (a b : A) (j : ℕ) → get_elem? (l ++ a ∷ []) j ≡ some b → ((j < length l) × (get_elem? l j ≡ some b)) ⊎ ((j ≡ length l) × (a ≡ b))
  at_end [] a b zero e = inr (refl, some-injective a b e)
  at_end [] a b (suc j) e = absurd (some-ne-none b (sym e))
  at_end (x ∷ xs) a b zero e = inl (omega arith, e)
  at_end (x ∷ xs) a b (suc j) e = ⊎_elim (λ t. let p = t.0 in inl (omega arith, t.1)) (λ t. let p = t.0 in inr (omega arith, t.1)) (at_end xs a b j e)

  module _ (maker : A → ℕ) where
    pub mine_own : (n : ℕ) (e : A) → maker e ≡ n → entries_of maker n (e ∷ []) ≡ e ∷ []
    mine_own n e h = ap (λ b. cond b (e ∷ []) []) (eq-eqb (maker e) n h)

    pub mine_other : (n : ℕ) (e : A) → maker e ≢ n → entries_of maker n (e ∷ []) ≡ []
    mine_other n e h = ap (λ b. cond b (e ∷ []) []) (ne_eqb (maker e) n h)

    pub mine_more : (n : ℕ) (start log more : List A) → IsPrefix start log → entries_of maker n (behind start (log ++ more)) ≡ entries_of maker n (behind start log) ++ entries_of maker n more
    mine_more n start log more p = ap (entries_of maker n) (behind_more start log more p) ∙ filter-append (λ e. maker e == n) (behind start log) more
