-- Lists of distinct numbers: their parts, and how many of them there are.
use Rattle.std.proofs.Common.{◌≡◌, ℕ, ◌<◌, ◌≤◌, true, false, not, ◌==◌, eqb, inl, inr, refl, sym, subst, List, [], ◌∷◌, ◌++◌, length, arith, eq-eqb}
use Rattle.std.proofs.lemmas.Bool.{both_ways, and_parts, and_from, or_parts, not-true, not_from_false, eqb-true, eqb-false, ne_eqb, false_from_ne_true}
use Rattle.std.proofs.lemmas.Map.Steps.{length-le_from_distinct_below}
use Rattle.std.specs.List.{list_any, IsDistinct, AllByRecursion}
use Rattle.fleet_model.specs.Lists.{In, here, there}
use Rattle.fleet_model.specs.Cycles.{are_distinct}
use Rattle.fleet_model.proofs.Lists.{In_either, In-append_left, In-append_right, In-append_cases}
use Rattle.fleet_model.proofs.Tests.{any_In, In_any}

-- a number that the test doesn't find isn't in the list
pub absent_out : (r : ℕ) (rs : List ℕ) → list_any (λ q. q == r) rs ≡ false → In r rs → ⊥
absent_out r rs h m = both_ways (list_any (λ q. q == r) rs) h (In_any (λ q. q == r) rs m (eq-eqb r r refl))

-- the test finds no number that isn't in the list
pub out_absent : (r : ℕ) (rs : List ℕ) → (In r rs → ⊥) → list_any (λ q. q == r) rs ≡ false
out_absent r rs f = false_from_ne_true (list_any (λ q. q == r) rs) (λ t. let m = any_In (λ q. q == r) rs t in f (subst (λ x. In x rs) (eqb-true m.0 r m.2) m.1))

-- the first of a list of distinct numbers isn't in the rest
pub distinct_parts : (x : ℕ) (xs : List ℕ) → are_distinct (x ∷ xs) ≡ true → (In x xs → ⊥) × (are_distinct xs ≡ true)
distinct_parts x xs h = let p = and_parts (not (list_any (λ q. q == x) xs)) (are_distinct xs) h in (absent_out x xs (not-true (list_any (λ q. q == x) xs) p.0), p.1)

-- one more number that isn't in the list leaves it distinct
pub distinct_from : (x : ℕ) (xs : List ℕ) → (In x xs → ⊥) → are_distinct xs ≡ true → are_distinct (x ∷ xs) ≡ true
distinct_from x xs f d = and_from (not (list_any (λ q. q == x) xs)) (are_distinct xs) (not_from_false (list_any (λ q. q == x) xs) (out_absent x xs f)) d

-- both parts of a list of distinct numbers are distinct, and share none
pub distinct_split : (xs ys : List ℕ) → are_distinct (xs ++ ys) ≡ true → (are_distinct xs ≡ true) × (are_distinct ys ≡ true) × ((x : ℕ) → In x xs → In x ys → ⊥)
distinct_split [] ys h = (refl, h, λ x i j. elim i [ ])
distinct_split (x ∷ xs) ys h =
    let p = distinct_parts x (xs ++ ys) h in
    let r = distinct_split xs ys p.1 in (
      distinct_from x xs (λ m. p.0 (In-append_left xs ys m)) r.0,
      r.1,
      λ y i j. In_either i (λ e. p.0 (In-append_right xs ys (subst (λ w. In w ys) e j))) (λ k. r.2 y k j),
    )

-- two lists of distinct numbers that share none are distinct together
pub distinct_join : (xs ys : List ℕ) → are_distinct xs ≡ true → are_distinct ys ≡ true → ((x : ℕ) → In x xs → In x ys → ⊥) → are_distinct (xs ++ ys) ≡ true
distinct_join [] ys d e apart = e
distinct_join (x ∷ xs) ys d e apart =
    let p = distinct_parts x xs d in
    distinct_from x (xs ++ ys) (λ m. elim (In-append_cases xs ys m) [ inl i ↦ p.0 i | inr j ↦ apart x (here refl) j ]) (distinct_join xs ys p.1 e (λ y i j. apart y (there i) j))

-- a number that the test does not find differs from each of the list
all_apart : (r : ℕ) (xs : List ℕ) → list_any (λ q. q == r) xs ≡ false → AllByRecursion (λ y. eqb r y ≡ false) xs
all_apart r [] h = tt
all_apart r (x ∷ xs) h = let p = or_parts (x == r) (list_any (λ q. q == r) xs) h in (ne_eqb r x (λ e. eqb-false x r p.0 (sym e)), all_apart r xs p.1)

-- lists that the test calls distinct are so in the sense of std
distinct_keys : (xs : List ℕ) → are_distinct xs ≡ true → IsDistinct eqb xs
unfolding IsDistinct
distinct_keys [] h = tt
distinct_keys (x ∷ xs) h =
    let p = and_parts (not (list_any (λ q. q == x) xs)) (are_distinct xs) h in
    (all_apart x xs (not-true (list_any (λ q. q == x) xs) p.0), distinct_keys xs p.1)

-- a list of distinct numbers below n has at most n of them
pub distinct_length : (n : ℕ) (xs : List ℕ) → are_distinct xs ≡ true → ((x : ℕ) → In x xs → x < n) → length xs ≤ n
distinct_length n xs d below = length-le_from_distinct_below xs n (distinct_keys xs d) (λ q h. let m = any_In (eqb q) xs h in let e = eqb-true q m.0 m.2 in let l = below m.0 m.1 in omega arith)
