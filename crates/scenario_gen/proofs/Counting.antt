-- How many things of a kind have names.
use Rattle.std.proofs.Common.{◌≡◌, ℕ, zero, suc, ◌+◌, Bool, true, false, cond, refl, sym, ap, ◌∙◌, List, [], ◌∷◌, ◌++◌, map, arith, append_assoc}
use Rattle.std.proofs.lemmas.Bool.{cases_Bool}
use Rattle.std.proofs.Common.{inl, inr}
use Rattle.std.proofs.lemmas.List.FromFn.{map-range_with_len_more}
use Rattle.std.specs.Fmt.{decimal}
use Rattle.std.specs.List.{range_with_len}
use Rattle.fleet_names.specs.declared.thing.Thing.{Thing}
use Rattle.fleet_names.specs.declared.thing.Thing.TheVariants.{Cell, Crossing, Area, Robot}
use Rattle.fleet_names.specs.Things.{number_of, same_kind}
use Rattle.fleet_names.specs.Names.{Named, count_of}
use Rattle.fleet_names.proofs.Steps.{count_of-holds, count_of-fails}
use Rattle.scenario_gen.specs.Generated.{numbered, of_kind}

pub count_of-append : (test : Thing → Bool) (xs ys : Named) → count_of test (xs ++ ys) ≡ count_of test xs + count_of test ys
count_of-append test [] ys = omega arith
count_of-append test (x ∷ xs) ys = elim (cases_Bool (test x.1)) [
  | inl h ↦ (let a = count_of-holds test x (xs ++ ys) h in let b = count_of-holds test x xs h in let c = count_of-append test xs ys in omega arith)
  | inr h ↦ (let a = count_of-fails test x (xs ++ ys) h in let b = count_of-fails test x xs h in let c = count_of-append test xs ys in omega arith)
]

-- all of a range are of the kind, or none is
pub all_counted : (test : Thing → Bool) (e : ℕ → List ℕ × Thing) → ((i : ℕ) → test (e i).1 ≡ true) → (a n : ℕ) → count_of test (map e (range_with_len a n)) ≡ n
all_counted test e is a zero = refl
all_counted test e is a (suc n) = let c = count_of-holds test (e a) (map e (range_with_len (a + 1) n)) (is a) in let rest = all_counted test e is (a + 1) n in omega arith

pub none_counted : (test : Thing → Bool) (e : ℕ → List ℕ × Thing) → ((i : ℕ) → test (e i).1 ≡ false) → (a n : ℕ) → count_of test (map e (range_with_len a n)) ≡ 0
none_counted test e is a zero = refl
none_counted test e is a (suc n) = let c = count_of-fails test (e a) (map e (range_with_len (a + 1) n)) (is a) in let rest = none_counted test e is (a + 1) n in omega arith

pub own_kind : (kind : Thing) (i : ℕ) → same_kind kind (of_kind kind i) ≡ true
own_kind (Cell n) i = refl
own_kind (Crossing n) i = refl
own_kind (Area n) i = refl
own_kind (Robot n) i = refl

pub same_test : (kind : Thing) (i : ℕ) → same_kind (of_kind kind i) ≡ same_kind kind
same_test (Cell n) i = refl
same_test (Crossing n) i = refl
same_test (Area n) i = refl
same_test (Robot n) i = refl

pub own_number : (kind : Thing) (i : ℕ) → number_of (of_kind kind i) ≡ i
own_number (Cell n) i = refl
own_number (Crossing n) i = refl
own_number (Area n) i = refl
own_number (Robot n) i = refl

-- more names behind the old ones
pub counted_more : (test : Thing → Bool) (old new more : Named) (a b : ℕ) → new ≡ old ++ more → count_of test old ≡ a → count_of test more ≡ b → count_of test new ≡ a + b
counted_more test old new more a b is had adds = let all = ap (count_of test) is ∙ count_of-append test old more in omega arith

-- one more numbered name
pub numbered_more : (old names new : Named) (letter name : List ℕ) (kind t : Thing) (n : ℕ) → names ≡ old ++ numbered letter kind n → new ≡ names ++ (name, t) ∷ [] → name ≡ letter ++ decimal n → t ≡ of_kind kind n → new ≡ old ++ numbered letter kind (n + 1)
numbered_more old names new letter name kind t n had adds is_name is =
    adds
    ∙ (ap (λ xs. xs ++ (name, t) ∷ []) had
    ∙ (append_assoc old (numbered letter kind n) ((name, t) ∷ [])
    ∙ ap (λ xs. old ++ xs)
    ((λ i. numbered letter kind n ++ (is_name i, is i) ∷ [])
    ∙ sym (map-range_with_len_more (λ i. (letter ++ decimal i, of_kind kind i)) 0 n n (omega arith)))))
