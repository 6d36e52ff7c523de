-- One name more at the end.
use Rattle.std.proofs.Common.{◌≡◌, ℕ, ◌+◌, Bool, true, false, cond, List, [], ◌∷◌, ◌++◌, length, None, refl, sym, ap, ◌∙◌, append-nil, add-zero, arith}
use Rattle.std.specs.Str.{bytes_eq}
use Rattle.std.proofs.lemmas.List.Sums.{sum_by-cons}
use Rattle.std.proofs.lemmas.Bool.{MatchBool-at_true, MatchBool-at_false}
use Rattle.fleet_names.specs.declared.thing.Thing.{Thing}
use Rattle.fleet_names.specs.Things.{number_of, same_kind}
use Rattle.fleet_names.specs.Names.{Named, is_name, thing_of, count_of, AreNames, CountUp, AreDeclared}
use Rattle.fleet_names.specs.Places.{places_of}
use Rattle.fleet_names.proofs.Steps.{by_test, missed, missed_rest, bytes_eq-flip, same_kind-same, count_of-holds, count_of-fails}

-- a name that isn't there isn't there behind another one
thing_of-push : (es : Named) (name : List ℕ) (t : Thing) (q : List ℕ) → thing_of es q ≡ None → bytes_eq q name ≡ false → thing_of (es ++ (name, t) ∷ []) q ≡ None
thing_of-push [] name t q none other = rw other refl
thing_of-push (e ∷ es) name t q none other =
    let first = missed (bytes_eq q e.0) e.1 (thing_of es q) none in
    let rest = thing_of-push es name t q (missed_rest (bytes_eq q e.0) e.1 (thing_of es q) none) other in
    rw first rest

AreNames-push : (es : Named) (name : List ℕ) (t : Thing) → AreNames es → is_name name ≡ true → thing_of es name ≡ None → AreNames (es ++ (name, t) ∷ [])
AreNames-push [] name t kept good none = (good, refl, tt)
AreNames-push (e ∷ es) name t kept good none =
    let first = missed (bytes_eq name e.0) e.1 (thing_of es name) none in (
      kept.0,
      thing_of-push es name t e.0 kept.1 (bytes_eq-flip name e.0 first),
      AreNames-push es name t kept.2 good (missed_rest (bytes_eq name e.0) e.1 (thing_of es name) none),
    )

CountUp-push : (test : Thing → Bool) (n : ℕ) (es : Named) (name : List ℕ) (t : Thing) → CountUp test n es → (test t ≡ true → number_of t ≡ n + count_of test es) → CountUp test n (es ++ (name, t) ∷ [])
CountUp-push test n [] name t kept next = by_test (test t) _ _ (λ holds. (next holds ∙ add-zero n, tt)) (λ fails. tt)
CountUp-push test n (e ∷ es) name t kept next =
    by_test
    (test e.1)
    _
    _
    (λ holds.
    let rest = MatchBool-at_true ((number_of e.1 ≡ n) × CountUp test (n + 1) es) (CountUp test n es) holds kept in
    let more = count_of-holds test e es holds in
    (rest.0, CountUp-push test (n + 1) es name t rest.1 (λ is. let at = next is in omega arith)))
    (λ fails.
    let rest = MatchBool-at_false ((number_of e.1 ≡ n) × CountUp test (n + 1) es) (CountUp test n es) fails kept in
    let more = count_of-fails test e es fails in
    CountUp-push test n es name t rest (λ is. let at = next is in omega arith))

-- the next thing of a kind
pub AreDeclared-push : (es : Named) (name : List ℕ) (t : Thing) → AreDeclared es → is_name name ≡ true → thing_of es name ≡ None → number_of t ≡ count_of (same_kind t) es → AreDeclared (es ++ (name, t) ∷ [])
AreDeclared-push es name t kept good none next = record {
  differ = AreNames-push es name t kept.differ good none;
  numbers = λ thing. CountUp-push (same_kind thing) 0 es name t (kept.numbers thing) (λ is. let same : count_of (same_kind thing) es ≡ count_of (same_kind t) es = ap (λ test. count_of test es) (same_kind-same thing t is) in omega arith);
}

-- its place
place_step : (b : Bool) (p : ℕ) (longer places last : List ℕ) → longer ≡ places ++ last → cond b (p ∷ longer) longer ≡ cond b (p ∷ places) places ++ last
place_step true p longer places last e = ap (λ ps. p ∷ ps) e
place_step false p longer places last e = e

pub places_of-push : (test : Thing → Bool) (p : ℕ) (es : Named) (name : List ℕ) (t : Thing) → places_of test p (es ++ (name, t) ∷ []) ≡ places_of test p es ++ cond (test t) ((p + length es) ∷ []) []
places_of-push test p [] name t = ap (λ place. cond (test t) (place ∷ []) []) (sym (add-zero p))
places_of-push test p (e ∷ es) name t =
    let place : p + 1 + length es ≡ p + length (e ∷ es) = omega arith in
    place_step (test e.1) p (places_of test (p + 1) (es ++ (name, t) ∷ [])) (places_of test (p + 1) es) (cond (test t) ((p + length (e ∷ es)) ∷ []) [])
    (places_of-push test (p + 1) es name t ∙ ap (λ n. places_of test (p + 1) es ++ cond (test t) (n ∷ []) []) place)

pub placed_more : (b : Bool) (places : List ℕ) (place : ℕ) → cond b (places ++ place ∷ []) places ≡ places ++ cond b (place ∷ []) []
placed_more true places place = refl
placed_more false places place = sym (append-nil places)

length_step : (b : Bool) (p : ℕ) (places : List ℕ) → length (cond b (p ∷ places) places) ≡ cond b 1 0 + length places
length_step true p places = omega arith
length_step false p places = omega arith

pub length-places_of : (test : Thing → Bool) (p : ℕ) (es : Named) → length (places_of test p es) ≡ count_of test es
length-places_of test p [] = refl
length-places_of test p (e ∷ es) =
    length_step (test e.1) p (places_of test (p + 1) es)
    ∙ ap (λ n. cond (test e.1) 1 0 + n) (length-places_of test (p + 1) es)
    ∙ sym (sum_by-cons (λ x. cond (test x.1) 1 0) e es)
