-- Names and things that are looked up.
use Rattle.std.proofs.Common.{◌≡◌, ◌≢◌, ⊎_elim, ℕ, zero, suc, ◌+◌, ◌-◌, ◌<◌, ◌≤◌, Bool, true, false, ◌&&◌, cond, eqb, List, [], ◌∷◌, length, get_or, slice_get, Option, Some, None, map, refl, sym, ap, subst, ◌∙◌, arith}
use Rattle.std.specs.Prelude.{IfSome, IsSome, is_some}
use Rattle.std.specs.Str.{bytes_eq}
use Rattle.std.specs.Map.{lookup}
use Rattle.std.proofs.lemmas.Bool.{cases_Bool, false≢true, MatchBool-at_true, MatchBool-at_false, eqb-true, eqb-false, eq-eqb}
use Rattle.std.proofs.lemmas.Slice.Eq.{bytes_eq-Decides}
use Rattle.fleet_names.specs.declared.thing.Thing.{Thing}
use Rattle.fleet_names.specs.Things.{number_of, same_kind, same_thing}
use Rattle.fleet_names.specs.Names.{Named, is_name, thing_of, name_of, count_of, AreNames, CountUp, AreDeclared}
use Rattle.fleet_names.specs.Places.{places_of}
use Rattle.fleet_names.proofs.Steps.{bytes_eq-self, same_kind-self, is_same, count_of-holds, count_of-fails}

-- the map finds what the list of names gives
pub lookup-shown : {K : Type 0} (bytes : K → List ℕ) (name : List ℕ) (es : List (K × Thing)) → lookup (λ k. bytes_eq name (bytes k)) es ≡ thing_of (map (λ e. (bytes e.0, e.1)) es) name
lookup-shown bytes name [] = refl
lookup-shown bytes name (e ∷ es) = ap (λ rest. cond (bytes_eq name (bytes e.0)) (Some e.1) rest) (lookup-shown bytes name es)

-- a name that is found is a name
pub is_name-found : (es : Named) (name : List ℕ) (t : Thing) → AreNames es → thing_of es name ≡ Some t → is_name name ≡ true
is_name-found [] name t kept found = absurd (cc)
is_name-found (e ∷ es) name t kept found =
    ⊎_elim
    (λ holds. ap is_name ((bytes_eq-Decides name e.0).0 holds) ∙ kept.0)
    (λ fails. is_name-found es name t kept.2 (rw fails at found))
    (cases_Bool (bytes_eq name e.0))

-- the name at a place names the thing there
pub record IsNamed (es : Named) (name : List ℕ) (t : Thing) : Type 0 where
  pub name_ok : is_name name ≡ true
  pub found : thing_of es name ≡ Some t

behind_other : (e : List ℕ × Thing) (es : Named) (name : List ℕ) (t : Thing) → thing_of es e.0 ≡ None → IsNamed es name t → IsNamed (e ∷ es) name t
behind_other e es name t differ rest = record {
  name_ok = rest.name_ok;
  found =
      ⊎_elim
      (λ holds. let same = (bytes_eq-Decides name e.0).0 holds in let none = ap (thing_of es) same ∙ differ in absurd (cc (rest.found)))
      (λ fails. rw fails rest.found)
      (cases_Bool (bytes_eq name e.0));
}

pub named_at : (es : Named) (at : ℕ) (name : List ℕ) (t : Thing) → AreNames es → slice_get es at ≡ Some (name, t) → IsNamed es name t
named_at [] at name t kept is = absurd (cc)
named_at (e ∷ es) zero name t kept is =
    let same : e.0 ≡ name = cc in
    let thing : e.1 ≡ t = cc in
    let holds : bytes_eq name e.0 ≡ true = ap (bytes_eq name) same ∙ bytes_eq-self name in
    record { name_ok = sym (ap is_name same) ∙ kept.0; found = rw holds (ap Some thing) }
named_at (e ∷ es) (suc at) name t kept is = behind_other e es name t kept.1 (named_at es at name t kept.2 is)

-- things that differ
not_same : (a b : Thing) → same_kind a b ≡ false → same_thing a b ≡ false
not_same a b fails = rw fails refl

and_fails : (a b : Bool) → b ≡ false → (a && b) ≡ false
and_fails true b fails = fails
and_fails false b fails = refl

not_number : (a b : Thing) → eqb (number_of a) (number_of b) ≡ false → same_thing a b ≡ false
not_number a b fails = and_fails (same_kind a b) (eqb (number_of a) (number_of b)) fails

above : (a b : Thing) → number_of b < number_of a → same_thing a b ≡ false
above a b lt = ⊎_elim (λ holds. let same = eqb-true (number_of a) (number_of b) holds in absurd (omega arith)) (λ fails. not_number a b fails) (cases_Bool (eqb (number_of a) (number_of b)))

same_thing-self : (t : Thing) → same_thing t t ≡ true
same_thing-self t = rw (same_kind-self t, eq-eqb (number_of t) (number_of t) refl) refl

-- what is found was added with this name, and its number is among those of its kind
pub record IsTold (es : Named) (name : List ℕ) (t : Thing) (n : ℕ) : Type 0 where
  pub low : n ≤ number_of t
  pub high : number_of t < n + count_of (same_kind t) es
  pub named : name_of es t ≡ Some name

told_here : (e : List ℕ × Thing) (es : Named) (name : List ℕ) (t : Thing) (n : ℕ) → CountUp (same_kind t) n (e ∷ es) → name ≡ e.0 → e.1 ≡ t → IsTold (e ∷ es) name t n
told_here e es name t n kept same thing =
    let kind : same_kind t e.1 ≡ true = ap (same_kind t) thing ∙ same_kind-self t in
    let first = MatchBool-at_true ((number_of e.1 ≡ n) × CountUp (same_kind t) (n + 1) es) (CountUp (same_kind t) n es) kind kept in
    let number : number_of t ≡ n = sym (ap number_of thing) ∙ first.0 in
    let more = count_of-holds (same_kind t) e es kind in
    let is : same_thing t e.1 ≡ true = ap (same_thing t) thing ∙ same_thing-self t in
    record { low = omega arith; high = omega arith; named = rw is (ap Some (sym same)) }

told_behind : (e : List ℕ × Thing) (es : Named) (name : List ℕ) (t : Thing) (n : ℕ) → CountUp (same_kind t) n (e ∷ es) → ((m : ℕ) → CountUp (same_kind t) m es → IsTold es name t m) → IsTold (e ∷ es) name t n
told_behind e es name t n kept rest =
    ⊎_elim
    (λ holds.
    let first = MatchBool-at_true ((number_of e.1 ≡ n) × CountUp (same_kind t) (n + 1) es) (CountUp (same_kind t) n es) holds kept in
    let told = rest (n + 1) first.1 in
    let number = first.0 in
    let low = told.low in
    let more = count_of-holds (same_kind t) e es holds in
    let other : same_thing t e.1 ≡ false = above t e.1 (omega arith) in
    record { low = omega arith; high = omega (arith, told.high); named = rw other told.named })
    (λ fails.
    let told = rest n (MatchBool-at_false ((number_of e.1 ≡ n) × CountUp (same_kind t) (n + 1) es) (CountUp (same_kind t) n es) fails kept) in
    let more = count_of-fails (same_kind t) e es fails in
    let other : same_thing t e.1 ≡ false = not_same t e.1 fails in
    record { low = told.low; high = omega (arith, told.high); named = rw other told.named })
    (cases_Bool (same_kind t e.1))

pub told : (es : Named) (name : List ℕ) (t : Thing) (n : ℕ) → CountUp (same_kind t) n es → thing_of es name ≡ Some t → IsTold es name t n
told [] name t n kept found = absurd (cc)
told (e ∷ es) name t n kept found =
    ⊎_elim
    (λ holds. let is : Some e.1 ≡ Some t = rw holds at found in let thing : e.1 ≡ t = cc in told_here e es name t n kept ((bytes_eq-Decides name e.0).0 holds) thing)
    (λ fails. let is : thing_of es name ≡ Some t = rw fails at found in told_behind e es name t n kept (λ m h. told es name t m h is))
    (cases_Bool (bytes_eq name e.0))

-- where a thing's name stands
pub record IsAt (es : Named) (t : Thing) (p place : ℕ) : Type 0 where
  pub name : List ℕ
  pub at : ℕ
  pub is : place ≡ p + at
  pub within : at < length es
  pub entry : slice_get es at ≡ Some (name, t)
  pub named : name_of es t ≡ Some name

at_here : (e : List ℕ × Thing) (es : Named) (t : Thing) (n p : ℕ) → same_kind t e.1 ≡ true → number_of e.1 ≡ n → number_of t ≡ n → IsAt (e ∷ es) t p (get_or (places_of (same_kind t) p (e ∷ es)) (number_of t - n) 0)
at_here e es t n p holds number same =
    let thing : t ≡ e.1 = is_same t e.1 holds (same ∙ sym number) in
    let first : number_of t - n ≡ 0 = omega arith in
    let is : same_thing t e.1 ≡ true = ap (same_thing t) (sym thing) ∙ same_thing-self t in
    record {
      name = e.0;
      at = 0;
      is = rw (holds, first) (omega arith);
      within = omega arith;
      entry = ap (λ (other : Thing). Some (e.0, other)) (sym thing);
      named = rw is refl;
    }

at_behind : (e : List ℕ × Thing) (es : Named) (t : Thing) (p place : ℕ) → same_thing t e.1 ≡ false → IsAt es t (p + 1) place → IsAt (e ∷ es) t p place
at_behind e es t p place other rest =
    let is = rest.is in
    let within = rest.within in
    record { name = rest.name; at = suc rest.at; is = omega arith; within = omega arith; entry = rest.entry; named = rw other rest.named }

at_more : (e : List ℕ × Thing) (es : Named) (t : Thing) (n p : ℕ) → same_kind t e.1 ≡ true → number_of e.1 ≡ n → n < number_of t
    → IsAt es t (p + 1) (get_or (places_of (same_kind t) (p + 1) es) (number_of t - (n + 1)) 0) → IsAt (e ∷ es) t p (get_or (places_of (same_kind t) p (e ∷ es)) (number_of t - n) 0)
at_more e es t n p holds number lt rest =
    let one : number_of t - n ≡ suc (number_of t - (n + 1)) = omega arith in
    let other : same_thing t e.1 ≡ false = above t e.1 (omega arith) in
    let place : get_or (places_of (same_kind t) (p + 1) es) (number_of t - (n + 1)) 0 ≡ get_or (places_of (same_kind t) p (e ∷ es)) (number_of t - n) 0 = rw (holds, one) refl in
    subst (λ q. IsAt (e ∷ es) t p q) place (at_behind e es t p _ other rest)

at_other : (e : List ℕ × Thing) (es : Named) (t : Thing) (n p : ℕ) → same_kind t e.1 ≡ false → IsAt es t (p + 1) (get_or (places_of (same_kind t) (p + 1) es) (number_of t - n) 0)
    → IsAt (e ∷ es) t p (get_or (places_of (same_kind t) p (e ∷ es)) (number_of t - n) 0)
at_other e es t n p fails rest =
    let place : get_or (places_of (same_kind t) (p + 1) es) (number_of t - n) 0 ≡ get_or (places_of (same_kind t) p (e ∷ es)) (number_of t - n) 0 = rw fails refl in
    subst (λ q. IsAt (e ∷ es) t p q) place (at_behind e es t p _ (not_same t e.1 fails) rest)

pub at_place : (es : Named) (t : Thing) (n p : ℕ) → CountUp (same_kind t) n es → n ≤ number_of t → number_of t < n + count_of (same_kind t) es → IsAt es t p (get_or (places_of (same_kind t) p es) (number_of t - n) 0)
at_place [] t n p kept low high = absurd (omega arith)
at_place (e ∷ es) t n p kept low high =
    ⊎_elim
    (λ holds.
    let first = MatchBool-at_true ((number_of e.1 ≡ n) × CountUp (same_kind t) (n + 1) es) (CountUp (same_kind t) n es) holds kept in
    let more = count_of-holds (same_kind t) e es holds in
    ⊎_elim
    (λ same. at_here e es t n p holds first.0 (eqb-true (number_of t) n same))
    (λ differ.
    let ne : number_of t ≢ n = eqb-false (number_of t) n differ in
    let lt : n < number_of t = omega arith in
    at_more e es t n p holds first.0 lt (at_place es t (n + 1) (p + 1) first.1 (omega arith) (omega arith)))
    (cases_Bool (eqb (number_of t) n)))
    (λ fails.
    let rest = MatchBool-at_false ((number_of e.1 ≡ n) × CountUp (same_kind t) (n + 1) es) (CountUp (same_kind t) n es) fails kept in
    let more = count_of-fails (same_kind t) e es fails in
    at_other e es t n p fails (at_place es t n (p + 1) rest low (omega arith)))
    (cases_Bool (same_kind t e.1))

-- what a look-up tells of a thing that it finds
pub known_found : (es : Named) (name : List ℕ) (r : Option Thing) → AreDeclared es → r ≡ thing_of es name → IfSome r (λ t. number_of t < count_of (same_kind t) es)
known_found es name None kept is = tt
known_found es name (Some t) kept is = let high = (told es name t 0 (kept.numbers t) (sym is)).high in omega arith

pub named_found : (es : Named) (name : List ℕ) (r : Option Thing) → AreDeclared es → r ≡ thing_of es name → IfSome r (λ t. name_of es t ≡ Some name)
named_found es name None kept is = tt
named_found es name (Some t) kept is = (told es name t 0 (kept.numbers t) (sym is)).named

pub none_found : (es : Named) (name : List ℕ) (r : Option Thing) → AreDeclared es → is_name name ≡ false → thing_of es name ≡ r → IsSome r → ⊥
none_found es name None kept fails is some = false≢true some
none_found es name (Some t) kept fails is some = false≢true (sym fails ∙ is_name-found es name t kept.differ is)

pub none_is : (r : Option Thing) → is_some r ≡ false → r ≡ None
none_is None e = refl
none_is (Some t) e = absurd (false≢true (sym e))
