-- Small steps of tests: of bytes, of things and of counts.
use Rattle.std.proofs.Common.{◌≡◌, ⊎_elim, ℕ, ◌+◌, Bool, true, false, cond, List, ◌∷◌, Option, Some, None, refl, sym, ap, ◌∙◌}
use Rattle.std.specs.Prelude.{MatchBool}
use Rattle.std.specs.Str.{bytes_eq}
use Rattle.std.proofs.lemmas.Bool.{cases_Bool, false≢true}
use Rattle.std.proofs.lemmas.List.Sums.{sum_by-cons}
use Rattle.std.proofs.lemmas.Slice.Eq.{bytes_eq-Decides}
use Rattle.fleet_names.specs.declared.thing.Thing.{Thing}
use Rattle.fleet_names.specs.declared.thing.Thing.TheVariants.{Cell, Crossing, Area, Robot}
use Rattle.fleet_names.specs.Things.{number_of, same_kind}
use Rattle.fleet_names.specs.Names.{Named, count_of}

-- a test that picks a fact
pub by_test : (b : Bool) (P Q : Type 0) → (b ≡ true → P) → (b ≡ false → Q) → MatchBool b P Q
by_test true P Q holds fails = holds refl
by_test false P Q holds fails = fails refl

-- a choice that gives nothing
pub missed : {T : Type 0} (b : Bool) (x : T) (rest : Option T) → cond b (Some x) rest ≡ None → b ≡ false
missed true x rest e = absurd (cc)
missed false x rest e = refl

pub missed_rest : {T : Type 0} (b : Bool) (x : T) (rest : Option T) → cond b (Some x) rest ≡ None → rest ≡ None
missed_rest true x rest e = absurd (cc)
missed_rest false x rest e = e

-- bytes that are the same
pub bytes_eq-self : (a : List ℕ) → bytes_eq a a ≡ true
bytes_eq-self a = (bytes_eq-Decides a a).1 refl

pub bytes_eq-flip : (a b : List ℕ) → bytes_eq a b ≡ false → bytes_eq b a ≡ false
bytes_eq-flip a b fails = ⊎_elim (λ holds. absurd (false≢true (sym fails ∙ (bytes_eq-Decides a b).1 (sym ((bytes_eq-Decides b a).0 holds))))) (λ e. e) (cases_Bool (bytes_eq b a))

-- things of one kind
pub same_kind-self : (t : Thing) → same_kind t t ≡ true
same_kind-self (Cell n) = refl
same_kind-self (Crossing n) = refl
same_kind-self (Area n) = refl
same_kind-self (Robot n) = refl

pub same_kind-same : (a b : Thing) → same_kind a b ≡ true → same_kind a ≡ same_kind b
same_kind-same (Cell m) (Cell n) e = refl
same_kind-same (Crossing m) (Crossing n) e = refl
same_kind-same (Area m) (Area n) e = refl
same_kind-same (Robot m) (Robot n) e = refl
same_kind-same a b e = absurd (false≢true e)

-- of one kind and one number, they are one thing
pub is_same : (a b : Thing) → same_kind a b ≡ true → number_of a ≡ number_of b → a ≡ b
is_same (Cell m) (Cell n) e same = ap Cell same
is_same (Crossing m) (Crossing n) e same = ap Crossing same
is_same (Area m) (Area n) e same = ap Area same
is_same (Robot m) (Robot n) e same = ap Robot same
is_same a b e same = absurd (false≢true e)

-- one name more in a count
pub count_of-holds : (test : Thing → Bool) (e : List ℕ × Thing) (es : Named) → test e.1 ≡ true → count_of test (e ∷ es) ≡ 1 + count_of test es
count_of-holds test e es holds = sum_by-cons (λ x. cond (test x.1) 1 0) e es ∙ ap (λ b. cond b 1 0 + count_of test es) holds

pub count_of-fails : (test : Thing → Bool) (e : List ℕ × Thing) (es : Named) → test e.1 ≡ false → count_of test (e ∷ es) ≡ 0 + count_of test es
count_of-fails test e es fails = sum_by-cons (λ x. cond (test x.1) 1 0) e es ∙ ap (λ b. cond b 1 0 + count_of test es) fails
