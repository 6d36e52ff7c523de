-- Events in order of number, which of them are done, and which are a robot's own.
use Rattle.std.proofs.Common.{◌≡◌, ◌≢◌, ℕ, ◌+◌, ◌<◌, ◌≤◌, Bool, true, false, cond, ◌==◌, ◌||◌, ◌⊎◌, refl, sym, ap, ◌∙◌, List, [], ◌∷◌, ◌++◌, arith, eq-eqb, map}
use Rattle.std.proofs.lemmas.Bool.{eqb-true, ne_eqb, or_cases, or_parts, or_from, or_left, or_right, false_from_ne_true}
use Rattle.std.proofs.lemmas.List.{append-nil, map-append}
use Rattle.std.proofs.lemmas.List.Elements.{filter-append}
use Rattle.std.specs.List.{filter, list_any}
use Rattle.fleet_base.specs.declared.numbers.Event.{Event}
use Rattle.fleet_model.specs.Lists.{In, here, there}
use Rattle.fleet_model.specs.Plans.{Fleet, is_done, own, kinds}
use Rattle.fleet_model.specs.Good.{IsAscending, IsGoodPlan}
use Rattle.fleet_model.proofs.Lists.{In-append_right, In-filter, In_unfilter}
use Rattle.fleet_model.proofs.Filters.{filter_in, filter_out}
use Rattle.fleet_model.proofs.Tests.{any_In, In_any}

-- an event of the list is done by it
pub done_in : {e : Event} (done : List Event) → In e done → is_done done e ≡ true
done_in {e} done m = In_any (λ (f : Event). f.no.0 == e.no.0) done m (eq-eqb e.no.0 e.no.0 refl)

-- what is done has its number in the list
pub done_event : (e : Event) (done : List Event) → is_done done e ≡ true → (f : Event) × In f done × (f.no.0 ≡ e.no.0)
done_event e done h = let f = any_In (λ (f : Event). f.no.0 == e.no.0) done h in (f.0, f.1, eqb-true f.0.no.0 e.no.0 f.2)

pub is_done-append : (xs ys : List Event) (e : Event) → is_done (xs ++ ys) e ≡ (is_done xs e || is_done ys e)
is_done-append [] ys e = refl
is_done-append (x ∷ xs) ys e = grind (arith, is_done-append xs ys e)

-- no event of a rising list has a number below its bound
pub low_bound : (low : ℕ) (es : List Event) {e : Event} → IsAscending low es → In e es → low ≤ e.no.0
low_bound low [] h m = elim m [ ]
low_bound low (f ∷ fs) {e} h (here i) = rw (ap (λ (x : Event). x.no.0) i) h.0
low_bound low (f ∷ fs) {e} h (there m) = let l = low_bound (f.no.0 + 1) fs h.1 m in omega arith

-- a list that rises from a bound on rises from each lower one on
pub IsAscending_lower : (low least : ℕ) (es : List Event) → least ≤ low → IsAscending low es → IsAscending least es
IsAscending_lower low least [] l h = tt
IsAscending_lower low least (e ∷ es) l h = (omega (arith, h.0), h.1)

-- of two events the one in front has the smaller number
pub ascending_apart : (low : ℕ) (xs ys : List Event) {x y : Event} → IsAscending low (xs ++ ys) → In x xs → In y ys → x.no.0 < y.no.0
ascending_apart low [] ys h m n = elim m [ ]
ascending_apart low (z ∷ zs) ys {x} {y} h (here i) n = let l = low_bound (z.no.0 + 1) (zs ++ ys) h.1 (In-append_right zs ys n) in let k = ap (λ (w : Event). w.no.0) i in omega arith
ascending_apart low (z ∷ zs) ys h (there m) n = ascending_apart (z.no.0 + 1) zs ys h.1 m n

-- one number, one event
pub one_event : (low : ℕ) (es : List Event) {x y : Event} → IsAscending low es → In x es → In y es → x.no.0 ≡ y.no.0 → x ≡ y
one_event low [] h m n e = elim m [ ]
one_event low (z ∷ zs) h (here i) (here j) e = i ∙ sym j
one_event low (z ∷ zs) {x} {y} h (here i) (there n) e = let l = low_bound (z.no.0 + 1) zs h.1 n in let k = ap (λ (w : Event). w.no.0) i in absurd (omega arith)
one_event low (z ∷ zs) {x} {y} h (there m) (here j) e = let l = low_bound (z.no.0 + 1) zs h.1 m in let k = ap (λ (w : Event). w.no.0) j in absurd (omega arith)
one_event low (z ∷ zs) h (there m) (there n) e = one_event (z.no.0 + 1) zs h.1 m n e

-- with or without one more event in front the list rises
filtered : (p : Event → Bool) (low : ℕ) (e : Event) (es : List Event) (b : Bool) → low ≤ e.no.0 → IsAscending (e.no.0 + 1) (filter p es) → IsAscending low (cond b (e ∷ filter p es) (filter p es))
filtered p low e es true l h = (l, h)
filtered p low e es false l h = IsAscending_lower (e.no.0 + 1) low (filter p es) (omega arith) h

-- the events that pass a test rise
pub IsAscending-filter : (p : Event → Bool) (low : ℕ) (es : List Event) → IsAscending low es → IsAscending low (filter p es)
IsAscending-filter p low [] h = tt
IsAscending-filter p low (e ∷ es) h = filtered p low e es (p e) h.0 (IsAscending-filter p (e.no.0 + 1) es h.1)

-- a robot's events rise
pub IsAscending-own : (r : ℕ) (low : ℕ) (es : List Event) → IsAscending low es → IsAscending low (own r es)
IsAscending-own r low es h = IsAscending-filter (λ e. e.robot.0 == r) low es h

-- a beginning of a rising list rises
pub IsAscending_front : (low : ℕ) (xs ys : List Event) → IsAscending low (xs ++ ys) → IsAscending low xs
IsAscending_front low [] ys h = tt
IsAscending_front low (x ∷ xs) ys h = (h.0, IsAscending_front (x.no.0 + 1) xs ys h.1)

-- what is behind a beginning of a rising list rises
pub ascending_behind : (low : ℕ) (xs ys : List Event) → IsAscending low (xs ++ ys) → IsAscending low ys
ascending_behind low [] ys h = h
ascending_behind low (x ∷ xs) ys h = IsAscending_lower (x.no.0 + 1) low ys (omega (arith, h.0)) (ascending_behind (x.no.0 + 1) xs ys h.1)

-- an event of the robot is among its own
pub In_own : (r : ℕ) {e : Event} (es : List Event) → In e es → e.robot.0 ≡ r → In e (own r es)
In_own r {e} es m h = In-filter (λ (x : Event). x.robot.0 == r) es m (eq-eqb e.robot.0 r h)

-- what is among a robot's own is an event of the list by the robot
pub own_In : (r : ℕ) {e : Event} (es : List Event) → In e (own r es) → In e es × (e.robot.0 ≡ r)
own_In r {e} es m = let u = In_unfilter (λ (x : Event). x.robot.0 == r) es m in (u.0, eqb-true e.robot.0 r u.1)

pub own-append : (r : ℕ) (xs ys : List Event) → own r (xs ++ ys) ≡ own r xs ++ own r ys
own-append r xs ys = filter-append (λ (x : Event). x.robot.0 == r) xs ys

pub own_one : (r : ℕ) (done : List Event) (e : Event) → e.robot.0 ≡ r → own r (done ++ e ∷ []) ≡ own r done ++ e ∷ []
own_one r done e h = own-append r done (e ∷ []) ∙ ap (λ z. own r done ++ z) (filter_in (λ (x : Event). x.robot.0 == r) e [] (eq-eqb e.robot.0 r h))

pub own_other : (r : ℕ) (done : List Event) (e : Event) → e.robot.0 ≢ r → own r (done ++ e ∷ []) ≡ own r done
own_other r done e h = own-append r done (e ∷ []) ∙ (ap (λ z. own r done ++ z) (filter_out (λ (x : Event). x.robot.0 == r) e [] (ne_eqb e.robot.0 r h)) ∙ append-nil (own r done))

-- what the first list does the lists together do
pub done_left : (xs ys : List Event) (e : Event) → is_done xs e ≡ true → is_done (xs ++ ys) e ≡ true
done_left xs ys e h = is_done-append xs ys e ∙ or_left (is_done xs e) (is_done ys e) h

-- what the second list does the lists together do
pub done_right : (xs ys : List Event) (e : Event) → is_done ys e ≡ true → is_done (xs ++ ys) e ≡ true
done_right xs ys e h = is_done-append xs ys e ∙ or_right (is_done xs e) (is_done ys e) h

-- what neither list does they do not do together
pub done_neither : (xs ys : List Event) (e : Event) → is_done xs e ≡ false → is_done ys e ≡ false → is_done (xs ++ ys) e ≡ false
done_neither xs ys e h g = is_done-append xs ys e ∙ or_from (is_done xs e) (is_done ys e) h g

-- what the lists together leave undone each of them leaves undone
pub done_parts : (xs ys : List Event) (e : Event) → is_done (xs ++ ys) e ≡ false → (is_done xs e ≡ false) × (is_done ys e ≡ false)
done_parts xs ys e h = or_parts (is_done xs e) (is_done ys e) (sym (is_done-append xs ys e) ∙ h)

-- what the lists together do one of them does
pub done_cases : (xs ys : List Event) (e : Event) → is_done (xs ++ ys) e ≡ true → (is_done xs e ≡ true) ⊎ (is_done ys e ≡ true)
done_cases xs ys e h = or_cases (is_done xs e) (is_done ys e) (sym (is_done-append xs ys e) ∙ h)

-- it goes by the number alone
pub done_same : (xs : List Event) (e f : Event) → e.no.0 ≡ f.no.0 → is_done xs e ≡ is_done xs f
done_same xs e f h = ap (λ n. list_any (λ (x : Event). x.no.0 == n) xs) h

-- an event is not among those that all have another number
pub done_none : (xs : List Event) (e : Event) → ((g : Event) → In g xs → g.no.0 ≡ e.no.0 → ⊥) → is_done xs e ≡ false
done_none xs e h = false_from_ne_true (is_done xs e) (λ t. let g = done_event e xs t in h g.0 g.1 g.2)

-- the numbers of a good plan rise from 1 on
pub from_one : (m : Fleet) → IsGoodPlan m → IsAscending 1 m.plan
from_one m good = IsAscending_lower m.first 1 m.plan good.first good.numbers

-- events below a number and events from it on rise together
pub ascending-append : (low next : ℕ) (xs ys : List Event) → low ≤ next → ((e : Event) → In e xs → e.no.0 < next) → IsAscending low xs → IsAscending next ys → IsAscending low (xs ++ ys)
ascending-append low next [] ys l f h g = IsAscending_lower next low ys l g
ascending-append low next (x ∷ xs) ys l f h g = (h.0, ascending-append (x.no.0 + 1) next xs ys (let b = f x (here refl) in omega arith) (λ e m. f e (there m)) h.1 g)

pub kinds-append : (q : ℕ) (xs ys : List Event) → kinds q (xs ++ ys) ≡ kinds q xs ++ kinds q ys
kinds-append q xs ys = ap (λ es. map (λ (e : Event). e.kind) es) (own-append q xs ys) ∙ map-append (λ (e : Event). e.kind) (own q xs) (own q ys)
