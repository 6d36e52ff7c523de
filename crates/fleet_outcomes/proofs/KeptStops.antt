-- The kept stops of a robot, as its plan changes.
use Rattle.std.proofs.Common.{◌≡◌, ℕ, ◌+◌, ◌-◌, ◌<◌, ◌≤◌, Bool, true, false, cond, ◌⊎◌, inl, inr, refl, sym, ap, ◌∙◌, subst, List, [], ◌∷◌, ◌++◌, length, take, drop, arith}
use Rattle.std.proofs.lemmas.Bool.{le-leb, lt-leb, leb-true, cases_order}
use Rattle.std.proofs.lemmas.List.{append-nil, append_assoc, length-append, length-take, take-append-le, take-append-drop}
use Rattle.std.proofs.Math.Seq.{take-append-add}
use Rattle.std.specs.Prelude.{nat_le}
use Rattle.std.specs.List.{filter}
use Rattle.fleet_base.specs.declared.numbers.Event.{Event}
use Rattle.fleet_model.specs.Lists.{In, here, there}
use Rattle.fleet_model.specs.Good.{IsAscending}
use Rattle.fleet_model.proofs.Numbers.{ascending_apart, low_bound, IsAscending_front}
use Rattle.mission_model.specs.Stops.{Stop as PlainStop, last_number}
use Rattle.fleet_outcomes.specs.declared.stops.Stop.{Stop}
use Rattle.fleet_outcomes.specs.Courses.{AreStops}

last_number-append : (n : ℕ) (xs ys : List Event) → last_number n (xs ++ ys) ≡ last_number (last_number n xs) ys
last_number-append n [] ys = refl
last_number-append n (x ∷ xs) ys = last_number-append x.no.0 xs ys

-- the last number of some events is that of one of them
last_in : (n : ℕ) (e : Event) (es : List Event) → (f : Event) × In f (e ∷ es) × (last_number n (e ∷ es) ≡ f.no.0)
last_in n e [] = (e, here refl, refl)
last_in n e (g ∷ es) = let r = last_in e.no.0 g es in (r.0, there r.1, r.2)

-- behind events that rise from 1 on, more events have a greater last number
last_rises : (xs ys : List Event) → IsAscending 1 (xs ++ ys) → 1 ≤ length ys → last_number 0 xs < last_number 0 (xs ++ ys)
last_rises xs [] h l = absurd (omega arith)
last_rises [] (y ∷ ys) h l = let r = last_in 0 y ys in let b = low_bound 1 (y ∷ ys) h r.1 in let e = r.2 in omega arith
last_rises (x ∷ xs) (y ∷ ys) h l =
    let a = last_in 0 x xs in
    let b = last_in (last_number 0 (x ∷ xs)) y ys in
    let less = ascending_apart 1 (x ∷ xs) (y ∷ ys) h a.1 b.1 in
    let whole = last_number-append 0 (x ∷ xs) (y ∷ ys) in
    let e = a.2 in
    let f = b.2 in
    omega arith

-- more events in front leave the kept stops
pub stops_grow : (events more : List Event) (stops : List PlainStop) (kept : List Stop) → AreStops events stops kept → AreStops (events ++ more) stops kept
stops_grow events more [] [] h = tt
stops_grow events more [] (k ∷ ks) h = h
stops_grow events more (s ∷ ss) [] h = h
stops_grow events more (s ∷ ss) (k ∷ ks) h = (
  (let long = length-append events more in let l = h.0 in omega arith),
  h.1 ∙ ap (last_number 0) (sym (take-append-le k.events events more h.0)),
  h.2,
  stops_grow events more ss ks h.3,
)

pub stops_join : (events : List Event) (stops more : List PlainStop) (kept others : List Stop) → AreStops events stops kept → AreStops events more others → AreStops events (stops ++ more) (kept ++ others)
stops_join events [] more [] others h g = g
stops_join events [] more (k ∷ ks) others h g = absurd h
stops_join events (s ∷ ss) more [] others h g = absurd h
stops_join events (s ∷ ss) more (k ∷ ks) others h g = (h.0, h.1, h.2, stops_join events ss more ks others h.3 g)

-- the part of a longer list is no shorter
last_upto : (events : List Event) (n : ℕ) → IsAscending 1 events → last_number 0 (take n events) ≤ last_number 0 events
last_upto events n h = go (drop n events) refl
  where
    parts : take n events ++ drop n events ≡ events
    parts = take-append-drop n events

    go : (rest : List Event) → drop n events ≡ rest → last_number 0 (take n events) ≤ last_number 0 events
    go [] e = let same : take n events ≡ events = sym (append-nil (take n events)) ∙ (ap (λ xs. take n events ++ xs) (sym e) ∙ parts) in let k = ap (last_number 0) same in omega arith
    go (x ∷ xs) e =
        let whole : take n events ++ (x ∷ xs) ≡ events = ap (λ ys. take n events ++ ys) (sym e) ∙ parts in
        let less = last_rises (take n events) (x ∷ xs) (subst (IsAscending 1) (sym whole) h) (omega arith) in
        let k = ap (last_number 0) whole in
        omega arith

-- with a stop in front where it is kept by one test, and by the other
both_kept : (events : List Event) (b c : Bool) (s : PlainStop) (k : Stop) (ss : List PlainStop) (ks : List Stop) → b ≡ c → (c ≡ true → (k.events ≤ length events) × (s.number ≡ last_number 0 (take k.events events)) × (s.cell ≡ k.cell)) → AreStops events ss ks → AreStops events (cond b (s ∷ ss) ss) (cond c (k ∷ ks) ks)
both_kept events true true s k ss ks e f h = let t = f refl in (t.0, t.1, t.2, h)
both_kept events false false s k ss ks e f h = h
both_kept events true false s k ss ks e f h = absurd (cc)
both_kept events false true s k ss ks e f h = absurd (cc)

-- without the events behind the front the stops behind its last event are gone
pub stops_cut : (front tail : List Event) (stops : List PlainStop) (kept : List Stop) → IsAscending 1 (front ++ tail) → AreStops (front ++ tail) stops kept
    → AreStops front (filter (λ s. nat_le s.number (last_number 0 front)) stops) (filter (λ k. nat_le k.events (length front)) kept)
stops_cut front tail [] [] rises h = tt
stops_cut front tail [] (k ∷ ks) rises h = absurd h
stops_cut front tail (s ∷ ss) [] rises h = absurd h
stops_cut front tail (s ∷ ss) (k ∷ ks) rises h =
    both_kept front (nat_le s.number (last_number 0 front)) (nat_le k.events (length front)) s k (filter (λ s. nat_le s.number (last_number 0 front)) ss) (filter (λ k. nat_le k.events (length front)) ks)
    (same (cases_upto k.events (length front)))
    (λ t. let l = leb-true k.events (length front) t in (l, h.1 ∙ ap (last_number 0) (take-append-le k.events front tail l), h.2))
    (stops_cut front tail ss ks rises h.3)
  where
    cases_upto : (a b : ℕ) → (a ≤ b) ⊎ (b < a)
    cases_upto a b = elim (cases_order a b) [ inl e ↦ inl (omega arith) | inr o ↦ elim o [ inl l ↦ inl (omega arith) | inr l ↦ inr l ] ]

    same : (k.events ≤ length front) ⊎ (length front < k.events) → nat_le s.number (last_number 0 front) ≡ nat_le k.events (length front)
    same (inl l) =
        let number = h.1 ∙ ap (last_number 0) (take-append-le k.events front tail l) in
        let upto = last_upto front k.events (IsAscending_front 1 front tail rises) in
        le-leb s.number (last_number 0 front) (omega arith) ∙ sym (le-leb k.events (length front) l)
    same (inr l) =
        let n = k.events - length front in
        let at : k.events ≡ length front + n = omega arith in
        let taken : take k.events (front ++ tail) ≡ front ++ take n tail = ap (λ i. take i (front ++ tail)) at ∙ take-append-add front tail n in
        let long = length-append front tail in
        let within = h.0 in
        let some : 1 ≤ length (take n tail) = simp length-take (omega arith) in
        let parts : (front ++ take n tail) ++ drop n tail ≡ front ++ tail = append_assoc front (take n tail) (drop n tail) ∙ ap (λ xs. front ++ xs) (take-append-drop n tail) in
        let less = last_rises front (take n tail) (IsAscending_front 1 (front ++ take n tail) (drop n tail) (subst (IsAscending 1) (sym parts) rises)) some in
        let number = h.1 ∙ ap (last_number 0) taken in
        lt-leb s.number (last_number 0 front) (omega arith) ∙ sym (lt-leb k.events (length front) l)
