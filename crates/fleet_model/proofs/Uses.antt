-- A claim that is held once and isn't held at the end was released in between.
use Rattle.std.proofs.Common.{◌≡◌, ℕ, ◌+◌, ◌<◌, true, false, not, ◌==◌, ◌⊎◌, inl, inr, refl, sym, ap, ◌∙◌, List, [], ◌∷◌, map, arith, eq-eqb}
use Rattle.std.proofs.lemmas.Bool.{both_ways, cases_Bool, and_cases, or_parts, or_left, not-false}
use Rattle.fleet_base.specs.declared.numbers.ClaimNo.{ClaimNo}
use Rattle.fleet_base.specs.declared.numbers.Event.{Event}
use Rattle.fleet_base.specs.declared.numbers.Kind.{Kind}
use Rattle.fleet_base.specs.declared.numbers.Kind.TheVariants.{Acquire, Move, Release}
use Rattle.fleet_model.specs.Lists.{In, here, there}
use Rattle.fleet_model.specs.Replays.{Spot, after_kind, after_kinds, opening}
use Rattle.fleet_model.specs.Plans.{Fleet, own, kinds}
use Rattle.fleet_model.specs.Good.{IsAscending, IsGoodPlan, Opens, Closes}
use Rattle.fleet_model.proofs.Numbers.{low_bound, IsAscending-own, In_own, own_In, from_one}
use Rattle.fleet_model.proofs.SameNumbers.{same_claim}

-- a claim that one thing done takes away was released by it
released_now : (k : Kind) (s : Spot) (d : ClaimNo) → s.holds d ≡ true → (after_kind k s).holds d ≡ false → k ≡ Release d
released_now (Acquire c) s d h g = absurd (both_ways (s.holds d) (or_parts (c.0 == d.0) (s.holds d) g).1 h)
released_now (Move a b) s d h g = absurd (both_ways (s.holds d) g h)
released_now (Release c) s d h g = go (and_cases (not (c.0 == d.0)) (s.holds d) g)
  where
    go : (not (c.0 == d.0) ≡ false) ⊎ (s.holds d ≡ false) → Release c ≡ Release d
    go (inl e) = ap (λ x. Release x) (same_claim c d (not-false (c.0 == d.0) e))
    go (inr e) = absurd (both_ways (s.holds d) e h)

-- a claim that is held before these and not behind them is released by one of them
pub closed_from : (s : Spot) (es : List Event) (d : ClaimNo) → s.holds d ≡ true → (after_kinds s (map (λ (e : Event). e.kind) es)).holds d ≡ false → (x : Event) × In x es × (x.kind ≡ Release d)
closed_from s [] d h g = absurd (both_ways (s.holds d) g h)
closed_from s (e ∷ es) d h g = go (cases_Bool ((after_kind e.kind s).holds d)) (λ t. closed_from (after_kind e.kind s) es d t g)
  where
    go : ((after_kind e.kind s).holds d ≡ true) ⊎ ((after_kind e.kind s).holds d ≡ false) → ((after_kind e.kind s).holds d ≡ true → (x : Event) × In x es × (x.kind ≡ Release d)) → (x : Event) × In x (e ∷ es) × (x.kind ≡ Release d)
    go (inl t) ih = ((ih t).0, there (ih t).1, (ih t).2)
    go (inr f) ih = (e, here refl, released_now e.kind s d h f)

-- a claim that one of these acquires and that is not held behind them is released by a later one
pub closed_after : (s : Spot) (low : ℕ) (es : List Event) (d : ClaimNo) (a : Event) → IsAscending low es → In a es → a.kind ≡ Acquire d → (after_kinds s (map (λ (e : Event). e.kind) es)).holds d ≡ false
    → (x : Event) × In x es × (x.kind ≡ Release d) × (a.no.0 < x.no.0)
closed_after s low [] d a h m k g = elim m [ ]
closed_after s low (e ∷ es) d a h (here i) k g =
    let now : e.kind ≡ Acquire d = ap (λ (x : Event). x.kind) (sym i) ∙ k in
    let held : (after_kind e.kind s).holds d ≡ true = rw now (or_left (d.0 == d.0) (s.holds d) (eq-eqb d.0 d.0 refl)) in
    let x : (x : Event) × In x es × (x.kind ≡ Release d) = closed_from (after_kind e.kind s) es d held g in
    let b = low_bound (e.no.0 + 1) es h.1 x.1 in
    (x.0, there x.1, x.2, omega (arith, ap (λ (y : Event). y.no.0) i))
closed_after s low (e ∷ es) d a h (there m) k g =
    let x : (x : Event) × In x es × (x.kind ≡ Release d) × (a.no.0 < x.no.0) = closed_after (after_kind e.kind s) (e.no.0 + 1) es d a h.1 m k g in
    (x.0, there x.1, x.2, x.3)

-- a use that isn't open at the end of the plan is closed in the plan
pub use_closes : (m : Fleet) → IsGoodPlan m → (r : ℕ) (c : ClaimNo) (a : ℕ) → Opens m r c a → (after_kinds (opening m.site m.starts r) (kinds r m.plan)).holds c ≡ false → Closes m.plan r c a m.next
use_closes m good r c a (inl s) g =
    let x : (x : Event) × In x (own r m.plan) × (x.kind ≡ Release c) = closed_from (opening m.site m.starts r) (own r m.plan) c s.1 g in
    let p : In x.0 m.plan × (x.0.robot.0 ≡ r) = own_In r m.plan x.1 in
    let l = low_bound 1 m.plan (from_one m good) p.0 in
    record { event = x.0; planned = p.0; robot = p.1; kind = x.2; above = omega (arith, s.0); below = good.next x.0 p.0 }
use_closes m good r c a (inr o) g =
    let x : (x : Event) × In x (own r m.plan) × (x.kind ≡ Release c) × (o.0.no.0 < x.no.0) = closed_after (opening m.site m.starts r) 1 (own r m.plan) c o.0 (IsAscending-own r 1 m.plan (from_one m good)) (In_own r m.plan o.1 o.2) o.3 g in
    let p : In x.0 m.plan × (x.0.robot.0 ≡ r) = own_In r m.plan x.1 in
    record { event = x.0; planned = p.0; robot = p.1; kind = x.2; above = (let l = x.3 in let e = o.4 in omega arith); below = good.next x.0 p.0 }
