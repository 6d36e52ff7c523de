-- What a good plan gives: it is safe, and where an event is undone some event is ready.
use Rattle.std.proofs.Common.{◌≡◌, ℕ, ◌+◌, ◌<◌, true, false, not, ◌==◌, ◌&&◌, ◌⊎◌, inl, inr, refl, sym, ap, ◌∙◌, subst, List, [], ◌∷◌, arith, Some}
use Rattle.std.proofs.lemmas.Bool.{both_ways, cases_Bool, and_parts, ltb-true}
use Rattle.std.specs.Prelude.{nat_lt, slice_get}
use Rattle.fleet_base.specs.declared.numbers.CellNo.{CellNo}
use Rattle.fleet_base.specs.declared.numbers.ClaimGroup.{ClaimGroup}
use Rattle.fleet_base.specs.declared.numbers.ClaimNo.{ClaimNo}
use Rattle.fleet_base.specs.declared.numbers.Event.{Event}
use Rattle.fleet_model.specs.Lists.{In, here, there}
use Rattle.fleet_model.specs.Sites.{footprint_of, IsSite, has_claim}
use Rattle.fleet_model.specs.Replays.{AreSteps, Spot, IsStanding, CanDoAll, after_kinds, standing, opening, start_at}
use Rattle.fleet_model.specs.Plans.{Fleet, kinds, is_done, clashes, is_awaited, IsBehind, IsReady, IsSafe, end_of}
use Rattle.fleet_model.specs.Good.{IsAscending, IsGoodPlan}
use Rattle.fleet_model.proofs.Lists.{In_either}
use Rattle.fleet_model.proofs.Numbers.{low_bound, from_one}
use Rattle.fleet_model.proofs.Alone.{replay_own}
use Rattle.fleet_model.proofs.Walks.{walk_able, walk_holds, walk_stands}
use Rattle.fleet_model.proofs.Safe as safe

-- each robot alone can do its planned events
pub able : (m : Fleet) → IsSite m.site → IsGoodPlan m → (r : ℕ) → CanDoAll m.site (opening m.site m.starts r) (kinds r m.plan)
able m is_site good r = walk_able m.site is_site (slice_get m.starts r) (kinds r m.plan) (good.walks r)

-- a good plan is safe
pub good_safe : (m : Fleet) → IsSite m.site → IsGoodPlan m → IsSafe m
good_safe m is_site good = safe.safe m good (able m is_site good)

pub end_is : (m : Fleet) (q : ℕ) → end_of m q ≡ (after_kinds (opening m.site m.starts q) (kinds q m.plan)).cell
end_is m q = ap (λ (t : Spot). t.cell) (replay_own (opening m.site m.starts) m.plan q)

-- what a robot holds at its end is of the footprint there
pub end_holds : (m : Fleet) → IsSite m.site → IsGoodPlan m → (q : ℕ) (d : ClaimNo) → (after_kinds (opening m.site m.starts q) (kinds q m.plan)).holds d ≡ true → has_claim (footprint_of m.site (end_of m q)) d ≡ true
end_holds m is_site good q d h = subst (λ a. has_claim (footprint_of m.site a) d ≡ true) (sym (end_is m q)) (walk_holds m.site is_site (slice_get m.starts q) (kinds q m.plan) (good.walks q) d h)

-- and all of that, where it has a start
pub end_held : (m : Fleet) → IsSite m.site → IsGoodPlan m → (q : ℕ) (a : CellNo) (d : ClaimNo) → slice_get m.starts q ≡ Some a → has_claim (footprint_of m.site (end_of m q)) d ≡ true → (after_kinds (opening m.site m.starts q) (kinds q m.plan)).holds d ≡ true
end_held m is_site good q a d robot h =
    let walked : AreSteps m.site (Some a) (kinds q m.plan) = subst (λ o. AreSteps m.site o (kinds q m.plan)) robot (good.walks q) in
    let stands : IsStanding m.site (after_kinds (standing m.site a) (kinds q m.plan)) (after_kinds (standing m.site a) (kinds q m.plan)).cell = walk_stands m.site is_site a (kinds q m.plan) walked in
    let there : (after_kinds (start_at m.site (slice_get m.starts q)) (kinds q m.plan)).holds d ≡ has_claim (footprint_of m.site (after_kinds (start_at m.site (slice_get m.starts q)) (kinds q m.plan)).cell) d =
    subst (λ o. (after_kinds (start_at m.site o) (kinds q m.plan)).holds d ≡ has_claim (footprint_of m.site (after_kinds (start_at m.site o) (kinds q m.plan)).cell) d) (sym robot) (stands.holds d) in
    there ∙ subst (λ x. has_claim (footprint_of m.site x) d ≡ true) (end_is m q) h

-- what an event waits for has a smaller number
pub awaited_less : (groups : List ClaimGroup) (e f : Event) → is_awaited groups e f ≡ true → f.no.0 < e.no.0
awaited_less groups e f h = ltb-true f.no.0 e.no.0 (and_parts (nat_lt f.no.0 e.no.0) (not (f.robot.0 == e.robot.0) && clashes groups e.kind f.kind) h).0

-- what an event comes behind has a smaller number
pub behind_less : (groups : List ClaimGroup) (e f : Event) → IsBehind groups e f → f.no.0 < e.no.0
behind_less groups e f (inl h) = h.1
behind_less groups e f (inr h) = awaited_less groups e f h

-- the event of least number that isn't done
pub record IsFirst (es done : List Event) (f : Event) : Type 0 where
  pub planned : In f es
  pub undone : is_done done f ≡ false
  pub least : (g : Event) → In g es → g.no.0 < f.no.0 → is_done done g ≡ true

-- the first undone event, with one more event in front
first_step : (low : ℕ) (e : Event) (es done : List Event) → IsAscending low (e ∷ es) → (is_done done e ≡ true) ⊎ (is_done done e ≡ false) → ((x : Event) → In x es → is_done done x ≡ false → (f : Event) × IsFirst es done f)
    → (x : Event) → In x (e ∷ es) → is_done done x ≡ false → (f : Event) × IsFirst (e ∷ es) done f
first_step low e es done h (inr u) ih x m n =
    (e, record { planned = here refl; undone = u; least = λ g p l. In_either p (λ i. absurd (omega (arith, ap (λ (y : Event). y.no.0) i))) (λ k. let b = low_bound (e.no.0 + 1) es h.1 k in absurd (omega arith)) })
first_step low e es done h (inl d) ih x m n =
    let rest : In x es = In_either m (λ i. absurd (both_ways (is_done done x) n (rw i d))) (λ k. k) in
    let f : (f : Event) × IsFirst es done f = ih x rest n in
    (f.0, record { planned = there f.1.planned; undone = f.1.undone; least = λ g p l. In_either p (λ i. rw i d) (λ k. f.1.least g k l) })

-- where an event is undone there is a first undone one
pub first_unfinished : (low : ℕ) (es done : List Event) → IsAscending low es → (x : Event) → In x es → is_done done x ≡ false → (f : Event) × IsFirst es done f
first_unfinished low [] done h x m n = elim m [ ]
first_unfinished low (e ∷ es) done h x m n = first_step low e es done h (cases_Bool (is_done done e)) (first_unfinished (e.no.0 + 1) es done h.1) x m n

-- the first undone event is ready
pub ready_event : (m : Fleet) → IsGoodPlan m → (e : Event) → In e m.plan → is_done m.finished e ≡ false → (f : Event) × IsReady (IsBehind m.site.groups) m.plan m.finished f
ready_event m good e planned undone =
    let f : (f : Event) × IsFirst m.plan m.finished f = first_unfinished 1 m.plan m.finished (from_one m good) e planned undone in
    (f.0, record { planned = f.1.planned; undone = f.1.undone; waited = λ g p b. f.1.least g p (behind_less m.site.groups f.0 g b) })
