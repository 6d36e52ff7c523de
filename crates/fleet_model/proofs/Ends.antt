-- Ends that a change leaves where they are, and that no two robots' ends conflict.
use Rattle.std.proofs.Common.{◌≡◌, ℕ, sym, refl, ap, ◌∙◌, subst, List, ◌++◌, map, Some, ◌≢◌, true, ◌⊎◌, inl, inr}
use Rattle.std.proofs.lemmas.List.{append-nil}
use Rattle.fleet_base.specs.declared.numbers.CellNo.{CellNo}
use Rattle.fleet_base.specs.declared.numbers.Event.{Event}
use Rattle.fleet_model.specs.Sites.{IsWalk, steps, in_conflict, footprint_of, IsSite, has_claim}
use Rattle.fleet_model.specs.Replays.{opening, after_kinds}
use Rattle.fleet_model.specs.Plans.{Fleet, kinds, IsRoute, end_of, merged, route_events, own}
use Rattle.fleet_model.proofs.Good.{end_is, end_held}
use Rattle.std.specs.Prelude.{slice_get}
use Rattle.fleet_base.specs.declared.numbers.ClaimNo.{ClaimNo}
use Rattle.fleet_model.specs.Good.{IsGoodPlan, Opens, Closes}
use Rattle.fleet_model.proofs.Numbers.{IsAscending-own, In_own, own_In, from_one, kinds-append}
use Rattle.fleet_model.proofs.Alone.{IsKept, IsKeptFrom, held_since}
use Rattle.fleet_model.proofs.Numbered.{own-numbered}

-- a robot that does the same has the same end
pub end_same : (m n : Fleet) (q : ℕ) → m.site ≡ n.site → m.starts ≡ n.starts → kinds q m.plan ≡ kinds q n.plan → end_of m q ≡ end_of n q
end_same m n q s t h = end_is m q ∙ (ap (λ x. x.cell) (same_spot s t h) ∙ sym (end_is n q))
  where
    same_spot : m.site ≡ n.site → m.starts ≡ n.starts → kinds q m.plan ≡ kinds q n.plan → after_kinds (opening m.site m.starts q) (kinds q m.plan) ≡ after_kinds (opening n.site n.starts q) (kinds q n.plan)
    same_spot s t h = λ i. after_kinds (opening (s i) (t i) q) (h i)

-- a merge leaves the other robots their ends
pub merged_end : (m : Fleet) (r : ℕ) (route : List CellNo) (q : ℕ) → (r ≡ q → ⊥) → end_of (merged m r route) q ≡ end_of m q
merged_end m r route q h =
    end_same (merged m r route) m q refl refl (kinds-append q m.plan (route_events m r route) ∙ (ap (λ es. kinds q m.plan ++ map (λ (e : Event). e.kind) es) (own-numbered m.next r q (steps m.site route) h) ∙ append-nil (kinds q m.plan)))

-- a route stays legal where the end of its robot stays
pub route_still : (m n : Fleet) (r : ℕ) (route : List CellNo) → m.site ≡ n.site → end_of m r ≡ end_of n r → IsRoute m r route → IsRoute n r route
route_still m n r route s e h = record { long = h.long; short = h.short; linked = subst (λ x. IsWalk x route) s h.linked; begins = h.begins ∙ ap (λ a. Some a) e }

-- a claim that a robot holds at its end is of a use that stays open
pub open_at_end : (m : Fleet) → IsGoodPlan m → (r : ℕ) (c : ClaimNo) → (after_kinds (opening m.site m.starts r) (kinds r m.plan)).holds c ≡ true → (a : ℕ) × Opens m r c a × ((high : ℕ) → Closes m.plan r c a high → ⊥)
open_at_end m good r c h = go (held_since (opening m.site m.starts r) 1 (own r m.plan) c (IsAscending-own r 1 m.plan (from_one m good)) h)
  where
    go : IsKeptFrom (opening m.site m.starts r) c (own r m.plan) ⊎ ((a : Event) × IsKept c (own r m.plan) a) → (a : ℕ) × Opens m r c a × ((high : ℕ) → Closes m.plan r c a high → ⊥)
    go (inl t) = (0, inl (refl, t.held), λ high x. t.open_still x.event (In_own r m.plan x.planned x.robot) x.kind)
    go (inr t) = let o = own_In r m.plan t.1.place in (t.0.no.0, inr (t.0, o.0, o.1, t.1.kind, refl), λ high x. t.1.open_still x.event (In_own r m.plan x.planned x.robot) x.kind x.above)

-- the footprints of two robots' ends don't conflict
pub ends_apart : (m : Fleet) → IsSite m.site → IsGoodPlan m → (r q : ℕ) (a b : CellNo) (c d : ClaimNo) → r ≢ q → slice_get m.starts r ≡ Some a → slice_get m.starts q ≡ Some b → in_conflict m.site.groups c d ≡ true
    → has_claim (footprint_of m.site (end_of m r)) c ≡ true → has_claim (footprint_of m.site (end_of m q)) d ≡ true → ⊥
ends_apart m is_site good r q a b c d apart hr hq conflict hc hd =
    let x = open_at_end m good r c (end_held m is_site good r a c hr hc) in
    let y = open_at_end m good q d (end_held m is_site good q b d hq hd) in
    elim (good.uses r q c d x.0 y.0 apart conflict x.1 y.1) [ inl k ↦ x.2 y.0 k | inr k ↦ y.2 x.0 k ]
