-- Every allowed order is legal.
use Rattle.std.proofs.Common.{◌≡◌, ◌≢◌, ℕ, ◌<◌, true, not, ◌==◌, ◌&&◌, ◌⊎◌, inl, inr, refl, sym, ap, ◌∙◌, subst, List, [], ◌∷◌, ◌++◌, map, arith, append_assoc}
use Rattle.std.proofs.lemmas.Bool.{and_from, both_ways, not_from_false, ne_eqb, lt-ltb}
use Rattle.std.proofs.lemmas.List.{map-append}
use Rattle.std.specs.Prelude.{nat_lt}
use Rattle.fleet_base.specs.declared.numbers.ClaimNo.{ClaimNo}
use Rattle.fleet_base.specs.declared.numbers.Event.{Event}
use Rattle.fleet_base.specs.declared.numbers.Kind.{Kind}
use Rattle.fleet_base.specs.declared.numbers.Kind.TheVariants.{Acquire, Move, Release}
use Rattle.fleet_model.specs.Lists.{In, Begins}
use Rattle.fleet_model.specs.Sites.{in_conflict, Site}
use Rattle.fleet_model.specs.Replays.{Spots, CanDo, CanDoAll, IsFree, IsLegal, opening, replay}
use Rattle.fleet_model.specs.Plans.{Fleet, own, kinds, is_done, clashes, is_awaited, IsBehind, IsReady, IsOrder, IsSafe}
use Rattle.fleet_model.specs.Good.{IsAscending, IsGoodPlan, Opens, Closes}
use Rattle.fleet_model.proofs.Numbers.{IsAscending-own, IsAscending_front, In_own, own_In, own_one, from_one}
use Rattle.fleet_model.proofs.Alone.{replay_own, CanDoAll_at, legal_by_place, IsKeptFrom, held_since}
use Rattle.fleet_model.proofs.Claims.{conflict_symmetric}
use Rattle.fleet_model.proofs.Alone as alone
use Rattle.fleet_model.proofs.Orders as orders

-- an acquire stands behind a release of a conflicting claim with a smaller number by another robot
pub awaited_from : (site : Site) (e f : Event) (c d : ClaimNo) → e.kind ≡ Acquire c → f.kind ≡ Release d → f.robot.0 ≢ e.robot.0 → f.no.0 < e.no.0 → in_conflict site.groups c d ≡ true → is_awaited site.groups e f ≡ true
awaited_from site e f c d he hf robots numbers conflict =
    and_from (nat_lt f.no.0 e.no.0) (not (f.robot.0 == e.robot.0) && clashes site.groups e.kind f.kind) (lt-ltb f.no.0 e.no.0 numbers)
    (and_from (not (f.robot.0 == e.robot.0)) (clashes site.groups e.kind f.kind) (not_from_false (f.robot.0 == e.robot.0) (ne_eqb f.robot.0 e.robot.0 robots)) (rw (he, hf) conflict))

-- an event comes behind each earlier one of its robot
pub own_behind : (site : Site) (e f : Event) → f.robot.0 ≡ e.robot.0 → f.no.0 < e.no.0 → IsBehind site.groups e f
own_behind site e f h l = inl (h, l)

module _ (m : Fleet) (good : IsGoodPlan m) (able : (r : ℕ) → CanDoAll m.site (opening m.site m.starts r) (kinds r m.plan)) where
  -- where the robots start
  abbrev start : Spots
  start = opening m.site m.starts

  -- what is done is of the plan, with all that it comes behind
  abbrev Kept : List Event → Type 0
  Kept done = orders.IsKept (IsBehind m.site.groups) m.plan done

  -- what is done of the plan is among the events that came before
  done_before : (before : List Event) → Kept before → (x : Event) → In x m.plan → is_done before x ≡ true → In x before
  done_before before kept x p h = orders.In_done (IsBehind m.site.groups) m.plan (from_one m good) (own_behind m.site) before kept x p h

  -- the robot of a ready event is able to do it
  can : (before : List Event) (e : Event) → Kept before → IsReady (IsBehind m.site.groups) m.plan before e → CanDo m.site (replay start before e.robot.0) e.kind
  can before e kept ready =
      let r : ℕ = e.robot.0 in
      let first : Begins (own r (before ++ e ∷ [])) (own r m.plan) = (orders.order_kept (IsBehind m.site.groups) m.plan (from_one m good) (own_behind m.site) before (e ∷ []) kept (ready, tt)).first r in
      let split : own r m.plan ≡ own r before ++ e ∷ first.0 = first.1 ∙ (ap (λ es. es ++ first.0) (own_one r before e refl) ∙ append_assoc (own r before) (e ∷ []) first.0) in
      let done : kinds r m.plan ≡ kinds r before ++ e.kind ∷ map (λ (x : Event). x.kind) first.0 = ap (λ es. map (λ (x : Event). x.kind) es) split ∙ map-append (λ (x : Event). x.kind) (own r before) (e ∷ first.0) in
      rw (replay_own start before r) (CanDoAll_at m.site (start r) (kinds r before) e.kind (map (λ (x : Event). x.kind) first.0) (subst (λ ks. CanDoAll m.site (start r) ks) done (able r)))

  -- no release of a claim that e acquires is left out in front of e
  released : (before : List Event) (e : Event) → Kept before → IsReady (IsBehind m.site.groups) m.plan before e → (q : ℕ) (c d : ClaimNo) (low : ℕ) → q ≢ e.robot.0 → e.kind ≡ Acquire c → in_conflict m.site.groups c d ≡ true
      → (x : Closes m.plan q d low e.no.0) → In x.event (own q before)
  released before e kept ready q c d low apart k conflict x =
      In_own q before (done_before before kept x.event x.planned (ready.waited x.event x.planned (inr (awaited_from m.site e x.event c d k x.kind (λ h. apart (sym x.robot ∙ h)) x.below conflict)))) x.robot

  -- no other robot holds what conflicts with the claim of a ready acquire
  clash : (before : List Event) (e : Event) → Kept before → IsReady (IsBehind m.site.groups) m.plan before e → (c : ClaimNo) → e.kind ≡ Acquire c → (q : ℕ) (d : ClaimNo) → q ≢ e.robot.0
      → (replay start before q).holds d ≡ true → in_conflict m.site.groups c d ≡ true → ⊥
  clash before e kept ready c k q d apart holds conflict =
      go (held_since (start q) 1 (own q before) d (IsAscending_front 1 (own q before) (kept.first q).0 (subst (λ es. IsAscending 1 es) (kept.first q).1 (IsAscending-own q 1 m.plan (from_one m good)))) (rw replay_own at holds))
    where
      r : ℕ
      r = e.robot.0

      mine : Opens m r c e.no.0
      mine = inr (e, ready.planned, refl, k, refl)

      from_start : IsKeptFrom (start q) d (own q before) → Closes m.plan r c e.no.0 0 ⊎ Closes m.plan q d 0 e.no.0 → ⊥
      from_start t (inl y) = let l = y.below in omega arith
      from_start t (inr x) = t.open_still x.event (released before e kept ready q c d 0 apart k conflict x) x.kind

      from_event : (a : Event) → alone.IsKept d (own q before) a → Closes m.plan r c e.no.0 a.no.0 ⊎ Closes m.plan q d a.no.0 e.no.0 → ⊥
      from_event a t (inr x) = t.open_still x.event (released before e kept ready q c d a.no.0 apart k conflict x) x.kind x.above
      from_event a t (inl y) =
          let placed : In a before × (a.robot.0 ≡ q) = own_In q before t.place in
          let y_done : is_done before y.event ≡ true = kept.closed a y.event placed.0 y.planned (inr (awaited_from m.site a y.event d c t.kind y.kind (λ h. apart (sym placed.1 ∙ (sym h ∙ y.robot))) y.below (conflict_symmetric m.site.groups c d conflict))) in
          both_ways (is_done before e) ready.undone (kept.closed y.event e (done_before before kept y.event y.planned y_done) ready.planned (inl (sym y.robot, y.above)))

      go : IsKeptFrom (start q) d (own q before) ⊎ ((a : Event) × alone.IsKept d (own q before) a) → ⊥
      go (inl t) = from_start t (good.uses r q c d e.no.0 0 (λ h. apart (sym h)) conflict mine (inl (refl, t.held)))
      go (inr t) =
          let placed : In t.0 before × (t.0.robot.0 ≡ q) = own_In q before t.1.place in
          from_event t.0 t.1 (good.uses r q c d e.no.0 t.0.no.0 (λ h. apart (sym h)) conflict mine (inr (t.0, kept.planned t.0 placed.0, placed.1, t.1.kind, refl)))

  -- a ready event meets no conflicting claim
  free : (before : List Event) (e : Event) → Kept before → IsReady (IsBehind m.site.groups) m.plan before e → (k : Kind) → e.kind ≡ k → IsFree m.site (replay start before) e.robot.0 k
  free before e kept ready (Acquire c) h = λ q d apart holds conflict. clash before e kept ready c h q d apart holds conflict
  free before e kept ready (Move a b) h = tt
  free before e kept ready (Release c) h = tt

  -- any order of events of the plan, from nothing done, is legal
  pub order_legal : (order : List Event) → IsOrder (IsBehind m.site.groups) m.plan [] order → IsLegal m.site (opening m.site m.starts) order
  order_legal order h = legal_by_place m.site start order at_place
    where
      at_place : (before : List Event) (e : Event) (behind : List Event) → order ≡ before ++ e ∷ behind → CanDo m.site (replay start before e.robot.0) e.kind × IsFree m.site (replay start before) e.robot.0 e.kind
      at_place before e behind split =
          let whole : IsOrder (IsBehind m.site.groups) m.plan [] (before ++ e ∷ behind) = subst (λ es. IsOrder (IsBehind m.site.groups) m.plan [] es) split h in
          let kept : Kept before = orders.order_kept (IsBehind m.site.groups) m.plan (from_one m good) (own_behind m.site) [] before (orders.kept_none (IsBehind m.site.groups) m.plan) (orders.IsOrder_front (IsBehind m.site.groups) m.plan [] before (e ∷ behind) whole) in
          let ready : IsReady (IsBehind m.site.groups) m.plan before e = (orders.IsOrder_rest (IsBehind m.site.groups) m.plan [] before (e ∷ behind) whole).0 in
          (can before e kept ready, free before e kept ready e.kind refl)

  -- whatever is reported in an allowed order is legal
  pub safe : IsSafe m
  safe order h = order_legal (m.finished ++ order) (orders.IsOrder-append (IsBehind m.site.groups) m.plan [] m.finished order good.finished h)
