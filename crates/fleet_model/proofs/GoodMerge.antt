-- A merge without a blocker keeps a plan good.
use Rattle.std.proofs.Common.{◌≡◌, ◌≢◌, ℕ, ◌≤◌, true, false, ◌⊎◌, inl, inr, refl, sym, ap, ◌∙◌, subst, List, [], ◌∷◌, ◌++◌, arith, Option, Some, None}
use Rattle.std.proofs.lemmas.Bool.{both_ways, cases_Bool, cases_eq}
use Rattle.std.proofs.lemmas.List.{append-nil}
use Rattle.std.proofs.lemmas.Option.{same_Some}
use Rattle.std.specs.Prelude.{slice_get}
use Rattle.fleet_base.specs.declared.numbers.CellNo.{CellNo}
use Rattle.fleet_base.specs.declared.numbers.ClaimNo.{ClaimNo}
use Rattle.fleet_base.specs.declared.numbers.Event.{Event}
use Rattle.fleet_base.specs.declared.numbers.Kind.{Kind}
use Rattle.fleet_base.specs.declared.numbers.Kind.TheVariants.{Acquire}
use Rattle.fleet_model.specs.Lists.{In}
use Rattle.fleet_model.specs.Sites.{in_conflict, Site, IsSite, steps, last_cell, steps_from, IsWalkFrom}
use Rattle.fleet_model.specs.Replays.{AreSteps, standing, after_kinds, opening, start_at}
use Rattle.fleet_model.specs.Plans.{Fleet, kinds, route_events, merged, end_of, IsBlocker, IsRoute}
use Rattle.fleet_model.specs.Good.{IsGoodPlan, Opens, Closes}
use Rattle.fleet_model.proofs.Lists.{In_equal, In-append_left, In-append_cases}
use Rattle.fleet_model.proofs.Numbers.{ascending-append, kinds-append}
use Rattle.fleet_model.proofs.Claims.{conflict_symmetric}
use Rattle.fleet_model.proofs.Walks.{steps_stand, start_stands}
use Rattle.fleet_model.proofs.Good.{end_holds, end_is}
use Rattle.fleet_model.proofs.Merge.{order_still, news_high}
use Rattle.fleet_model.proofs.Uses.{use_closes}
use Rattle.fleet_model.proofs.Numbered.{numbered-ascending, numbered-robot, numbered-below, numbered-kind, kinds-numbered, own-numbered}
use Rattle.fleet_model.proofs.Steps.{steps-append, walk-append}

-- the steps of a walk that goes on from where a robot is make one walk with those before
walk_more : (site : Site) → IsSite site → (o : Option CellNo) (a z : CellNo) (ks : List Kind) (cells : List CellNo) → o ≡ Some a → AreSteps site o ks → z ≡ (after_kinds (start_at site o) ks).cell → IsWalkFrom site z cells → AreSteps site o (ks ++ steps_from site z cells)
walk_more site is_site None a z ks cells e h g w = absurd (cc)
walk_more site is_site (Some b) a z ks cells e h g w =
    let last : z ≡ last_cell b h.0 = g ∙ rw h.2 (steps_stand site is_site (standing site b) b h.0 (start_stands site is_site b)).1.cell in (
      h.0 ++ cells,
      walk-append site b h.0 cells h.1 (subst (λ x. IsWalkFrom site x cells) last w),
      ap (λ js. js ++ steps_from site z cells) h.2 ∙ (ap (λ x. steps_from site b h.0 ++ steps_from site x cells) last ∙ sym (steps-append site b h.0 cells)),
    )

-- a route goes on from the end
route_walk : (m : Fleet) (r : ℕ) (route : List CellNo) → IsRoute m r route → (cells : List CellNo) × IsWalkFrom m.site (end_of m r) cells × (steps m.site route ≡ steps_from m.site (end_of m r) cells)
route_walk m r [] h = absurd (omega (arith, h.long))
route_walk m r (a ∷ cells) h =
    let same : a ≡ end_of m r = same_Some a (end_of m r) h.begins in
    (cells, subst (λ x. IsWalkFrom m.site x cells) same h.linked, ap (λ x. steps_from m.site x cells) same)

-- a robot that holds a claim has a start
held_robot : (site : Site) (o : Option CellNo) (ks : List Kind) (c : ClaimNo) → AreSteps site o ks → (after_kinds (start_at site o) ks).holds c ≡ true → (a : CellNo) × (o ≡ Some a)
held_robot site None ks c h held = absurd (both_ways false refl (rw h at held))
held_robot site (Some a) ks c h held = (a, refl)

module _ (m : Fleet) (r : ℕ) (a : CellNo) (route : List CellNo) (is_site : IsSite m.site) (good : IsGoodPlan m) (robot : slice_get m.starts r ≡ Some a) (is_route : IsRoute m r route)
    (no_blocker : (c : ClaimNo) (q : ℕ) → IsBlocker m r route c q → ⊥) where
  -- the events of the route
  abbrev news : List Event
  news = route_events m r route

  -- the plan with the route
  abbrev after : Fleet
  after = merged m r route

  -- each robot's events are the steps of one walk after the merge
  walk_at : (q : ℕ) → (r ≡ q) ⊎ (r ≡ q → ⊥) → AreSteps m.site (slice_get m.starts q) (kinds q after.plan)
  walk_at q (inl e) =
      subst (λ x. AreSteps m.site (slice_get m.starts x) (kinds x after.plan)) e
      (rw (kinds-append r m.plan news, kinds-numbered m.next r (steps m.site route)) (let w = route_walk m r route is_route in rw w.2 (walk_more m.site is_site (slice_get m.starts r) a (end_of m r) (kinds r m.plan) w.0 robot (good.walks r) (end_is m r) w.1)))
  walk_at q (inr e) = rw (kinds-append q m.plan news, own-numbered m.next r q (steps m.site route) e, append-nil) (good.walks q)

  -- a use that was closed stays closed
  still : (q : ℕ) (c : ClaimNo) (low high : ℕ) → Closes m.plan q c low high → Closes after.plan q c low high
  still q c low high x = record { event = x.event; planned = In-append_left m.plan news x.planned; robot = x.robot; kind = x.kind; above = x.above; below = x.below }

  -- a use that an event of the route opens
  abbrev New : ℕ → ClaimNo → ℕ → Type 0
  New q c n = (e : Event) × In e news × (e.robot.0 ≡ q) × (e.kind ≡ Acquire c) × (e.no.0 ≡ n)

  -- a use after the merge is one of before or one of the route
  opens_cases : (q : ℕ) (c : ClaimNo) (n : ℕ) → Opens after q c n → Opens m q c n ⊎ New q c n
  opens_cases q c n (inl s) = inl (inl s)
  opens_cases q c n (inr o) = elim (In-append_cases m.plan news o.1) [ inl i ↦ inl (inr (o.0, i, o.2, o.3, o.4)) | inr i ↦ inr (o.0, i, o.2, o.3, o.4) ]

  -- a use of the plan before is closed in front of a conflicting claim of the route
  behind_old : (q s : ℕ) (c d : ClaimNo) (n k : ℕ) → q ≢ s → in_conflict m.site.groups d c ≡ true → Opens m q c n → New s d k → Closes after.plan q c n k
  behind_old q s c d n k apart conflict old new = go (cases_Bool ((after_kinds (opening m.site m.starts q) (kinds q m.plan)).holds c))
    where
      late : m.next ≤ new.0.no.0
      late = news_high m r route new.0 new.1

      moving : new.0.robot.0 ≡ r
      moving = numbered-robot m.next r (steps m.site route) new.0 new.1

      go : ((after_kinds (opening m.site m.starts q) (kinds q m.plan)).holds c ≡ true) ⊎ ((after_kinds (opening m.site m.starts q) (kinds q m.plan)).holds c ≡ false) → Closes after.plan q c n k
      go (inl t) =
          let b : (b : CellNo) × (slice_get m.starts q ≡ Some b) = held_robot m.site (slice_get m.starts q) (kinds q m.plan) c (good.walks q) t in
          absurd (no_blocker d q record {
            needed = In_equal (sym new.3) (numbered-kind m.next r (steps m.site route) new.0 new.1);
            other = λ e. apart (e ∙ (sym moving ∙ new.2));
            start = b.0;
            starts = b.1;
            claim = c;
            holds = end_holds m is_site good q c t;
            conflict = conflict;
          })
      go (inr f) =
          let x : Closes m.plan q c n m.next = use_closes m good q c n old f in
          let l = x.below in let g = new.4 in
          record { event = x.event; planned = In-append_left m.plan news x.planned; robot = x.robot; kind = x.kind; above = x.above; below = omega (arith, late) }

  -- of two conflicting uses after the merge one is closed before the other opens
  uses_kept : (q s : ℕ) (c d : ClaimNo) (n k : ℕ) → q ≢ s → in_conflict m.site.groups c d ≡ true → Opens m q c n ⊎ New q c n → Opens m s d k ⊎ New s d k → Closes after.plan q c n k ⊎ Closes after.plan s d k n
  uses_kept q s c d n k apart conflict (inl x) (inl y) = elim (good.uses q s c d n k apart conflict x y) [ inl u ↦ inl (still q c n k u) | inr u ↦ inr (still s d k n u) ]
  uses_kept q s c d n k apart conflict (inl x) (inr y) = inl (behind_old q s c d n k apart (conflict_symmetric m.site.groups c d conflict) x y)
  uses_kept q s c d n k apart conflict (inr x) (inl y) = inr (behind_old s q d c k n (λ e. apart (sym e)) conflict y x)
  uses_kept q s c d n k apart conflict (inr x) (inr y) = absurd (apart (sym x.2 ∙ (numbered-robot m.next r (steps m.site route) x.0 x.1 ∙ (sym (numbered-robot m.next r (steps m.site route) y.0 y.1) ∙ y.2))))

  -- the merge keeps the plan good
  pub merge_good : IsGoodPlan (merged m r route)
  merge_good = record {
    numbers = ascending-append m.first m.next m.plan news good.opened good.next good.numbers (numbered-ascending m.next r (steps m.site route));
    first = good.first;
    opened = let f = good.opened in omega arith;
    next = λ e i. elim (In-append_cases m.plan news i) [ inl j ↦ (let l = good.next e j in omega arith) | inr j ↦ numbered-below m.next r (steps m.site route) e j ];
    walks = λ q. walk_at q (cases_eq r q);
    finished = order_still m.site m.plan news [] m.finished m.next good.next (news_high m r route) good.finished;
    uses = λ q s c d n k apart conflict x y. uses_kept q s c d n k apart conflict (opens_cases q c n x) (opens_cases s d k y);
  }
