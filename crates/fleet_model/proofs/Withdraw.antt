-- A withdrawal keeps a plan good, and leaves the ends of the others.
use Rattle.std.proofs.Common.{◌≡◌, ◌≢◌, ℕ, Bool, true, false, not, ◌==◌, ◌⊎◌, inl, inr, refl, sym, ap, ◌∙◌, subst, List, [], ◌∷◌, ◌++◌, map, arith}
use Rattle.std.proofs.lemmas.Bool.{both_ways, cases_Bool, cases_eq, not-false, not-true, not_from_false}
use Rattle.std.proofs.lemmas.List.{append-nil}
use Rattle.std.proofs.lemmas.List.Elements.{filter-append}
use Rattle.std.specs.Prelude.{slice_get}
use Rattle.std.specs.List.{filter}
use Rattle.fleet_base.specs.declared.numbers.ClaimNo.{ClaimNo}
use Rattle.fleet_base.specs.declared.numbers.Event.{Event}
use Rattle.fleet_model.specs.Lists.{In, here, there}
use Rattle.fleet_model.specs.Sites.{in_conflict}
use Rattle.fleet_model.specs.Replays.{AreSteps}
use Rattle.fleet_model.specs.Plans.{Fleet, own, kinds, end_of, is_done, IsReady, IsBehind, IsOrder, withdrawn, removable_tail, IsRemovableTail}
use Rattle.fleet_model.specs.Good.{IsAscending, IsGoodPlan, Opens, Closes}
use Rattle.fleet_model.proofs.Lists.{In-append_right, In-filter, In_unfilter}
use Rattle.fleet_model.proofs.Numbers.{IsAscending-filter, IsAscending-own, ascending_apart, one_event, own_In, done_in, done_event, done_none, from_one}
use Rattle.fleet_model.proofs.Claims.{conflict_symmetric}
use Rattle.fleet_model.proofs.Safe.{awaited_from}
use Rattle.fleet_model.proofs.Ends.{end_same}
use Rattle.fleet_model.proofs.Readiness.{ready_stays}
use Rattle.fleet_model.proofs.Tails.{tail_is}
use Rattle.fleet_model.proofs.Filters.{filter_swap, filter_all, filter_none}

module _ (m : Fleet) (r : ℕ) (tail : List Event) (good : IsGoodPlan m) (removable : IsRemovableTail m r tail) where
  -- the plan without the tail
  abbrev after : Fleet
  after = withdrawn m tail

  -- the event is not of the tail
  abbrev stays : Event → Bool
  stays e = not (is_done tail e)

  -- these events of the robot are the steps of one walk from its start
  abbrev Rests : List Event → Type 0
  Rests es = AreSteps m.site (slice_get m.starts r) (map (λ (e : Event). e.kind) es)

  -- the tail is of the robot's events
  in_tail : (e : Event) → In e tail → In e m.plan × (e.robot.0 ≡ r)
  in_tail e i = own_In r m.plan (subst (λ es. In e es) (sym removable.splits) (In-append_right removable.front tail i))

  -- an event that goes is one of the tail
  goes : (e : Event) → In e m.plan → stays e ≡ false → In e tail
  goes e i h =
      let f : (f : Event) × In f tail × (f.no.0 ≡ e.no.0) = done_event e tail (not-false (is_done tail e) h) in
      subst (λ x. In x tail) (one_event 1 m.plan (from_one m good) (in_tail f.0 f.1).0 i f.2) f.1

  -- an event of another robot stays
  pub other_stays : (e : Event) → In e m.plan → (e.robot.0 ≡ r → ⊥) → (stays e ≡ true) ⊎ (stays e ≡ false) → stays e ≡ true
  other_stays e i apart (inl t) = t
  other_stays e i apart (inr f) = absurd (apart (in_tail e (goes e i f)).1)

  -- what is finished stays
  stays_done : (e : Event) → In e m.plan → is_done m.finished e ≡ true → (stays e ≡ true) ⊎ (stays e ≡ false) → stays e ≡ true
  stays_done e i t (inl s) = s
  stays_done e i t (inr g) = absurd (both_ways (is_done m.finished e) (removable.undone e (goes e i g)) t)

  -- of the robot's own events those in front of the tail are left
  pub own_left : own r after.plan ≡ removable.front
  own_left =
      filter_swap (λ (e : Event). e.robot.0 == r) stays m.plan
      ∙ (ap (λ es. filter stays es) removable.splits
      ∙ (filter-append stays removable.front tail
      ∙ (ap (λ es. es ++ filter stays tail) (filter_all stays removable.front (λ e i. not_from_false (is_done tail e) (done_none tail e (λ g j n. let l = ascending_apart 1 removable.front tail rises i j in absurd (omega arith)))))
      ∙ (ap (λ es. removable.front ++ es) (filter_none stays tail (λ e i. ap (λ b. not b) (done_in tail i))) ∙ append-nil removable.front))))
    where
      rises : IsAscending 1 (removable.front ++ tail)
      rises = subst (λ es. IsAscending 1 es) removable.splits (IsAscending-own r 1 m.plan (from_one m good))

  -- another robot's events stay
  own_still : (q : ℕ) → (r ≡ q → ⊥) → own q after.plan ≡ own q m.plan
  own_still q apart =
      filter_swap (λ (e : Event). e.robot.0 == q) stays m.plan
      ∙ filter_all stays (own q m.plan) (λ e i. let o = own_In q m.plan i in other_stays e o.0 (λ h. apart (sym h ∙ o.1)) (cases_Bool (stays e)))

  -- an order of finished events stays one
  order_kept : (done order : List Event) → ((e : Event) → In e order → is_done m.finished e ≡ true) → IsOrder (IsBehind m.site.groups) m.plan done order → IsOrder (IsBehind m.site.groups) after.plan done order
  order_kept done [] f h = tt
  order_kept done (e ∷ es) f h = (
    record { planned = In-filter stays m.plan h.0.planned (stays_done e h.0.planned (f e (here refl)) (cases_Bool (stays e))); undone = h.0.undone; waited = λ x i b. h.0.waited x (In_unfilter stays m.plan i).0 b },
    order_kept (done ++ e ∷ []) es (λ x i. f x (there i)) h.1,
  )

  -- each robot's events are the steps of one walk after the withdrawal
  walk_at : (q : ℕ) → (r ≡ q) ⊎ (r ≡ q → ⊥) → AreSteps m.site (slice_get m.starts q) (kinds q after.plan)
  walk_at q (inl h) = subst (λ x. AreSteps m.site (slice_get m.starts x) (kinds x after.plan)) h (subst (λ es. Rests es) (sym own_left) removable.rests)
  walk_at q (inr h) = subst (λ es. AreSteps m.site (slice_get m.starts q) (map (λ (e : Event). e.kind) es)) (sym (own_still q h)) (good.walks q)

  -- a use after the withdrawal was one before it
  opens_before : (q : ℕ) (c : ClaimNo) (n : ℕ) → Opens after q c n → Opens m q c n
  opens_before q c n (inl s) = inl s
  opens_before q c n (inr o) = inr (o.0, (In_unfilter stays m.plan o.1).0, o.2, o.3, o.4)

  -- the release that a later use stands behind stays
  closes_still : (q s : ℕ) (c d : ClaimNo) (n k : ℕ) → q ≢ s → in_conflict m.site.groups d c ≡ true → Opens m s d k → Closes m.plan q c n k → Closes after.plan q c n k
  closes_still q s c d n k apart conflict opens x =
      record { event = x.event; planned = In-filter stays m.plan x.planned (kept opens (cases_Bool (stays x.event))); robot = x.robot; kind = x.kind; above = x.above; below = x.below }
    where
      kept : Opens m s d k → (stays x.event ≡ true) ⊎ (stays x.event ≡ false) → stays x.event ≡ true
      kept o (inl t) = t
      kept (inl o) (inr f) = let l = x.below in let z = o.0 in absurd (omega arith)
      kept (inr o) (inr f) =
          absurd (both_ways _ (removable.unawaited o.0 x.event o.1 (goes x.event x.planned f))
          (awaited_from m.site o.0 x.event d c o.3 x.kind (λ h. apart (sym x.robot ∙ (h ∙ o.2))) (rw (← o.4) at x.below) conflict))

  -- a withdrawal of a removable tail keeps a plan good
  pub tail_withdrawn_good : IsGoodPlan (withdrawn m tail)
  tail_withdrawn_good = record {
    numbers = IsAscending-filter stays m.first m.plan good.numbers;
    first = good.first;
    opened = good.opened;
    next = λ e i. good.next e (In_unfilter stays m.plan i).0;
    walks = λ q. walk_at q (cases_eq r q);
    finished = order_kept [] m.finished (λ e i. done_in m.finished i) good.finished;
    uses = λ q s c d n k apart conflict x y. elim (good.uses q s c d n k apart conflict (opens_before q c n x) (opens_before s d k y)) [
      | inl u ↦ inl (closes_still q s c d n k apart (conflict_symmetric m.site.groups c d conflict) (opens_before s d k y) u)
      | inr u ↦ inr (closes_still s q d c k n (λ h. apart (sym h)) conflict (opens_before q c n x) u)
    ];
  }

  pub tail_withdrawn_end : (q : ℕ) → (r ≡ q → ⊥) → end_of (withdrawn m tail) q ≡ end_of m q
  tail_withdrawn_end q apart = end_same (withdrawn m tail) m q refl refl (ap (λ es. map (λ (e : Event). e.kind) es) (own_still q apart))

-- a withdrawal keeps a plan good
pub withdrawn_good : (m : Fleet) (r : ℕ) → IsGoodPlan m → IsGoodPlan (withdrawn m (removable_tail m r))
withdrawn_good m r good = tail_withdrawn_good m r (removable_tail m r) good (tail_is m r good)

-- a withdrawal leaves the other robots their ends
pub withdrawn_end : (m : Fleet) (r q : ℕ) → IsGoodPlan m → (r ≡ q → ⊥) → end_of (withdrawn m (removable_tail m r)) q ≡ end_of m q
withdrawn_end m r q good apart = tail_withdrawn_end m r (removable_tail m r) good (tail_is m r good) q apart

-- a ready event stays ready under a withdrawal by another robot
pub ready_withdrawn : (m : Fleet) (r : ℕ) (e : Event) → IsGoodPlan m → (r ≡ e.robot.0 → ⊥) → IsReady (IsBehind m.site.groups) m.plan m.finished e → IsReady (IsBehind m.site.groups) (withdrawn m (removable_tail m r)).plan m.finished e
ready_withdrawn m r e good apart ready =
    ready_stays m (removable_tail m r) e
    (not-true _ (other_stays m r (removable_tail m r) good (tail_is m r good) e ready.planned (λ h. apart (sym h)) (cases_Bool (not (is_done (removable_tail m r) e))))) ready
