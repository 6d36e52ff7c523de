-- The merge allows what each safe insertion allows; and without a blocker some insertion is safe.
use Rattle.std.proofs.Common.{◌≡◌, ◌≢◌, ℕ, ◌<◌, ◌≤◌, Bool, true, false, not, ◌==◌, ◌&&◌, ◌⊎◌, inl, inr, refl, sym, ap, ◌∙◌, subst, List, [], ◌∷◌, ◌++◌, map, Some, append_assoc}
use Rattle.std.proofs.lemmas.Bool.{both_ways, cases_Bool, cases_lt, not-true, not_from_false, and_parts, eqb-false}
use Rattle.std.specs.Prelude.{slice_get, nat_lt}
use Rattle.std.specs.List.{filter}
use Rattle.fleet_base.specs.declared.numbers.CellNo.{CellNo}
use Rattle.fleet_base.specs.declared.numbers.ClaimGroup.{ClaimGroup}
use Rattle.fleet_base.specs.declared.numbers.ClaimNo.{ClaimNo}
use Rattle.fleet_base.specs.declared.numbers.Event.{Event}
use Rattle.fleet_base.specs.declared.numbers.Kind.{Kind}
use Rattle.fleet_base.specs.declared.numbers.Kind.TheVariants.{Acquire, Move, Release}
use Rattle.fleet_model.specs.Lists.{In, here, there}
use Rattle.fleet_model.specs.Sites.{in_conflict, IsSite, steps}
use Rattle.fleet_model.specs.Plans.{Fleet, after, is_done, clashes, is_awaited, IsBehind, IsReady, IsOrder, IsAllowed, route_events, merged, IsBlocker, Insertion, IsInsertion, IsBehindBy, IsAllowedBy, IsSafeInsertion, IsRoute}
use Rattle.fleet_model.specs.Good.{IsGoodPlan}
use Rattle.fleet_model.proofs.Lists.{In_equal, In-append_left, In-append_right, In-append_cases, In-filter, In_unfilter, In-map, In_unmap}
use Rattle.fleet_model.proofs.Numbers.{done_left}
use Rattle.fleet_model.proofs.Good.{good_safe}
use Rattle.fleet_model.proofs.GoodMerge.{merge_good}
use Rattle.fleet_model.proofs.Insert.{not_waiting}
use Rattle.fleet_model.proofs.Numbered.{numbered-robot}
use Rattle.fleet_model.proofs.Merge.{new_event}
use Rattle.fleet_model.proofs.Orders as orders

-- an acquire and a release that conflict
pub record AreAtOdds (groups : List ClaimGroup) (j k : Kind) : Type 0 where
  pub taken : ClaimNo
  pub given : ClaimNo
  pub takes : j ≡ Acquire taken
  pub gives : k ≡ Release given
  pub conflict : in_conflict groups taken given ≡ true

-- what clashes is an acquire and a release that conflict
pub at_odds : (groups : List ClaimGroup) (j k : Kind) → clashes groups j k ≡ true → AreAtOdds groups j k
at_odds groups (Acquire c) (Release d) h = record { taken = c; given = d; takes = refl; gives = refl; conflict = h }
at_odds groups (Acquire c) (Acquire d) h = absurd (both_ways false refl h)
at_odds groups (Acquire c) (Move a b) h = absurd (both_ways false refl h)
at_odds groups (Move a b) k h = absurd (both_ways false refl h)
at_odds groups (Release c) k h = absurd (both_ways false refl h)

-- what an event waits for is a conflicting release by another robot
pub awaited_parts : (groups : List ClaimGroup) (e f : Event) → is_awaited groups e f ≡ true → (f.robot.0 ≢ e.robot.0) × AreAtOdds groups e.kind f.kind
awaited_parts groups e f h =
    let a = and_parts (nat_lt f.no.0 e.no.0) (not (f.robot.0 == e.robot.0) && clashes groups e.kind f.kind) h in
    let b = and_parts (not (f.robot.0 == e.robot.0)) (clashes groups e.kind f.kind) a.1 in
    (eqb-false f.robot.0 e.robot.0 (not-true (f.robot.0 == e.robot.0) b.0), at_odds groups e.kind f.kind b.1)

module _ (m : Fleet) (r : ℕ) (route : List CellNo) (is_site : IsSite m.site) (good : IsGoodPlan m) where
  -- the events of the route
  abbrev news : List Event
  news = route_events m r route

  -- the plan with the events of the route
  abbrev plan : List Event
  plan = m.plan ++ news

  -- what a new event waits for is of the plan before
  is_old : (e f : Event) → In e news → In f plan → f.robot.0 ≢ e.robot.0 → In f m.plan
  is_old e f i j apart = elim (In-append_cases m.plan news j) [ inl k ↦ k | inr k ↦ absurd (apart (numbered-robot m.next r (steps m.site route) f k ∙ sym (numbered-robot m.next r (steps m.site route) e i))) ]

  module _ (pairs : Insertion) (insertion : IsInsertion m news pairs) (safe : IsSafeInsertion m news pairs) where
    -- what an event comes behind, with the pairs of the insertion
    abbrev by : Event → Event → Type 0
    by e f = IsBehindBy m pairs e f

    -- each order that a safe insertion allows is allowed by the merge
    pub least : (order : List Event) → IsAllowedBy m news pairs order → IsAllowed (merged m r route) order
    least order h = orders.order_by_place (IsBehind m.site.groups) plan m.finished order at_place
      where
        at_place : (before : List Event) (e : Event) (rest : List Event) → order ≡ before ++ e ∷ rest → IsReady (IsBehind m.site.groups) plan (m.finished ++ before) e
        at_place before e rest split = record { planned = ready.planned; undone = ready.undone; waited = waited }
          where
            there_by : IsOrder by plan m.finished (before ++ e ∷ rest)
            there_by = subst (λ es. IsOrder by plan m.finished es) split h

            ready : IsReady by plan (m.finished ++ before) e
            ready = (orders.IsOrder_rest by plan m.finished before (e ∷ rest) there_by).0

            ordered : IsOrder by plan m.finished (before ++ e ∷ [])
            ordered = orders.IsOrder_front by plan m.finished (before ++ e ∷ []) rest (subst (λ es. IsOrder by plan m.finished es) (sym (append_assoc before (e ∷ []) rest)) there_by)

            new_waited : (f : Event) → In f plan → is_awaited m.site.groups e f ≡ true → In e news → (is_done (m.finished ++ before) f ≡ true) ⊎ (is_done (m.finished ++ before) f ≡ false) → is_done (m.finished ++ before) f ≡ true
            new_waited f i a n (inl t) = t
            new_waited f i a n (inr u) =
                let p : (f.robot.0 ≢ e.robot.0) × AreAtOdds m.site.groups e.kind f.kind = awaited_parts m.site.groups e f a in
                absurd (not_waiting m r route is_site good pairs insertion safe before e ordered n p.1.taken p.1.given p.1.takes f (is_old e f n i p.0) p.1.gives p.0 p.1.conflict u)

            by_number : (f : Event) → In f plan → is_awaited m.site.groups e f ≡ true → (e.no.0 < m.next) ⊎ (m.next ≤ e.no.0) → is_done (m.finished ++ before) f ≡ true
            by_number f i a (inl l) = ready.waited f i (inr (inl (l, a)))
            by_number f i a (inr l) = new_waited f i a (new_event m r route good e ready.planned l) (cases_Bool (is_done (m.finished ++ before) f))

            waited : (f : Event) → In f plan → IsBehind m.site.groups e f → is_done (m.finished ++ before) f ≡ true
            waited f i (inl o) = ready.waited f i (inl o)
            waited f i (inr a) = by_number f i a (cases_lt e.no.0 m.next)

  -- the event is not finished
  abbrev undone : Event → Bool
  undone e = not (is_done m.finished e)

  -- each of these events with all that it waits for in the plan before
  pairs_of : List Event → Insertion
  pairs_of [] = []
  pairs_of (e ∷ es) = map (λ (f : Event). (f, e)) (filter undone (after m.site.groups m.plan e)) ++ pairs_of es

  -- each release that a new event still waits for is paired with it
  pairs_have : (es : List Event) (e f : Event) → In e es → In f m.plan → is_awaited m.site.groups e f ≡ true → is_done m.finished f ≡ false → In (f, e) (pairs_of es)
  unfolding pairs_of
  pairs_have [] e f i p a u = elim i [ ]
  pairs_have (g ∷ gs) e f (here h) p a u =
      subst (λ x. In (f, x) (pairs_of (g ∷ gs))) (sym h)
      (In-append_left (map (λ (y : Event). (y, g)) (filter undone (after m.site.groups m.plan g))) (pairs_of gs) (In-map (λ (y : Event). (y, g)) (filter undone (after m.site.groups m.plan g)) (In-filter undone (after m.site.groups m.plan g) (In-filter (is_awaited m.site.groups g) m.plan p (rw (← h) a)) (not_from_false (is_done m.finished f) u))))
  pairs_have (g ∷ gs) e f (there i) p a u = In-append_right (map (λ (y : Event). (y, g)) (filter undone (after m.site.groups m.plan g))) (pairs_of gs) (pairs_have gs e f i p a u)

  -- the pair is of an unfinished event of the plan and one of these
  pub record IsPaired (es : List Event) (f e : Event) : Type 0 where
    pub planned : In f m.plan
    pub undone_then : is_done m.finished f ≡ false
    pub new : In e es

  -- what is paired is an unfinished event of the plan with a new one
  pairs_are : (es : List Event) (f e : Event) → In (f, e) (pairs_of es) → IsPaired es f e
  unfolding pairs_of
  pairs_are [] f e i = elim i [ ]
  pairs_are (g ∷ gs) f e i = go (In-append_cases (map (λ (y : Event). (y, g)) (filter undone (after m.site.groups m.plan g))) (pairs_of gs) i) (pairs_are gs f e)
    where
      go : In {A = Event × Event} (f, e) (map (λ (y : Event). (y, g)) (filter undone (after m.site.groups m.plan g))) ⊎ In {A = Event × Event} (f, e) (pairs_of gs) → (In {A = Event × Event} (f, e) (pairs_of gs) → IsPaired gs f e) → IsPaired (g ∷ gs) f e
      go (inr j) ih = record { planned = (ih j).planned; undone_then = (ih j).undone_then; new = there (ih j).new }
      go (inl j) ih =
          let x : (x : Event) × In x (filter undone (after m.site.groups m.plan g)) × ((f, e) ≡ (x, g)) = In_unmap (λ (y : Event). (y, g)) (filter undone (after m.site.groups m.plan g)) j in
          let same : f ≡ x.0 = ap (λ (p : Event × Event). p.0) x.2 in
          let u : In x.0 (after m.site.groups m.plan g) × (undone x.0 ≡ true) = In_unfilter undone (after m.site.groups m.plan g) x.1 in
          record {
            planned = In_equal same (In_unfilter (is_awaited m.site.groups g) m.plan u.0).0;
            undone_then = rw same (not-true (is_done m.finished x.0) u.1);
            new = here (ap (λ (p : Event × Event). p.1) x.2);
          }

  -- each event of the route with all that it waits for in the plan before
  abbrev all_pairs : Insertion
  all_pairs = pairs_of news

  -- these pairs are an insertion
  all_insertion : IsInsertion m news all_pairs
  all_insertion = record { planned = λ f e i. (pairs_are news f e i).planned; undone = λ f e i. (pairs_are news f e i).undone_then; new = λ f e i. (pairs_are news f e i).new }

  -- each order that this insertion allows is allowed by the merge
  all_allowed : (order : List Event) → IsAllowedBy m news all_pairs order → IsAllowed (merged m r route) order
  all_allowed order h = orders.order_by_place (IsBehind m.site.groups) plan m.finished order at_place
    where
      at_place : (before : List Event) (e : Event) (rest : List Event) → order ≡ before ++ e ∷ rest → IsReady (IsBehind m.site.groups) plan (m.finished ++ before) e
      at_place before e rest split = record { planned = ready.planned; undone = ready.undone; waited = waited }
        where
          ready : IsReady (IsBehindBy m all_pairs) plan (m.finished ++ before) e
          ready = (orders.IsOrder_rest (IsBehindBy m all_pairs) plan m.finished before (e ∷ rest) (subst (λ es. IsOrder (IsBehindBy m all_pairs) plan m.finished es) split h)).0

          paired : (f : Event) → In f plan → is_awaited m.site.groups e f ≡ true → In e news → In f m.plan → (is_done m.finished f ≡ true) ⊎ (is_done m.finished f ≡ false) → is_done (m.finished ++ before) f ≡ true
          paired f i a n o (inl t) = done_left m.finished before f t
          paired f i a n o (inr u) = ready.waited f i (inr (inr (pairs_have news e f n o a u)))

          by_number : (f : Event) → In f plan → is_awaited m.site.groups e f ≡ true → (e.no.0 < m.next) ⊎ (m.next ≤ e.no.0) → is_done (m.finished ++ before) f ≡ true
          by_number f i a (inl l) = ready.waited f i (inr (inl (l, a)))
          by_number f i a (inr l) = let n = new_event m r route good e ready.planned l in paired f i a n (is_old e f n i (awaited_parts m.site.groups e f a).0) (cases_Bool (is_done m.finished f))

          waited : (f : Event) → In f plan → IsBehind m.site.groups e f → is_done (m.finished ++ before) f ≡ true
          waited f i (inl o) = ready.waited f i (inl o)
          waited f i (inr a) = by_number f i a (cases_lt e.no.0 m.next)

  -- without a blocker the insertion of all that the route waits for is safe
  pub unblocked_safe : (a : CellNo) → slice_get m.starts r ≡ Some a → IsRoute m r route → ((c : ClaimNo) (q : ℕ) → IsBlocker m r route c q → ⊥)
      → (pairs : Insertion) × IsInsertion m news pairs × IsSafeInsertion m news pairs
  unblocked_safe a robot walk none = (all_pairs, all_insertion, λ order h. good_safe (merged m r route) is_site (merge_good m r a route is_site good robot walk none) order (all_allowed order h))
