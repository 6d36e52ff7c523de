-- With a blocker no insertion is safe; under a safe one no acquire of the route comes before a conflicting release of the plan.
use Rattle.std.proofs.Common.{◌≡◌, ◌≢◌, ℕ, ◌<◌, ◌≤◌, Bool, true, false, cond, not, ◌||◌, ◌&&◌, ◌⊎◌, inl, inr, refl, sym, ap, ◌∙◌, subst, List, [], ◌∷◌, ◌++◌, map, arith, append_assoc}
use Rattle.std.proofs.lemmas.Bool.{both_ways, cases_Bool, not-true, not_from_false, and_parts, and_from, or_cases, or_left, or_right, ltb-true, ltb-false, lt-ltb, le-ltb}
use Rattle.std.proofs.lemmas.List.{append-nil, map-append}
use Rattle.std.proofs.lemmas.List.Elements.{filter-append}
use Rattle.std.specs.Prelude.{nat_lt}
use Rattle.std.specs.List.{filter}
use Rattle.fleet_base.specs.declared.numbers.CellNo.{CellNo}
use Rattle.fleet_base.specs.declared.numbers.ClaimNo.{ClaimNo}
use Rattle.fleet_base.specs.declared.numbers.Event.{Event}
use Rattle.fleet_base.specs.declared.numbers.Kind.TheVariants.{Acquire, Release}
use Rattle.fleet_model.specs.Lists.{In}
use Rattle.fleet_model.specs.Sites.{in_conflict, IsSite, steps}
use Rattle.fleet_model.specs.Replays.{Spot, Spots, CanDo, CanDoAll, IsFree, IsLegal, after_kinds, opening, replay}
use Rattle.fleet_model.specs.Plans.{Fleet, own, kinds, is_done, IsBehind, IsReady, IsOrder, route_events, IsBlocker, Insertion, IsInsertion, IsBehindBy, IsSafeInsertion}
use Rattle.fleet_model.specs.Good.{IsAscending, IsGoodPlan}
use Rattle.fleet_model.proofs.Lists.{In_either, In_split, In-append_left, In-append_right, In-append_cases, In-filter, In_unfilter}
use Rattle.fleet_model.proofs.Numbers.{own-append, done_in, done_event, done_left, done_right, done_neither, done_none, done_parts, done_cases, done_same, from_one, ascending-append}
use Rattle.fleet_model.proofs.Alone.{replay_own, CanDoAll_at, legal_at}
use Rattle.fleet_model.proofs.Good.{able, end_held, awaited_less}
use Rattle.fleet_model.proofs.OrdersByNumber.{filter_order}
use Rattle.fleet_model.proofs.Filters.{filter_in, filter_out}
use Rattle.fleet_model.proofs.Numbered.{numbered-ascending, numbered-robot, own-numbered, numbered-event}
use Rattle.fleet_model.proofs.Merge.{news_high}
use Rattle.fleet_model.proofs.Orders as orders

module _ (m : Fleet) (r : ℕ) (route : List CellNo) (is_site : IsSite m.site) (good : IsGoodPlan m) (pairs : Insertion) (insertion : IsInsertion m (route_events m r route) pairs) where
  -- the events of the route
  abbrev news : List Event
  news = route_events m r route

  -- the plan with the events of the route
  abbrev plan : List Event
  plan = m.plan ++ news

  -- what an event comes behind, with the pairs of the insertion
  abbrev by : Event → Event → Type 0
  by e f = IsBehindBy m pairs e f

  -- where the robots start
  abbrev start : Spots
  start = opening m.site m.starts

  -- the events of the route are those of its robot
  moving : (e : Event) → In e news → e.robot.0 ≡ r
  moving e i = numbered-robot m.next r (steps m.site route) e i

  -- the events of the plan with those of the route rise
  rises : IsAscending 1 plan
  rises = ascending-append 1 m.next m.plan news (let f = good.first in let o = good.opened in omega arith) good.next (from_one m good) (numbered-ascending m.next r (steps m.site route))

  -- what an event comes behind has a smaller number
  by_less : (e f : Event) → by e f → f.no.0 < e.no.0
  by_less e f (inl h) = h.1
  by_less e f (inr (inl h)) = awaited_less m.site.groups e f h.1
  by_less e f (inr (inr p)) = let h = news_high m r route e (insertion.new f e p) in let l = good.next f (insertion.planned f e p) in omega arith

  -- an event comes behind each earlier one of its robot
  by_own : (e f : Event) → f.robot.0 ≡ e.robot.0 → f.no.0 < e.no.0 → by e f
  by_own e f h l = inl (h, l)

  -- the orders of the plan before are orders beside the insertion
  old_order : (done order : List Event) → IsOrder (IsBehind m.site.groups) m.plan done order → IsOrder by plan done order
  old_order done [] h = tt
  old_order done (e ∷ es) h =
      (record { planned = In-append_left m.plan news h.0.planned; undone = h.0.undone; waited = λ f i b. waited f (In-append_cases m.plan news i) b }, old_order (done ++ e ∷ []) es h.1)
    where
      e_old : e.no.0 < m.next
      e_old = good.next e h.0.planned

      waited : (f : Event) → In f m.plan ⊎ In f news → by e f → is_done done f ≡ true
      waited f (inl i) (inl b) = h.0.waited f i (inl b)
      waited f (inl i) (inr (inl b)) = h.0.waited f i (inr b.1)
      waited f (inl i) (inr (inr p)) = let l = news_high m r route e (insertion.new f e p) in absurd (omega arith)
      waited f (inr i) b = let l = news_high m r route f i in let k = by_less e f b in absurd (omega arith)

  -- what is finished has a low number
  finished_low : (e : Event) → In e plan → m.next ≤ e.no.0 → is_done m.finished e ≡ false
  finished_low e i l = done_none m.finished e (λ g j n. let k = good.next g ((orders.order_kept (IsBehind m.site.groups) m.plan (from_one m good) (λ x y a b. inl (a, b)) [] m.finished (orders.kept_none (IsBehind m.site.groups) m.plan) good.finished).planned g j) in omega arith)

  -- what is done is of the plan, with all that it comes behind
  abbrev Kept : List Event → Type 0
  Kept done = orders.IsKept by plan done

  -- what is done by an order is of the plan with all that it comes behind
  kept_after : (order : List Event) → IsOrder by plan m.finished order → Kept (m.finished ++ order)
  kept_after order h = orders.order_kept by plan rises by_own m.finished order (orders.order_kept by plan rises by_own [] m.finished (orders.kept_none by plan) (old_order [] m.finished good.finished)) h

  own_old : (q : ℕ) → (r ≡ q → ⊥) → own q plan ≡ own q m.plan
  own_old q h = own-append q m.plan news ∙ (ap (λ es. own q m.plan ++ es) (own-numbered m.next r q (steps m.site route) h) ∙ append-nil (own q m.plan))

  -- a robot other than the newcomer is at its end where all its events are done
  at_end : (done : List Event) → Kept done → (q : ℕ) → (r ≡ q → ⊥) → ((g : Event) → In g m.plan → g.robot.0 ≡ q → is_done done g ≡ true) → (d : ClaimNo)
      → (replay start done q).holds d ≡ (after_kinds (start q) (kinds q m.plan)).holds d
  at_end done kept q apart all d =
      ap (λ (t : Spot). t.holds d) (replay_own start done q
      ∙ ap (λ es. after_kinds (start q) (map (λ (e : Event). e.kind) es)) (orders.all_own by plan rises by_own done q kept (λ g i s. elim (In-append_cases m.plan news i) [ inl j ↦ all g j s | inr j ↦ absurd (apart (sym (moving g j) ∙ s)) ]) ∙ own_old q apart))

  -- the event is not finished
  abbrev undone : Event → Bool
  undone e = not (is_done m.finished e)

  -- all unfinished events by number are an order
  everything : IsOrder by plan m.finished (filter undone plan)
  everything =
      filter_order by plan m.finished undone rises (λ e i t. not-true (is_done m.finished e) t)
      (λ e f i t j b. elim (cases_Bool (is_done m.finished f)) [ inl d ↦ inl d | inr d ↦ inr (not_from_false (is_done m.finished f) d, by_less e f b) ])

  -- no other robot holds what conflicts with an acquire that is free
  free_of : (spots : Spots) (e : Event) (c : ClaimNo) → e.kind ≡ Acquire c → IsFree m.site spots e.robot.0 e.kind → (q : ℕ) (d : ClaimNo) → q ≢ e.robot.0 → (spots q).holds d ≡ true → in_conflict m.site.groups c d ≡ true → ⊥
  free_of spots e c k free = let f : IsFree m.site spots e.robot.0 (Acquire c) = subst (λ x. IsFree m.site spots e.robot.0 x) k free in f

  -- a robot holds at its end what it holds there beside the blocked acquire
  stands_there : (c : ClaimNo) (q : ℕ) → (b : IsBlocker m r route c q) → (after_kinds (start q) (kinds q m.plan)).holds b.claim ≡ true
  stands_there c q b = end_held m is_site good q b.start b.claim b.starts b.holds

  -- with a blocker the insertion isn't safe
  pub blocked_unsafe : (c : ClaimNo) (q : ℕ) → IsBlocker m r route c q → IsSafeInsertion m news pairs → ⊥
  blocked_unsafe c q b safe = free_of (replay start done) e c kind placed.1 q b.claim (λ h. b.other (h ∙ moving e in_news)) held b.conflict
    where
      acquire : (e : Event) × In e news × (e.kind ≡ Acquire c)
      acquire = numbered-event m.next r (steps m.site route) (Acquire c) b.needed

      e : Event
      e = acquire.0

      in_news : In e news
      in_news = acquire.1

      kind : e.kind ≡ Acquire c
      kind = acquire.2

      split : (before : List Event) × (behind : List Event) × (news ≡ before ++ e ∷ behind)
      split = In_split news in_news

      front : List Event
      front = filter undone (m.plan ++ split.0)

      rest : List Event
      rest = filter undone split.1

      new_now : undone e ≡ true
      new_now = not_from_false (is_done m.finished e) (finished_low e (In-append_right m.plan news in_news) (news_high m r route e in_news))

      whole : filter undone plan ≡ front ++ e ∷ rest
      whole = ap (λ es. filter undone (m.plan ++ es)) split.2 ∙ (ap (λ es. filter undone es) (sym (append_assoc m.plan split.0 (e ∷ split.1))) ∙ (filter-append undone (m.plan ++ split.0) (e ∷ split.1) ∙ ap (λ es. front ++ es) (filter_in undone e split.1 new_now)))

      done : List Event
      done = m.finished ++ front

      placed : CanDo m.site (replay start done e.robot.0) e.kind × IsFree m.site (replay start done) e.robot.0 e.kind
      placed = legal_at m.site start done e rest (subst (λ es. IsLegal m.site start es) (ap (λ es. m.finished ++ es) whole ∙ sym (append_assoc m.finished front (e ∷ rest))) (safe (filter undone plan) everything))

      ordered : IsOrder by plan m.finished front
      ordered = orders.IsOrder_front by plan m.finished front (e ∷ rest) (subst (λ es. IsOrder by plan m.finished es) whole everything)

      done_there : (g : Event) → In g m.plan → (is_done m.finished g ≡ true) ⊎ (is_done m.finished g ≡ false) → is_done done g ≡ true
      done_there g i (inl d) = done_left m.finished front g d
      done_there g i (inr d) = done_right m.finished front g (done_in front (In-filter undone (m.plan ++ split.0) (In-append_left m.plan split.0 i) (not_from_false (is_done m.finished g) d)))

      held : (replay start done q).holds b.claim ≡ true
      held = at_end done (kept_after front ordered) q (λ h. b.other (sym h)) (λ g i s. done_there g i (cases_Bool (is_done m.finished g))) b.claim ∙ stands_there c q b

  -- an acquire e of the newcomer that comes while a release x of a conflicting claim, which is to come before it, isn't done
  module _ (safe : IsSafeInsertion m news pairs) (before : List Event) (e : Event) (ordered : IsOrder by plan m.finished (before ++ e ∷ [])) (in_news : In e news) (c d : ClaimNo) (kind : e.kind ≡ Acquire c)
      (x : Event) (x_planned : In x m.plan) (x_kind : x.kind ≡ Release d) (x_robot : x.robot.0 ≢ e.robot.0) (conflict : in_conflict m.site.groups c d ≡ true) (waiting : is_done (m.finished ++ before) x ≡ false) where
    -- what came, with the acquire
    abbrev whole : List Event
    whole = before ++ e ∷ []

    -- the old events that came, and all of lower number than x
    abbrev early : Event → Bool
    early f = not (is_done m.finished f) && (nat_lt f.no.0 m.next && (is_done whole f || nat_lt f.no.0 x.no.0))

    -- the event has a high number: it is of the route
    abbrev fresh : Event → Bool
    fresh f = not (nat_lt f.no.0 m.next)

    -- the old events that came early, by number
    abbrev olds : List Event
    olds = filter early plan

    -- what an early event is
    early_parts : (f : Event) → early f ≡ true → (is_done m.finished f ≡ false) × (f.no.0 < m.next) × ((is_done whole f ≡ true) ⊎ (f.no.0 < x.no.0))
    early_parts f t =
        let a = and_parts (not (is_done m.finished f)) (nat_lt f.no.0 m.next && (is_done whole f || nat_lt f.no.0 x.no.0)) t in
        let b = and_parts (nat_lt f.no.0 m.next) (is_done whole f || nat_lt f.no.0 x.no.0) a.1 in
        (not-true (is_done m.finished f) a.0, ltb-true f.no.0 m.next b.0, elim (or_cases (is_done whole f) (nat_lt f.no.0 x.no.0) b.1) [ inl w ↦ inl w | inr l ↦ inr (ltb-true f.no.0 x.no.0 l) ])

    -- which events are early
    early_from : (f : Event) → is_done m.finished f ≡ false → f.no.0 < m.next → (is_done whole f ≡ true) ⊎ (f.no.0 < x.no.0) → early f ≡ true
    early_from f u l w =
        and_from (not (is_done m.finished f)) (nat_lt f.no.0 m.next && (is_done whole f || nat_lt f.no.0 x.no.0)) (not_from_false (is_done m.finished f) u)
        (and_from (nat_lt f.no.0 m.next) (is_done whole f || nat_lt f.no.0 x.no.0) (lt-ltb f.no.0 m.next l)
        (elim w [ inl t ↦ or_left (is_done whole f) (nat_lt f.no.0 x.no.0) t | inr t ↦ or_right (is_done whole f) (nat_lt f.no.0 x.no.0) (lt-ltb f.no.0 x.no.0 t) ]))

    -- a fresh event has a high number
    fresh_parts : (f : Event) → fresh f ≡ true → m.next ≤ f.no.0
    fresh_parts f t = ltb-false f.no.0 m.next (not-true (nat_lt f.no.0 m.next) t)

    -- what an event that came comes behind came too, or was finished
    came_on : (f g : Event) → In f plan → is_done whole f ≡ true → In g plan → by f g → is_done m.finished g ≡ false → is_done whole g ≡ true
    came_on f g i w j b u =
        let kept : Kept (m.finished ++ whole) = kept_after whole ordered in
        elim (done_cases m.finished whole g (kept.closed f g (orders.In_done by plan rises by_own (m.finished ++ whole) kept f i (done_right m.finished whole f w)) j b))
        [ inl t ↦ absurd (both_ways (is_done m.finished g) u t) | inr t ↦ t ]

    -- what an early event comes behind is finished or early
    olds_closed : (f g : Event) → In f plan → early f ≡ true → In g plan → by f g → (is_done m.finished g ≡ true) ⊎ (is_done m.finished g ≡ false) → (is_done m.finished g ≡ true) ⊎ ((early g ≡ true) × (g.no.0 < f.no.0))
    olds_closed f g i t j b (inl t') = inl t'
    olds_closed f g i t j b (inr u) =
        let p = early_parts f t in
        let l = by_less f g b in
        inr (early_from g u (let k = p.1 in omega arith) (elim p.2 [ inl w ↦ inl (came_on f g i w j b u) | inr k ↦ inr (omega arith) ]), l)

    -- the early events by number are an order
    olds_order : IsOrder by plan m.finished olds
    olds_order = filter_order by plan m.finished early rises (λ f i t. (early_parts f t).0) (λ f g i t j b. olds_closed f g i t j b (cases_Bool (is_done m.finished g)))

    -- what was done in front of a fresh event is done in front of it here
    new_waited : (front : List Event) (rest : List Event) → whole ≡ front ++ rest → (f : Event) → In f plan → (is_done m.finished f ≡ true) ⊎ (is_done m.finished f ≡ false) → (nat_lt f.no.0 m.next ≡ true) ⊎ (nat_lt f.no.0 m.next ≡ false)
        → is_done (m.finished ++ front) f ≡ true → is_done (m.finished ++ (olds ++ filter fresh front)) f ≡ true
    new_waited front rest h f i (inl t) l w = done_left m.finished (olds ++ filter fresh front) f t
    new_waited front rest h f i (inr u) l w =
        done_right m.finished (olds ++ filter fresh front) f (placed l (elim (done_cases m.finished front f w) [ inl t ↦ absurd (both_ways (is_done m.finished f) u t) | inr t ↦ t ]))
      where
        placed : (nat_lt f.no.0 m.next ≡ true) ⊎ (nat_lt f.no.0 m.next ≡ false) → is_done front f ≡ true → is_done (olds ++ filter fresh front) f ≡ true
        placed (inl s) t = done_left olds (filter fresh front) f (done_in olds (In-filter early plan i (early_from f u (ltb-true f.no.0 m.next s) (inl (subst (λ es. is_done es f ≡ true) (sym h) (done_left front rest f t))))))
        placed (inr s) t =
            let g = done_event f front t in
            let same : g.0.no.0 ≡ f.no.0 = g.2 in
            done_right olds (filter fresh front) f (sym (done_same (filter fresh front) g.0 f same) ∙ done_in (filter fresh front) (In-filter fresh front g.1 (not_from_false (nat_lt g.0.no.0 m.next) (rw same s))))

    -- each fresh event that came is ready here
    new_ready : (front : List Event) (f : Event) (rest : List Event) → whole ≡ front ++ f ∷ rest → fresh f ≡ true → IsReady by plan (m.finished ++ (olds ++ filter fresh front)) f
    new_ready front f rest h t = record {
      planned = ready.planned;
      undone = done_neither m.finished (olds ++ filter fresh front) f parts.0 (done_neither olds (filter fresh front) f
          (done_none olds f (λ g i n. let l = (early_parts g (In_unfilter early plan i).1).1 in let k = fresh_parts f t in omega arith))
          (done_none (filter fresh front) f (λ g i n. both_ways (is_done front f) parts.1 (sym (done_same front g f n) ∙ done_in front (In_unfilter fresh front i).0))));
      waited = λ g i b. new_waited front (f ∷ rest) h g i (cases_Bool (is_done m.finished g)) (cases_Bool (nat_lt g.no.0 m.next)) (ready.waited g i b);
    }
      where
        ready : IsReady by plan (m.finished ++ front) f
        ready = (orders.IsOrder_rest by plan m.finished front (f ∷ rest) (subst (λ es. IsOrder by plan m.finished es) h ordered)).0

        parts : (is_done m.finished f ≡ false) × (is_done front f ≡ false)
        parts = done_parts m.finished front f ready.undone

    -- the order goes on over one more event that came, which is fresh or not
    news_step : (front : List Event) (f : Event) (rest : List Event) (b : Bool) → whole ≡ front ++ f ∷ rest → fresh f ≡ b → IsOrder by plan (m.finished ++ (olds ++ filter fresh (front ++ f ∷ []))) (filter fresh rest)
        → IsOrder by plan (m.finished ++ (olds ++ filter fresh front)) (cond b (f ∷ filter fresh rest) (filter fresh rest))
    news_step front f rest true h t more = (
      new_ready front f rest h t,
      subst (λ done. IsOrder by plan done (filter fresh rest))
          (ap (λ es. m.finished ++ (olds ++ es)) (filter-append fresh front (f ∷ []) ∙ ap (λ es. filter fresh front ++ es) (filter_in fresh f [] t))
          ∙ (ap (λ es. m.finished ++ es) (sym (append_assoc olds (filter fresh front) (f ∷ []))) ∙ sym (append_assoc m.finished (olds ++ filter fresh front) (f ∷ [])))) more,
    )
    news_step front f rest false h t more =
        subst (λ done. IsOrder by plan done (filter fresh rest))
        (ap (λ es. m.finished ++ (olds ++ es)) (filter-append fresh front (f ∷ []) ∙ (ap (λ es. filter fresh front ++ es) (filter_out fresh f [] t) ∙ append-nil (filter fresh front)))) more

    -- the fresh events that came are an order behind the early ones
    news_order : (front rest : List Event) → whole ≡ front ++ rest → IsOrder by plan (m.finished ++ (olds ++ filter fresh front)) (filter fresh rest)
    news_order front [] h = tt
    news_order front (f ∷ rest) h = news_step front f rest (fresh f) h refl (news_order (front ++ f ∷ []) rest (h ∙ sym (append_assoc front (f ∷ []) rest)))

    -- the old events that came early, and then the new ones that came
    abbrev came : List Event
    came = olds ++ filter fresh before

    last_fresh : filter fresh whole ≡ filter fresh before ++ e ∷ []
    last_fresh = filter-append fresh before (e ∷ []) ∙ ap (λ es. filter fresh before ++ es) (filter_in fresh e [] (not_from_false (nat_lt e.no.0 m.next) (le-ltb e.no.0 m.next (news_high m r route e in_news))))

    -- the early events, the fresh ones that came and the acquire are an order
    other_order : IsOrder by plan m.finished (came ++ e ∷ [])
    other_order = subst (λ es. IsOrder by plan m.finished es) (ap (λ es. olds ++ es) last_fresh ∙ sym (append_assoc olds (filter fresh before) (e ∷ [])))
        (orders.IsOrder-append by plan m.finished olds (filter fresh whole) olds_order (subst (λ es. IsOrder by plan (m.finished ++ es) (filter fresh whole)) (append-nil olds) (news_order [] whole refl)))

    -- the release is of the plan before
    x_low : x.no.0 < m.next
    x_low = good.next x x_planned

    -- the release has not come in this order
    x_waits : is_done (m.finished ++ came) x ≡ false
    x_waits = done_neither m.finished came x parts.0 (done_neither olds (filter fresh before) x
        (done_none olds x (λ g i n. not_early g n (early_parts g (In_unfilter early plan i).1).2))
        (done_none (filter fresh before) x (λ g i n. let l = fresh_parts g (In_unfilter fresh before i).1 in let k = x_low in omega arith)))
      where
        parts : (is_done m.finished x ≡ false) × (is_done before x ≡ false)
        parts = done_parts m.finished before x waiting

        not_last : is_done (e ∷ []) x ≡ true → ⊥
        not_last t = let g = done_event x (e ∷ []) t in In_either g.1 (λ i. let h = news_high m r route e in_news in let k = x_low in let s : g.0.no.0 ≡ x.no.0 = g.2 in omega (arith, ap (λ (y : Event). y.no.0) i)) (λ i. elim i [ ])

        not_early : (g : Event) → g.no.0 ≡ x.no.0 → (is_done whole g ≡ true) ⊎ (g.no.0 < x.no.0) → ⊥
        not_early g n (inl w) = elim (done_cases before (e ∷ []) x (sym (done_same whole g x n) ∙ w)) [ inl t ↦ both_ways (is_done before x) parts.1 t | inr t ↦ not_last t ]
        not_early g n (inr l) = omega arith

    -- all earlier events of its robot have
    x_next : (g : Event) → In g plan → g.robot.0 ≡ x.robot.0 → g.no.0 < x.no.0 → (is_done m.finished g ≡ true) ⊎ (is_done m.finished g ≡ false) → is_done (m.finished ++ came) g ≡ true
    x_next g i s l (inl t) = done_left m.finished came g t
    x_next g i s l (inr u) = let k = x_low in done_right m.finished came g (done_left olds (filter fresh before) g (done_in olds (In-filter early plan i (early_from g u (omega arith) (inr l)))))

    -- so the order is not legal, and there is no such acquire
    pub not_waiting : ⊥
    not_waiting = free_of (replay start done) e c kind placed.1 q d x_robot held conflict
      where
        q : ℕ
        q = x.robot.0

        done : List Event
        done = m.finished ++ came

        kept : Kept done
        kept = kept_after came (orders.IsOrder_front by plan m.finished came (e ∷ []) other_order)

        placed : CanDo m.site (replay start done e.robot.0) e.kind × IsFree m.site (replay start done) e.robot.0 e.kind
        placed = legal_at m.site start done e [] (subst (λ es. IsLegal m.site start es) (sym (append_assoc m.finished came (e ∷ []))) (safe (came ++ e ∷ []) other_order))

        next : (behind : List Event) × (own q plan ≡ own q done ++ x ∷ behind)
        next = orders.next_of by plan rises by_own done x kept (In-append_left m.plan news x_planned) x_waits (λ g i s l. x_next g i s l (cases_Bool (is_done m.finished g)))

        all : kinds q m.plan ≡ kinds q done ++ x.kind ∷ map (λ (y : Event). y.kind) next.0
        all = ap (λ es. map (λ (y : Event). y.kind) es) (sym (own_old q (λ h. x_robot (sym h ∙ sym (moving e in_news)))) ∙ next.1) ∙ map-append (λ (y : Event). y.kind) (own q done) (x ∷ next.0)

        can : CanDo m.site (after_kinds (start q) (kinds q done)) (Release d)
        can = subst (λ k. CanDo m.site (after_kinds (start q) (kinds q done)) k) x_kind (CanDoAll_at m.site (start q) (kinds q done) x.kind (map (λ (y : Event). y.kind) next.0) (subst (λ ks. CanDoAll m.site (start q) ks) all (able m is_site good q)))

        held : (replay start done q).holds d ≡ true
        held = ap (λ (t : Spot). t.holds d) (replay_own start done q) ∙ can
