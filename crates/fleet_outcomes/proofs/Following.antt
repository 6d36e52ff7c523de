-- The course of a robot, as the entries of a journal follow.
use Rattle.std.proofs.Common.{◌≡◌, ℕ, zero, suc, ◌+◌, ◌-◌, ◌^◌, ◌<◌, ◌≤◌, Bool, true, false, cond, not, ◌==◌, inl, inr, refl, sym, ap, ◌∙◌, subst, List, [], ◌∷◌, ◌++◌, length, take, drop, get_or, arith, Option, Some, None, eq-eqb}
use Rattle.std.proofs.lemmas.Bool.{cases_Bool, eqb-true}
use Rattle.std.proofs.lemmas.List.{append-nil, drop_more, length-append, take-append-drop, take_all, take_more}
use Rattle.std.proofs.lemmas.Option.{same_Some, slice_get_within}
use Rattle.std.specs.Prelude.{nat_le, slice_get, slice_set}
use Rattle.std.specs.List.{filter}
use Rattle.fleet_base.specs.declared.entries.Act.{Act}
use Rattle.fleet_base.specs.declared.entries.Act.TheVariants.{Merged, Deferred, Retried, Canceled, Withdrawn, Replanned, Reported}
use Rattle.fleet_base.specs.declared.entries.Entry.{Entry}
use Rattle.fleet_base.specs.declared.numbers.CellNo.{CellNo}
use Rattle.fleet_base.specs.declared.numbers.Event.{Event}
use Rattle.fleet_base.specs.declared.numbers.Kind.{Kind}
use Rattle.fleet_model.specs.Calls.{accepted, moved, turn, withdraw, withdraw_refusals}
use Rattle.fleet_model.specs.Good.{IsAscending, IsGood}
use Rattle.fleet_model.specs.Journals.{call_of, turn_at, IsJournal, state_after}
use Rattle.fleet_model.specs.Lists.{In, here, there}
use Rattle.fleet_model.specs.Plans.{Fleet, end_of, is_done, IsRemovableTail, IsRoute, merged, numbered, own, removable_tail, withdrawn}
use Rattle.fleet_model.specs.Deferral.{ends}
use Rattle.fleet_model.specs.Replays.{start_at}
use Rattle.fleet_model.specs.Sites.{Site, IsSite, last_cell, steps}
use Rattle.fleet_model.specs.States.{State, opening_state, pending_of}
use Rattle.fleet_model.proofs.Accepted.{told, unless_accepted}
use Rattle.fleet_model.proofs.Blockers.{ends_get, length-ends}
use Rattle.fleet_model.proofs.Changes.{Change, Grew, Kept, Dropped, Cut, Did, changed, CanChange, Tells}
use Rattle.fleet_model.proofs.Filters.{filter_all, filter_swap}
use Rattle.fleet_model.proofs.GoodStates.{accepts_at, journal_good}
use Rattle.fleet_model.proofs.Numbered.{length-numbered, own-numbered}
use Rattle.fleet_model.proofs.Numbers.{from_one, IsAscending-own, own-append, own_In}
use Rattle.fleet_model.proofs.Pending.{now_none, other_place, pending_cases}
use Rattle.fleet_model.proofs.Soundness.{journal_parts, state_after-append}
use Rattle.fleet_model.proofs.Tables.{ends-merged}
use Rattle.fleet_model.proofs.Tails.{tail_is}
use Rattle.fleet_model.proofs.Withdraw.{other_stays, own_left}
use Rattle.mission_model.specs.Stops.{Leg, Stop as PlainStop, last_number, last_stop, serve_along, serve_on, stops_after, stops_of}
use Rattle.mission_model.proofs.Journals.{journal_site}
use Rattle.mission_model.proofs.Serving.{stops_from-append}
use Rattle.plan_events.proofs.Routes.{walk_shape}
use Rattle.plan_events.specs.Shapes.{shape_cause}
use Rattle.fleet_outcomes.specs.declared.stops.Stop.{Stop}
use Rattle.fleet_outcomes.specs.declared.stops.Way.{Way}
use Rattle.fleet_outcomes.specs.Courses.{Course, AreStops, course_after, cut, first_course, grown, kept_along, MayFollow, way_of, way_pending}
use Rattle.fleet_outcomes.proofs.KeptStops.{stops_cut, stops_grow, stops_join}

-- the course of robot r at a state with these stops
pub record IsCourse (s : State) (r : ℕ) (at : List PlainStop) (course : Course) : Type 0 where
  pub stops : AreStops (own r s.fleet.plan) at course.stops
  pub events : course.events ≡ length (own r s.fleet.plan)
  pub pending : (route : List CellNo) → pending_of s r ≡ Some route → course.pending ≡ way_of s.fleet.site route

-- Few events.

-- rising numbers below a bound are few
few_below : (low next : ℕ) (es : List Event) → low ≤ next → IsAscending low es → ((e : Event) → In e es → e.no.0 < next) → low + length es ≤ next
few_below low next [] l h below = omega arith
few_below low next (e ∷ es) l h below =
    let b = below e (here refl) in
    let rest = few_below (e.no.0 + 1) next es (omega arith) h.1 (λ x i. below x (there i)) in
    let least = h.0 in
    omega arith

-- a robot has few events in a plan
pub own_few : (s : State) (r : ℕ) → IsGood s → length (own r s.fleet.plan) ≤ 2 ^ 62
own_few s r good =
    let n = few_below s.fleet.first s.fleet.next (own r s.fleet.plan) good.plan.opened (IsAscending-own r s.fleet.first s.fleet.plan good.plan.numbers) (λ e i. good.plan.next e (own_In r s.fleet.plan i).0) in
    let numbers = good.numbers in
    let total = good.total in
    omega arith

-- A route in the plan.

-- the events of a route are its robot's
own_numbered : (n r : ℕ) (ks : List Kind) → own r (numbered n r ks) ≡ numbered n r ks
own_numbered n r [] = refl
own_numbered n r (k ∷ ks) = rw (eq-eqb r r refl) (ap (λ zs. record { no = record { 0 = n }; robot = record { 0 = r }; kind = k } ∷ zs) (own_numbered (n + 1) r ks))

own_grown : (m : Fleet) (r : ℕ) (route : List CellNo) → own r (merged m r route).plan ≡ own r m.plan ++ numbered m.next r (steps m.site route)
own_grown m r route = own-append r m.plan (numbered m.next r (steps m.site route)) ∙ ap (λ es. own r m.plan ++ es) (own_numbered m.next r (steps m.site route))

set_there : (xs : List CellNo) (r : ℕ) (x : CellNo) → r < length xs → slice_get (slice_set xs r x) r ≡ Some x
set_there [] r x l = absurd (omega arith)
set_there (y ∷ ys) zero x l = refl
set_there (y ∷ ys) (suc r) x l = set_there ys r x (omega arith)

-- behind a merge of two cells at least a robot ends in the last one
merged_own_end : (m : Fleet) (r : ℕ) (a : CellNo) (bs : List CellNo) → r < length m.starts → 2 ≤ length (a ∷ bs) → end_of (merged m r (a ∷ bs)) r ≡ last_cell a bs
merged_own_end m r a bs known long =
    let l = length-ends m in
    same_Some (end_of (merged m r (a ∷ bs)) r) (last_cell a bs)
    (sym (ends_get (merged m r (a ∷ bs)) r known) ∙ (ap (λ es. slice_get es r) (ends-merged m r a bs long) ∙ set_there (ends m) r (last_cell a bs) (omega arith)))

-- a stop behind all events
stop_behind : (events : List Event) (stop : PlainStop) (kept : Stop) → kept.events ≡ length events → stop.number ≡ last_number 0 events → stop.cell ≡ kept.cell → AreStops events (stop ∷ []) (kept ∷ [])
stop_behind events stop kept long number cell = (omega arith, number ∙ ap (last_number 0) (sym (take_all kept.events events (omega arith))), cell, tt)

-- the course with the route in the plan
record IsGrown (s : State) (r : ℕ) (route : List CellNo) (at : List PlainStop) (course : Course) : Type 0 where
  stops : AreStops (own r (merged s.fleet r route).plan) (at ++ last_stop (merged s.fleet r route) r ∷ []) course.stops
  events : course.events ≡ length (own r (merged s.fleet r route).plan)

grows : (s : State) (r : ℕ) (route : List CellNo) (at : List PlainStop) (course : Course) (way : Way) → r < length s.fleet.starts → IsRoute s.fleet r route → way ≡ way_of s.fleet.site route → IsCourse s r at course → IsGrown s r route at (grown way course)
grows s r [] at course way known route is h = absurd (let l = route.long in omega arith)
grows s r (a ∷ bs) at course way known route is h =
    let cells : List CellNo = a ∷ bs in
    let more = numbered s.fleet.next r (steps s.fleet.site cells) in
    let all = own_grown s.fleet r cells in
    let long : course.events + way.events ≡ length (own r (merged s.fleet r cells).plan)
    = (let one = ap length all in
    let both = length-append (own r s.fleet.plan) more in
    let new = length-numbered s.fleet.next r (steps s.fleet.site cells) in
    let events = ap (λ (w : Way). w.events) is in
    let old = h.events in
    omega arith)
    in
    let stop : Stop = record { events = course.events + way.events; cell = way.end } in
    record {
      stops = stops_join (own r (merged s.fleet r cells).plan) at (last_stop (merged s.fleet r cells) r ∷ []) course.stops (stop ∷ [])
          (subst (λ es. AreStops es at course.stops) (sym all) (stops_grow (own r s.fleet.plan) more at course.stops h.stops))
          (stop_behind (own r (merged s.fleet r cells).plan) (last_stop (merged s.fleet r cells) r) stop long refl (merged_own_end s.fleet r a bs known route.long ∙ ap (λ (w : Way). w.end) (sym is)));
      events = long;
    }

-- Acts of the robot's own.

-- a withdrawal tells how many events it removes, and where the robot then ends
abbrev pub TellsCut : State → ℕ → Act → Type 0
TellsCut s r (Withdrawn removed end) = (removed ≡ length (removable_tail s.fleet r)) × (end ≡ end_of (withdrawn s.fleet (removable_tail s.fleet r)) r)
TellsCut s r (Merged route first) = Unit {0}
TellsCut s r (Deferred route cycle) = Unit {0}
TellsCut s r (Retried first) = Unit {0}
TellsCut s r Canceled = Unit {0}
TellsCut s r (Replanned route first) = Unit {0}
TellsCut s r (Reported event) = Unit {0}

tells_cut : (s : State) (entry : Entry) → (turn_at s entry).entry ≡ Some entry → TellsCut s entry.robot.0 entry.act
tells_cut s entry h = go entry.act refl
  where
    r : ℕ
    r = entry.robot.0

    tail : List Event
    tail = removable_tail s.fleet r

    fleet : Fleet
    fleet = withdrawn s.fleet tail

    go : (act : Act) → entry.act ≡ act → TellsCut s r act
    go (Withdrawn removed end) e =
        let gives : (withdraw s r).entry ≡ Some entry = ap (λ a. (turn s r (call_of a)).entry) (sym e) ∙ h in
        let is = unless_accepted (withdraw_refusals s r tail) s (accepted (record { removed = length tail; end = end_of fleet r }) r (Withdrawn (length tail) (end_of fleet r)) (moved s fleet r None)) entry gives in
        let same : Withdrawn removed end ≡ Withdrawn (length tail) (end_of fleet r) = sym e ∙ (told r (Withdrawn (length tail) (end_of fleet r)) entry is.told).1 in
        (cc, cc)
    go (Merged route first) e = tt
    go (Deferred route cycle) e = tt
    go (Retried first) e = tt
    go Canceled e = tt
    go (Replanned route first) e = tt
    go (Reported event) e = tt

-- a legal route has the shape of one
route_shape : (m : Fleet) (r : ℕ) (route cells : List CellNo) → IsSite m.site → IsRoute m r route → route ≡ cells → shape_cause m.site cells ≡ None
route_shape m r route cells is_site is same = subst (λ x. shape_cause m.site x ≡ None) same (walk_shape m.site is_site route is.long is.short is.linked)

module _ (s : State) (r : ℕ) (at : List PlainStop) (course : Course) (is_site : IsSite s.fleet.site) (good : IsGood s) (h : IsCourse s r at course) where
  tail_parts : IsRemovableTail s.fleet r (removable_tail s.fleet r)
  tail_parts = tail_is s.fleet r good.plan

  may_follow : (c : Change) (act : Act) → CanChange s r c → Tells s r c act → TellsCut s r act → MayFollow s.fleet.site act course
  may_follow (Grew route) (Merged cells first) can t w = route_shape s.fleet r route cells is_site can.1 t.0
  may_follow (Grew route) (Retried first) can t w = tt
  may_follow (Grew route) (Replanned cells first) can t w = route_shape s.fleet r route cells is_site can.1 t.0
  may_follow (Kept route) (Deferred cells cycle) can t w = route_shape s.fleet r route cells is_site can.1 t.0
  may_follow Dropped Canceled can t w = tt
  may_follow Cut (Withdrawn removed end) can t w =
      let parts = ap length tail_parts.splits in
      let both = length-append tail_parts.front (removable_tail s.fleet r) in
      let events = h.events in
      let told = w.0 in
      omega arith
  may_follow (Did e) (Reported event) can t w = tt
  may_follow c act can t w = absurd t

  -- with the route in the plan
  merges : (route : List CellNo) (way : Way) → CanChange s r (Grew route) → way ≡ way_of s.fleet.site route
      → IsCourse (changed s r (Grew route)) r (at ++ last_stop (changed s r (Grew route)).fleet r ∷ []) (grown way course)
  merges route way can is =
      let g = grows s r route at course way (slice_get_within s.fleet.starts r can.0.0 can.0.1) can.1 is h in
      record { stops = g.stops; events = g.events; pending = λ cells p. absurd (now_none s.pending r cells p) }

  -- without the tail
  cuts : (removed : ℕ) (end : CellNo) → removed ≡ length (removable_tail s.fleet r) → end ≡ end_of (withdrawn s.fleet (removable_tail s.fleet r)) r
      → IsCourse (changed s r Cut) r (stops_after (changed s r Cut).fleet r (Withdrawn removed end) at) (cut removed end course)
  cuts removed end told ends =
      let front = tail_parts.front in
      let tail = removable_tail s.fleet r in
      let left : own r (withdrawn s.fleet tail).plan ≡ front = own_left s.fleet r tail good.plan tail_parts in
      let rises : IsAscending 1 (front ++ tail) = subst (IsAscending 1) tail_parts.splits (IsAscending-own r 1 s.fleet.plan (from_one s.fleet good.plan)) in
      let old : AreStops (front ++ tail) at course.stops = subst (λ es. AreStops es at course.stops) tail_parts.splits h.stops in
      let kept = stops_cut front tail at course.stops rises old in
      let long : course.events - removed ≡ length front = (let parts = ap length tail_parts.splits in let both = length-append front tail in let events = h.events in omega arith) in
      let stop : PlainStop = record { number = last_number 0 front; cell = end_of (withdrawn s.fleet tail) r } in
      let all : AreStops front (filter (λ (x : PlainStop). nat_le x.number (last_number 0 front)) at ++ stop ∷ []) (filter (λ (k : Stop). nat_le k.events (length front)) course.stops ++ record { events = length front; cell = end } ∷ [])
      = stops_join front (filter (λ (x : PlainStop). nat_le x.number (last_number 0 front)) at) (stop ∷ []) (filter (λ (k : Stop). nat_le k.events (length front)) course.stops) (record { events = length front; cell = end } ∷ []) kept
      (stop_behind front stop (record { events = length front; cell = end }) refl refl (sym ends))
      in
      let counted : AreStops front (filter (λ (x : PlainStop). nat_le x.number (last_number 0 front)) at ++ stop ∷ []) (cut removed end course).stops
      = subst (λ n. AreStops front (filter (λ (x : PlainStop). nat_le x.number (last_number 0 front)) at ++ stop ∷ []) (filter (λ (k : Stop). nat_le k.events n) course.stops ++ record { events = n; cell = end } ∷ [])) (sym long) all in
      record {
        stops = subst (λ es. AreStops es (filter (λ (x : PlainStop). nat_le x.number (last_number 0 es)) at ++ record { number = last_number 0 es; cell = end_of (withdrawn s.fleet tail) r } ∷ []) (cut removed end course).stops) (sym left) counted;
        events = long ∙ ap length (sym left);
        pending = λ cells p. absurd (now_none s.pending r cells p);
      }

  -- an act of the robot's own
  own_act : (c : Change) (act : Act) → CanChange s r c → Tells s r c act → TellsCut s r act → IsCourse (changed s r c) r (stops_after (changed s r c).fleet r act at) (course_after s.fleet.site act course)
  own_act (Grew route) (Merged cells first) can t w = merges route (way_of s.fleet.site cells) can (ap (way_of s.fleet.site) (sym t.0))
  own_act (Grew route) (Retried first) can t w = merges route course.pending can (h.pending route t)
  own_act (Grew route) (Replanned cells first) can t w = merges route (way_of s.fleet.site cells) can (ap (way_of s.fleet.site) (sym t.0))
  own_act (Kept route) (Deferred cells cycle) can t w = record {
    stops = h.stops;
    events = h.events;
    pending = λ x p. elim (pending_cases s.pending r r (Some route) x p) [
      | inl a ↦ ap (way_of s.fleet.site) (sym t.0 ∙ same_Some route x a.1)
      | inr a ↦ absurd (a.0 refl)
    ];
  }
  own_act Dropped Canceled can t w = record { stops = h.stops; events = h.events; pending = λ cells p. absurd (now_none s.pending r cells p) }
  own_act Cut (Withdrawn removed end) can t w = cuts removed end w.0 w.1
  own_act (Did e) (Reported event) can t w = record { stops = h.stops; events = h.events; pending = h.pending }
  own_act c act can t w = absurd t

  -- an act of another robot
  same_own : (m : Fleet) → own r m.plan ≡ own r s.fleet.plan → AreStops (own r m.plan) at course.stops × (course.events ≡ length (own r m.plan))
  same_own m e = (subst (λ es. AreStops es at course.stops) (sym e) h.stops, h.events ∙ ap length (sym e))

  other_act : (q : ℕ) (c : Change) → (q ≡ r → ⊥) → IsCourse (changed s q c) r at course
  other_act q (Grew route) apart =
      let same = same_own (merged s.fleet q route) (own-append r s.fleet.plan (numbered s.fleet.next q (steps s.fleet.site route)) ∙ (ap (λ es. own r s.fleet.plan ++ es) (own-numbered s.fleet.next q r (steps s.fleet.site route) apart) ∙ append-nil (own r s.fleet.plan))) in
      record { stops = same.0; events = same.1; pending = λ cells p. h.pending cells (sym (other_place s.pending q r None apart) ∙ p) }
  other_act q (Kept route) apart = record { stops = h.stops; events = h.events; pending = λ cells p. h.pending cells (sym (other_place s.pending q r (Some route) apart) ∙ p) }
  other_act q Dropped apart = record { stops = h.stops; events = h.events; pending = λ cells p. h.pending cells (sym (other_place s.pending q r None apart) ∙ p) }
  other_act q Cut apart =
      let tail = removable_tail s.fleet q in
      let stay = other_stays s.fleet q tail good.plan (tail_is s.fleet q good.plan) in
      let same = same_own (withdrawn s.fleet tail) (
      filter_swap (λ (e : Event). e.robot.0 == r) (λ (e : Event). not (is_done tail e)) s.fleet.plan
      ∙ filter_all (λ (e : Event). not (is_done tail e)) (own r s.fleet.plan) (λ e i. let o = own_In r s.fleet.plan i in stay e o.0 (λ k. apart (sym k ∙ o.1)) (cases_Bool (not (is_done tail e)))))
      in
      record { stops = same.0; events = same.1; pending = λ cells p. h.pending cells (sym (other_place s.pending q r None apart) ∙ p) }
  other_act q (Did e) apart = record { stops = h.stops; events = h.events; pending = h.pending }

-- An entry of a journal.

module _ (s : State) (entry : Entry) (r : ℕ) (at : List PlainStop) (course : Course) (is_site : IsSite s.fleet.site) (good : IsGood s) (legal : (turn_at s entry).entry ≡ Some entry) (h : IsCourse s r at course) where
  -- the robot's own entry may follow
  pub entry_may : entry.robot.0 ≡ r → MayFollow s.fleet.site entry.act course
  entry_may own =
      let a = accepts_at s entry is_site good legal in
      may_follow s r at course is_site good h a.change entry.act (subst (λ q. CanChange s q a.change) own a.can) (subst (λ q. Tells s q a.change entry.act) own a.tells) (subst (λ q. TellsCut s q entry.act) own (tells_cut s entry legal))

  -- it gives the course behind it
  pub entry_own : entry.robot.0 ≡ r → IsCourse (turn_at s entry).after r (stops_after (turn_at s entry).after.fleet r entry.act at) (course_after s.fleet.site entry.act course)
  entry_own own =
      let a = accepts_at s entry is_site good legal in
      let c = own_act s r at course is_site good h a.change entry.act (subst (λ q. CanChange s q a.change) own a.can) (subst (λ q. Tells s q a.change entry.act) own a.tells) (subst (λ q. TellsCut s q entry.act) own (tells_cut s entry legal)) in
      let based : IsCourse (record (changed s r a.change) { base = a.base }) r (stops_after (changed s r a.change).fleet r entry.act at) (course_after s.fleet.site entry.act course)
      = record { stops = c.stops; events = c.events; pending = c.pending } in
      let is : (turn_at s entry).after ≡ record (changed s r a.change) { base = a.base } = a.after_is ∙ ap (λ q. record (changed s q a.change) { base = a.base }) own in
      subst (λ (t : State). IsCourse t r (stops_after t.fleet r entry.act at) (course_after s.fleet.site entry.act course)) (sym is) based

  -- another robot's entry leaves the course
  pub entry_other : (entry.robot.0 ≡ r → ⊥) → IsCourse (turn_at s entry).after r at course
  entry_other apart =
      let a = accepts_at s entry is_site good legal in
      let c = other_act s r at course is_site good h entry.robot.0 a.change apart in
      let based : IsCourse (record (changed s entry.robot.0 a.change) { base = a.base }) r at course = record { stops = c.stops; events = c.events; pending = c.pending } in
      subst (λ (t : State). IsCourse t r at course) (sym a.after_is) based

-- A journal.

-- the course of robot r behind the first n entries of a journal
abbrev pub IsAt : State → List Entry → ℕ → ℕ → Course → Type 0
IsAt o journal r n course = IsCourse (state_after o (take n journal)) r (stops_of o (take n journal) r) course

module _ (o : State) (journal : List Entry) (r : ℕ) (is_site : IsSite o.fleet.site) (good : IsGood o) (legal : IsJournal o journal) (items : List Entry) (same : items ≡ journal) (n : ℕ) (entry : Entry) (within : n < length items) (is : entry ≡ get_or items n entry) where
  -- the entries in front of this one, and the state that they reach
  abbrev done : List Entry
  done = take n journal

  abbrev before : State
  before = state_after o done

  below : n < length journal
  below = let long = ap length same in omega arith

  at_place : get_or journal n entry ≡ entry
  at_place = ap (λ xs. get_or xs n entry) (sym same) ∙ sym is

  more : take (n + 1) journal ≡ done ++ entry ∷ []
  more = take_more journal n entry below ∙ ap (λ x. done ++ x ∷ []) at_place

  parts : IsJournal o done × IsJournal before (drop n journal)
  parts = journal_parts o done (drop n journal) (subst (IsJournal o) (sym (take-append-drop n journal)) legal)

  here_told : (turn_at before entry).entry ≡ Some entry
  here_told =
      let rest : drop n journal ≡ entry ∷ drop (n + 1) journal = drop_more journal n entry below ∙ ap (λ x. x ∷ drop (n + 1) journal) at_place in
      let h : IsJournal before (entry ∷ drop (n + 1) journal) = subst (IsJournal before) rest parts.1 in
      h.0

  state_good : IsGood before × IsSite before.fleet.site
  state_good = journal_good o done is_site good parts.0

  -- the course behind one entry more, by whether it is the robot's own
  joined : (b : Bool) (course : Course) → (entry.robot.0 == r) ≡ b → IsCourse (turn_at before entry).after r (cond b (stops_after (turn_at before entry).after.fleet r entry.act (stops_of o done r)) (stops_of o done r)) course → IsAt o journal r (n + 1) course
  joined b course e c =
      let first : PlainStop = record { number = 0; cell = end_of o.fleet r } in
      let stops : stops_of o (done ++ entry ∷ []) r ≡ cond b (stops_after (turn_at before entry).after.fleet r entry.act (stops_of o done r)) (stops_of o done r)
      = stops_from-append o r (first ∷ []) done (entry ∷ []) ∙ ap (λ x. cond x (stops_after (turn_at before entry).after.fleet r entry.act (stops_of o done r)) (stops_of o done r)) e in
      let state : state_after o (done ++ entry ∷ []) ≡ (turn_at before entry).after = state_after-append o done (entry ∷ []) in
      let at_stops : IsCourse (turn_at before entry).after r (stops_of o (done ++ entry ∷ []) r) course = subst (λ st. IsCourse (turn_at before entry).after r st course) (sym stops) c in
      let at_state : IsCourse (state_after o (done ++ entry ∷ [])) r (stops_of o (done ++ entry ∷ []) r) course = subst (λ t. IsCourse t r (stops_of o (done ++ entry ∷ []) r) course) (sym state) at_stops in
      subst (λ (j : List Entry). IsCourse (state_after o j) r (stops_of o j r) course) (sym more) at_state

  -- the robot's own entry may follow, and its events are few
  pub may_at : (course : Course) → IsAt o journal r n course → (entry.robot.0 == r) ≡ true → MayFollow o.fleet.site entry.act course
  may_at course h own =
      subst (λ site. MayFollow site entry.act course) (journal_site o done is_site good parts.0) (entry_may before entry r (stops_of o done r) course state_good.1 state_good.0 here_told h (eqb-true entry.robot.0 r own))

  pub few_at : (course : Course) → IsAt o journal r n course → course.events ≤ 2 ^ 62
  few_at course h = let few = own_few before r state_good.0 in let events = h.events in omega arith

  pub own_at : (course : Course) → IsAt o journal r n course → (entry.robot.0 == r) ≡ true → IsAt o journal r (n + 1) (course_after o.fleet.site entry.act course)
  own_at course h own =
      joined true (course_after o.fleet.site entry.act course) own
      (subst (λ site. IsCourse (turn_at before entry).after r (stops_after (turn_at before entry).after.fleet r entry.act (stops_of o done r)) (course_after site entry.act course)) (journal_site o done is_site good parts.0)
      (entry_own before entry r (stops_of o done r) course state_good.1 state_good.0 here_told h (eqb-true entry.robot.0 r own)))

  pub other_at : (course : Course) → IsAt o journal r n course → (entry.robot.0 == r) ≡ false → IsAt o journal r (n + 1) course
  other_at course h apart =
      joined false course apart (entry_other before entry r (stops_of o done r) course state_good.1 state_good.0 here_told h (λ e. let t = eq-eqb entry.robot.0 r e in cc))

-- the course in front of all entries
pub first_at : (site : Site) (starts : List CellNo) (pending : List (Option (List CellNo))) (next cap : ℕ) (journal : List Entry) (r : ℕ) (start : CellNo) → slice_get starts r ≡ Some start
    → IsAt (opening_state site starts pending next cap) journal r 0 (first_course start (way_pending site (pending_of (opening_state site starts pending next cap) r)))
first_at site starts pending next cap journal r start at = record {
  stops = (omega arith, refl, ap (λ (x : Option CellNo). (start_at site x).cell) at, tt);
  events = refl;
  pending = λ route p. ap (way_pending site) p;
}

-- behind all entries the stops are those of the journal
pub stops_at : (o : State) (journal : List Entry) (r n : ℕ) (course : Course) → length journal ≤ n → IsAt o journal r n course → AreStops (own r (state_after o journal).fleet.plan) (stops_of o journal r) course.stops
stops_at o journal r n course past h =
    subst (λ (j : List Entry). AreStops (own r (state_after o j).fleet.plan) (stops_of o j r) course.stops) (take_all n journal past) h.stops

-- at kept stops as many legs are served
pub served_along : (legs : List Leg) (events : List Event) (count : ℕ) (stops : List PlainStop) (kept : List Stop) → AreStops events stops kept → kept_along legs count kept ≡ serve_along legs count stops
served_along legs events count [] [] h = refl
served_along legs events count [] (k ∷ ks) h = absurd h
served_along legs events count (s ∷ ss) [] h = absurd h
served_along legs events count (s ∷ ss) (k ∷ ks) h =
    ap (λ a. kept_along legs (serve_on legs a count) ks) (sym h.2) ∙ served_along legs events (serve_on legs s.cell count) ss ks h.3
