-- An accepted call makes a change that can be made, has room, and its entry tells of it.
use Rattle.std.proofs.Common.{zero, suc, ◌≡◌, ℕ, ◌+◌, ◌<◌, ◌≤◌, Bool, true, false, not, ◌==◌, ◌⊎◌, inl, inr, refl, sym, ap, ◌∙◌, subst, List, [], ◌∷◌, ◌++◌, length, arith, Option, Some, None}
use Rattle.std.proofs.lemmas.Bool.{both_ways, cases_Bool, not_from_true, not-true, not-false, not_from_false, ltb-true, ltb-false, eqb-true}
use Rattle.std.proofs.lemmas.Option.{same_Some}
use Rattle.std.specs.Prelude.{slice_get, nat_lt, nat_le, Ok}
use Rattle.std.specs.List.{filter}
use Rattle.std.proofs.lemmas.List.{length-append}
use Rattle.std.proofs.lemmas.List.Elements.{filter-append}
use Rattle.std.specs.Option.{is_some, is_none, option_map, option_and_then, unwrap_or}
use Rattle.fleet_base.specs.declared.entries.Act.{Act}
use Rattle.fleet_base.specs.declared.entries.Act.TheVariants.{Merged, Deferred, Retried, Canceled, Withdrawn, Replanned, Reported}
use Rattle.fleet_base.specs.declared.entries.Entry.{Entry}
use Rattle.fleet_base.specs.declared.answers.Block.{Block}
use Rattle.fleet_base.specs.declared.answers.Look.{Look}
use Rattle.fleet_base.specs.declared.answers.UnknownRobot.{UnknownRobot}
use Rattle.fleet_base.specs.declared.answers.Withdrawn.{Withdrawn as Removed}
use Rattle.fleet_base.specs.declared.numbers.CellNo.{CellNo}
use Rattle.fleet_base.specs.declared.numbers.Event.{Event}
use Rattle.fleet_base.specs.declared.numbers.EventNo.{EventNo}
use Rattle.fleet_model.specs.Lists.{In, here, when, first_some, has_cell}
use Rattle.fleet_model.specs.Sites.{Site, IsSite, is_linked, IsWalk, IsWalkFrom, needs, steps}
use Rattle.fleet_model.specs.Plans.{Fleet, own, unfinished, is_done, is_awaited, after, awaited, latest, IsBehind, IsReady, IsRoute, end_of, merged, route_events, removable_tail, withdrawn}
use Rattle.fleet_model.specs.Deferral.{ends, least_blocker}
use Rattle.fleet_model.specs.States.{State, is_robot, pending_of, pending_route, owed, is_full, base_behind, block_of}
use Rattle.fleet_model.specs.Calls.{Step, unless, unless_refused, propose_refusals, retry_refusals, cancel_refusals, withdraw_refusals, replan_refusals, report_refusals, accepted, moved, in_segment, with_route, deferring, merge_growth, first_of, first_unlinked, unlinked_at, begin_at, propose_growth, propose_outcome, propose, detour_of, next_event, waits_on, is_number, reported, span_of, retry, cancel, withdraw, replan, report, look_of, Call, Propose, Retry, Cancel, Withdraw, Replan, Report, LookAt, turn}
use Rattle.fleet_model.specs.Good.{IsAscending, IsGoodPlan, IsGood}
use Rattle.fleet_model.proofs.Lists.{In-nil, In_either, In-append_right, In-filter, In_unfilter, length_In, some_one}
use Rattle.fleet_model.proofs.Options.{not_none, none_of, map_none, map_some, when_none}
use Rattle.fleet_model.proofs.SameNumbers.{same_cell, same_number}
use Rattle.fleet_model.proofs.Numbers.{from_one, IsAscending-own, IsAscending-filter, own_In, In_own, low_bound, done_in, done_right, done_parts}
use Rattle.fleet_model.proofs.Leasts.{least_none}
use Rattle.fleet_model.proofs.Detours.{detour_route, detour_free}
use Rattle.fleet_model.proofs.Tails.{tail_is}
use Rattle.fleet_model.proofs.Blockers.{none_unblocked, found_blocks}
use Rattle.fleet_model.proofs.Deferrals.{pending_is}
use Rattle.fleet_model.proofs.Pending.{emptied_le, emptied_less, filled_le}
use Rattle.fleet_model.proofs.Filters.{filter_less, filter_misses, filter_swap, length-filter-le}
use Rattle.fleet_model.proofs.Numbered.{length-numbered}
use Rattle.fleet_model.proofs.Segments.{IsRoom, room_behind}
use Rattle.fleet_model.proofs.Changes.{HasStart, IsClear, Tells, Accepts, Grew, Kept, Dropped, Cut, Did}
use Rattle.fleet_base.specs.declared.answers.ReplanRefused.{ReplanRefused}
use Rattle.fleet_base.specs.declared.numbers.Span.{Span}
use Rattle.fleet_base.specs.declared.answers.CancelRefused.TheVariants as cancel_refused
use Rattle.fleet_base.specs.declared.answers.ProposeRefused.TheVariants as propose_refused
use Rattle.fleet_base.specs.declared.answers.ReplanRefused.TheVariants as replan_refused
use Rattle.fleet_base.specs.declared.answers.ReportRefused.TheVariants as report_refused
use Rattle.fleet_base.specs.declared.answers.RetryRefused.TheVariants as retry_refused
use Rattle.fleet_base.specs.declared.answers.WithdrawRefused.TheVariants as withdraw_refused

-- none of these is there
abbrev pub AllNone : {A : Type 0} → List (Option A) → Type 0
AllNone [] = Unit {0}
AllNone (o ∷ os) = (o ≡ None) × AllNone os

-- where no value is first, none is there
all_none : {A : Type 0} (os : List (Option A)) → first_some os ≡ None → AllNone os
all_none [] h = tt
all_none (None ∷ os) h = (refl, all_none os h)
all_none (Some x ∷ os) h = absurd (cc)

-- a step with an entry was not refused, and is the step itself
unless_cases : {A E : Type 0} (o : Option E) (s : State) (step : Step A E) (entry : Entry) → (unless_refused o s step).entry ≡ Some entry → (o ≡ None) × (step.entry ≡ Some entry) × (unless_refused o s step ≡ step)
unless_cases None s step entry h = (refl, h, refl)
unless_cases (Some e) s step entry h = absurd (cc)

-- a call that adds an entry wasn't refused
pub record IsAccepted {A E : Type 0} (refusals : List (Option E)) (s : State) (step : Step A E) (entry : Entry) : Type 0 where
  pub none : AllNone refusals
  pub told : step.entry ≡ Some entry
  pub is : unless refusals s step ≡ step

-- a call that adds an entry was not refused, for no reason of the list
pub unless_accepted : {A E : Type 0} (refusals : List (Option E)) (s : State) (step : Step A E) (entry : Entry) → (unless refusals s step).entry ≡ Some entry → IsAccepted refusals s step entry
unless_accepted refusals s step entry h =
    let u = unless_cases (first_some refusals) s step entry h in
    record { none = all_none refusals u.0; told = u.1; is = u.2 }

-- each number below the count of the starts has one
pub start_of : (starts : List CellNo) (r : ℕ) → r < length starts → (a : CellNo) × (slice_get starts r ≡ Some a)
start_of [] r h = absurd (omega arith)
start_of (a ∷ rest) zero h = (a, refl)
start_of (a ∷ rest) (suc r) h = start_of rest r (omega arith)

-- where the refusal of an unknown robot doesn't fit, the robot has a start
robot_start : {E : Type 0} (s : State) (r : ℕ) (e : E) → when (not (is_robot s r)) e ≡ None → HasStart s.fleet r
robot_start s r e h = start_of s.fleet.starts r (ltb-true r (length s.fleet.starts) (not-false (is_robot s r) (when_none (not (is_robot s r)) e h)))

-- where the refusal for want of a pending route doesn't fit, one is pending
pending_there : {E : Type 0} (s : State) (r : ℕ) (e : E) → when (is_none (pending_of s r)) e ≡ None → (old : List CellNo) × (pending_of s r ≡ Some old)
pending_there s r e h = not_none (pending_of s r) (when_none (is_none (pending_of s r)) e h)

-- where no missing link is found from a cell on, the cells are a walk from it
linked_walk : (site : Site) (at : ℕ) (a : CellNo) (bs : List CellNo) → first_unlinked site at a bs ≡ None → IsWalkFrom site a bs
linked_walk site at a [] h = tt
linked_walk site at a (b ∷ bs) h =
    let p = all_none (when (not (is_linked site a b)) at ∷ first_unlinked site (at + 1) b bs ∷ []) h in
    (not-false (is_linked site a b) (when_none (not (is_linked site a b)) at p.0), linked_walk site (at + 1) b bs p.1.0)

-- where no missing link is found, the cells are a walk
linked_all : (site : Site) (cells : List CellNo) → unlinked_at site cells ≡ None → IsWalk site cells
linked_all site [] h = tt
linked_all site (a ∷ bs) h = linked_walk site 1 a bs h

-- a route that begins at the cell, by the test, has it as its first cell
begins_there : (a : CellNo) (cells : List CellNo) → begin_at a cells ≡ true → slice_get cells 0 ≡ Some a
begins_there a [] h = absurd (both_ways false refl h)
begins_there a (b ∷ bs) h = ap (λ c. Some c) (sym (same_cell a b (eqb-true a.0 b.0 h)))

-- what holds where no refusal of a proposal fits
record IsProposal (s : State) (r : ℕ) (cells : List CellNo) (block : Option Block) : Type 0 where
  start : HasStart s.fleet r
  none : pending_of s r ≡ None
  route : IsRoute s.fleet r cells
  room : is_full s (propose_growth s cells block) ≡ false

-- a proposal that no refusal fits is of a robot with nothing pending, by a legal route, and has room
proposal : (s : State) (r : ℕ) (cells : List CellNo) (block : Option Block) → AllNone (propose_refusals s r cells block) → IsProposal s r cells block
proposal s r cells block none = record {
  start = robot_start s r propose_refused.UnknownRobot none.0;
  none = none_of (pending_of s r) (when_none (is_some (pending_of s r)) propose_refused.HasPending none.1.0);
  route = record {
    long = ltb-false (length cells) 2 (when_none (nat_lt (length cells) 2) propose_refused.Short none.1.1.0);
    short = ltb-false 1024 (length cells) (when_none (nat_lt 1024 (length cells)) propose_refused.TooLong none.1.1.1.0);
    linked = linked_all s.fleet.site cells (map_none (λ at. propose_refused.NoLink at) (unlinked_at s.fleet.site cells) none.1.1.1.1.1.0);
    begins = begins_there (end_of s.fleet r) cells (not-false (begin_at (end_of s.fleet r) cells) (when_none (not (begin_at (end_of s.fleet r) cells)) (propose_refused.BadStart (end_of s.fleet r)) none.1.1.1.1.1.1.0));
  };
  room = when_none (is_full s (propose_growth s cells block)) propose_refused.Full none.1.1.1.1.1.1.1.0;
}

-- what an accepted call's entry tells
pub told : (r : ℕ) (act : Act) (entry : Entry) → Some (record { robot = record { 0 = r }; act = act }) ≡ Some entry → (entry.robot.0 ≡ r) × (entry.act ≡ act)
told r act entry h = let e = same_Some (record { robot = record { 0 = r }; act = act }) entry h in (ap (λ (x : Entry). x.robot.0) (sym e), ap (λ (x : Entry). x.act) (sym e))

-- a report leaves one unfinished event less
done_fewer : (m : Fleet) (e : Event) → IsReady (IsBehind m.site.groups) m.plan m.finished e → length (unfinished (reported m (Some e))) + 1 ≤ length (unfinished m)
done_fewer m e ready =
    filter_less (λ f. not (is_done (m.finished ++ e ∷ []) f)) (λ f. not (is_done m.finished f)) m.plan e
    (λ f i h. not_from_false (is_done m.finished f) (done_parts m.finished (e ∷ []) f (not-true (is_done (m.finished ++ e ∷ []) f) h)).0)
    ready.planned
    (not_from_true (is_done (m.finished ++ e ∷ []) e) (done_right m.finished (e ∷ []) e (done_in (e ∷ []) (here refl))))
    (not_from_false (is_done m.finished e) ready.undone)

-- a withdrawal leaves fewer unfinished events
cut_fewer : (m : Fleet) (r : ℕ) → IsGoodPlan m → (e : Event) → In e (removable_tail m r) → length (unfinished (withdrawn m (removable_tail m r))) + 1 ≤ length (unfinished m)
cut_fewer m r good e i =
    let kept : Event → Bool = λ f. not (is_done (removable_tail m r) f) in
    let undone : Event → Bool = λ f. not (is_done m.finished f) in
    let is = tail_is m r good in
    let planned = own_In r m.plan (subst (λ es. In e es) (sym is.splits) (In-append_right is.front (removable_tail m r) i)) in
    rw (filter_swap undone kept m.plan)
    (filter_misses kept (unfinished m) e (In-filter undone m.plan planned.0 (not_from_false (is_done m.finished e) (is.undone e i))) (not_from_true (is_done (removable_tail m r) e) (done_in (removable_tail m r) i)))

-- room for a route whose pending place is emptied
unfinished-merged : (m : Fleet) (r : ℕ) (route : List CellNo) → length (unfinished (merged m r route)) ≤ length (unfinished m) + length (steps m.site route)
unfinished-merged m r route =
    let undone : Event → Bool = λ e. not (is_done m.finished e) in
    let parts = ap length (filter-append undone m.plan (route_events m r route)) ∙ length-append (filter undone m.plan) (filter undone (route_events m r route)) in
    let few = length-filter-le undone (route_events m r route) in
    let all = length-numbered m.next r (steps m.site route) in
    omega arith

-- an accepted proposal
pub accepts_propose : (s : State) (r : ℕ) (cells : List CellNo) (entry : Entry) → IsGood s → (propose s r cells).entry ≡ Some entry → Accepts s r entry (propose s r cells).after
accepts_propose s r cells entry good h = go (block_of (deferring s r cells) r cells) refl
  where
    blocked : Option Block
    blocked = block_of (deferring s r cells) r cells

    is : IsAccepted (propose_refusals s r cells blocked) s (propose_outcome s r cells blocked) entry
    is = unless_accepted (propose_refusals s r cells blocked) s (propose_outcome s r cells blocked) entry h

    facts : IsProposal s r cells blocked
    facts = proposal s r cells blocked is.none

    free : (o : Option Block) → blocked ≡ o → IsRoom s (propose_growth s cells o) (base_behind s (propose_growth s cells o))
    free o e = room_behind s (propose_growth s cells o) good.base (subst (λ o. is_full s (propose_growth s cells o) ≡ false) e facts.room)

    merge_less : owed (with_route s r cells) ≤ owed s + length (steps s.fleet.site cells)
    merge_less = let some = unfinished-merged s.fleet r cells in let pend = emptied_le s.pending r in omega arith

    go : (o : Option Block) → blocked ≡ o → Accepts s r entry (propose s r cells).after
    go None e =
        let t = told r (Merged cells (first_of s)) entry (subst (λ o. (propose_outcome s r cells o).entry ≡ Some entry) e is.told) in
        record {
          change = Grew cells;
          can = (facts.start, facts.route, none_unblocked s.fleet r cells (map_none _ (least_blocker s.fleet.site (ends s.fleet) r (needs s.fleet.site cells)) e));
          base = base_behind s (propose_growth s cells None);
          begun = (free None e).base;
          room = (let f = (free None e).segment in let l = merge_less in omega arith);
          total = (let f = (free None e).total in let l = merge_less in omega arith);
          after_is = ap (λ x. x.after) is.is ∙ ap (λ o. (propose_outcome s r cells o).after) e;
          robot = t.0;
          tells = subst (λ a. Tells s r (Grew cells) a) (sym t.1) (refl, facts.none);
        }
    go (Some block) e =
        let t = told r (Deferred cells block.cycle) entry (subst (λ o. (propose_outcome s r cells o).entry ≡ Some entry) e is.told) in
        let found = map_some (least_blocker s.fleet.site (ends s.fleet) r (needs s.fleet.site cells)) block e in
        record {
          change = Kept cells;
          can = (facts.none, facts.route, (found.0.0, found.0.1, found_blocks s.fleet r cells found.0 found.1));
          base = base_behind s (propose_growth s cells (Some block));
          begun = (free (Some block) e).base;
          room = (let f = (free (Some block) e).segment in let pend = filled_le s.pending r cells in omega arith);
          total = (let f = (free (Some block) e).total in let pend = filled_le s.pending r cells in omega arith);
          after_is = ap (λ x. x.after) is.is ∙ ap (λ o. (propose_outcome s r cells o).after) e;
          robot = t.0;
          tells = subst (λ a. Tells s r (Kept cells) a) (sym t.1) (refl, ap (λ (b : Block). b.cycle) (sym found.2));
        }

-- a pending route that is merged isn't owed any more
joined_less : (s : State) (r : ℕ) (route old : List CellNo) → pending_of s r ≡ Some old → 1 + owed (with_route s r route) ≤ owed s + merge_growth s route
joined_less s r route old pends =
    let some = unfinished-merged s.fleet r route in
    let pend = emptied_less s.pending r old pends in
    omega arith

-- an accepted retry
pub accepts_retry : (s : State) (r : ℕ) (entry : Entry) → IsGood s → (retry s r).entry ≡ Some entry → Accepts s r entry (retry s r).after
accepts_retry s r entry good h = record {
  change = Grew route;
  can = (robot_start s r retry_refused.UnknownRobot is.none.0, subst (λ x. IsRoute s.fleet r x) (sym (pending_is s r pends.0 pends.1)) (good.routes r pends.0 pends.1), clear);
  base = base_behind s (merge_growth s route);
  begun = free.base;
  room = (let f = free.segment in let l = joined_less s r route pends.0 pends.1 in omega arith);
  total = (let f = free.total in let l = joined_less s r route pends.0 pends.1 in omega arith);
  after_is = ap (λ x. x.after) is.is;
  robot = t.0;
  tells = subst (λ a. Tells s r (Grew route) a) (sym t.1) (pends.1 ∙ ap (λ x. Some x) (sym (pending_is s r pends.0 pends.1)));
}
  where
    route : List CellNo
    route = pending_route s r

    is : IsAccepted (retry_refusals s r route) s (accepted (span_of s route) r (Retried (first_of s)) (in_segment s (merge_growth s route) (with_route s r route))) entry
    is = unless_accepted (retry_refusals s r route) s (accepted (span_of s route) r (Retried (first_of s)) (in_segment s (merge_growth s route) (with_route s r route))) entry h

    free : IsRoom s (merge_growth s route) (base_behind s (merge_growth s route))
    free = room_behind s (merge_growth s route) good.base (when_none (is_full s (merge_growth s route)) retry_refused.Full is.none.1.1.1.0)

    pends : (old : List CellNo) × (pending_of s r ≡ Some old)
    pends = pending_there s r retry_refused.NoPending is.none.1.0

    clear : IsClear s.fleet r route
    clear = none_unblocked s.fleet r route (map_none _ (least_blocker s.fleet.site (ends s.fleet) r (needs s.fleet.site route)) (map_none (λ block. retry_refused.StillDeferred block) (block_of s r route) is.none.1.1.0))

    t : (entry.robot.0 ≡ r) × (entry.act ≡ Retried (first_of s))
    t = told r (Retried (first_of s)) entry is.told

-- the answer of a call that tells nothing more
abbrev pub nothing : Unit {0}
nothing = tt

-- an accepted cancel
pub accepts_cancel : (s : State) (r : ℕ) (entry : Entry) → IsGood s → (cancel s r).entry ≡ Some entry → Accepts s r entry (cancel s r).after
accepts_cancel s r entry good h =
    let is = unless_accepted (cancel_refusals s r) s (accepted nothing r Canceled (moved s s.fleet r None)) entry h in
    let pends = pending_there s r cancel_refused.NoPending is.none.1.0 in
    let t = told r Canceled entry is.told in
    record {
      change = Dropped;
      can = pends;
      base = s.base;
      begun = good.base;
      room = (let pend = emptied_less s.pending r pends.0 pends.1 in let fits = good.room in omega arith);
      total = (let pend = emptied_less s.pending r pends.0 pends.1 in let fits = good.total in omega arith);
      after_is = ap (λ x. x.after) is.is;
      robot = t.0;
      tells = subst (λ a. Tells s r Dropped a) (sym t.1) tt;
    }

-- what holds where a replan was accepted: it found this detour, and no refusal fits
pub record IsReplanned (s : State) (r : ℕ) (goal : CellNo → Bool) (entry : Entry) : Type 0 where
  pub route : List CellNo
  pub found : detour_of s.fleet r goal ≡ Some route
  pub none : AllNone (replan_refusals s r goal (Some route))
  pub robot : entry.robot.0 ≡ r
  pub act : entry.act ≡ Replanned route (first_of s)
  pub is : replan s r goal ≡ accepted (span_of s route) r (Replanned route (first_of s)) (in_segment s (merge_growth s route) (with_route s r route))

-- an accepted replan found a detour
pub replanned : (s : State) (r : ℕ) (goal : CellNo → Bool) (entry : Entry) → (replan s r goal).entry ≡ Some entry → IsReplanned s r goal entry
replanned s r goal entry h = go (detour_of s.fleet r goal) refl
  where
    done : List CellNo → Step Span ReplanRefused
    done route = accepted (span_of s route) r (Replanned route (first_of s)) (in_segment s (merge_growth s route) (with_route s r route))

    go : (o : Option (List CellNo)) → detour_of s.fleet r goal ≡ o → IsReplanned s r goal entry
    go o e = at o e (unless_accepted (replan_refusals s r goal o) s (done (unwrap_or o [])) entry (subst (λ x. (unless (replan_refusals s r goal x) s (done (unwrap_or x []))).entry ≡ Some entry) e h))
      where
        at : (o : Option (List CellNo)) → detour_of s.fleet r goal ≡ o → IsAccepted (replan_refusals s r goal o) s (done (unwrap_or o [])) entry → IsReplanned s r goal entry
        at None e is = absurd (let n = is.none.1.1.1.0 in cc)
        at (Some route) e is =
            let t = told r (Replanned route (first_of s)) entry is.told in
            record { route = route; found = e; none = is.none; robot = t.0; act = t.1; is = ap (λ x. unless (replan_refusals s r goal x) s (done (unwrap_or x []))) e ∙ is.is }

-- an accepted replan
pub accepts_replan : (s : State) (r : ℕ) (goal : CellNo → Bool) (entry : Entry) → IsSite s.fleet.site → IsGood s → (replan s r goal).entry ≡ Some entry → Accepts s r entry (replan s r goal).after
accepts_replan s r goal entry is_site good h =
    let p = replanned s r goal entry h in
    let pends = pending_there s r replan_refused.NoPending p.none.1.0 in
    let free = room_behind s (merge_growth s p.route) good.base (when_none (is_full s (merge_growth s p.route)) replan_refused.Full p.none.1.1.1.1.0) in
    record {
      change = Grew p.route;
      can = (
        robot_start s r replan_refused.UnknownRobot p.none.0,
        detour_route s.fleet r goal p.route is_site (when_none (goal (end_of s.fleet r)) replan_refused.AtGoal p.none.1.1.0) p.found,
        detour_free s.fleet r goal is_site p.route p.found,
      );
      base = base_behind s (merge_growth s p.route);
      begun = free.base;
      room = (let f = free.segment in let l = joined_less s r p.route pends.0 pends.1 in omega arith);
      total = (let f = free.total in let l = joined_less s r p.route pends.0 pends.1 in omega arith);
      after_is = ap (λ x. x.after) p.is;
      robot = p.robot;
      tells = subst (λ a. Tells s r (Grew p.route) a) (sym p.act) (refl, pends);
    }

-- an accepted withdrawal
pub accepts_withdraw : (s : State) (r : ℕ) (entry : Entry) → IsGood s → (withdraw s r).entry ≡ Some entry → Accepts s r entry (withdraw s r).after
accepts_withdraw s r entry good h = record {
  change = Cut;
  can = length_In tail some.0 some.1;
  base = s.base;
  begun = good.base;
  room = (let less = fewer in let fits = good.room in omega arith);
  total = (let less = fewer in let fits = good.total in omega arith);
  after_is = ap (λ x. x.after) is.is;
  robot = t.0;
  tells = subst (λ a. Tells s r Cut a) (sym t.1) tt;
}
  where
    tail : List Event
    tail = removable_tail s.fleet r

    fleet : Fleet
    fleet = withdrawn s.fleet tail

    answer : Removed
    answer = record { removed = length tail; end = end_of fleet r }

    is : IsAccepted (withdraw_refusals s r tail) s (accepted answer r (Withdrawn (length tail) (end_of fleet r)) (moved s fleet r None)) entry
    is = unless_accepted (withdraw_refusals s r tail) s (accepted answer r (Withdrawn (length tail) (end_of fleet r)) (moved s fleet r None)) entry h

    some : (e : Event) × In e tail
    some = some_one tail (when_none (length tail == 0) withdraw_refused.Nothing is.none.1.0)

    fewer : 1 + owed (moved s fleet r None) ≤ owed s
    fewer = let left = cut_fewer s.fleet r good.plan some.0 some.1 in let pend = emptied_le s.pending r in omega arith

    t : (entry.robot.0 ≡ r) × (entry.act ≡ Withdrawn (length tail) (end_of fleet r))
    t = told r (Withdrawn (length tail) (end_of fleet r)) entry is.told

-- the first of the robot's unfinished events
next_is : (m : Fleet) (r : ℕ) (e : Event) → next_event m r ≡ Some e → (rest : List Event) × (own r (unfinished m) ≡ e ∷ rest)
next_is m r e h = at_front (own r (unfinished m)) h
  where
    at_front : (es : List Event) → slice_get es 0 ≡ Some e → (rest : List Event) × (es ≡ e ∷ rest)
    at_front [] h = absurd (cc)
    at_front (f ∷ fs) h = (fs, ap (λ x. x ∷ fs) (same_Some f e h))

-- the next event of a robot that waits for nothing is ready
pub next_ready : (m : Fleet) (r : ℕ) (e : Event) → IsGoodPlan m → next_event m r ≡ Some e → waits_on m e ≡ None → (e.robot.0 ≡ r) × IsReady (IsBehind m.site.groups) m.plan m.finished e
next_ready m r e good h none = (of_robot.1, record { planned = planned.0; undone = not-true (is_done m.finished e) planned.1; waited = λ f i b. waited f i b (cases_Bool (is_done m.finished f)) })
  where
    undone : Event → Bool
    undone f = not (is_done m.finished f)

    first : (rest : List Event) × (own r (unfinished m) ≡ e ∷ rest)
    first = next_is m r e h

    of_robot : In e (unfinished m) × (e.robot.0 ≡ r)
    of_robot = own_In r (unfinished m) (subst (λ es. In e es) (sym first.1) (here refl))

    planned : In e m.plan × (undone e ≡ true)
    planned = In_unfilter undone m.plan of_robot.0

    rises : IsAscending 1 (e ∷ first.0)
    rises = subst (λ es. IsAscending 1 es) first.1 (IsAscending-own r 1 (unfinished m) (IsAscending-filter undone 1 m.plan (from_one m good)))

    none_awaited : awaited m e ≡ []
    none_awaited = least_none (λ (x y : Event). nat_le y.no.0 x.no.0) (awaited m e) (map_none (λ (f : Event). f.no) (latest (awaited m e)) none)

    waited : (f : Event) → In f m.plan → IsBehind m.site.groups e f → (is_done m.finished f ≡ true) ⊎ (is_done m.finished f ≡ false) → is_done m.finished f ≡ true
    waited f i b (inl d) = d
    waited f i (inl b) (inr d) =
        let left = In-filter undone m.plan i (not_from_false (is_done m.finished f) d) in
        let at = subst (λ es. In f es) first.1 (In_own r (unfinished m) left (b.0 ∙ of_robot.1)) in
        In_either at (λ k. let n = ap (λ (x : Event). x.no.0) k in let l = b.1 in absurd (omega arith)) (λ k. let n = low_bound (e.no.0 + 1) first.0 rises.1 k in let l = b.1 in absurd (omega arith))
    waited f i (inr b) (inr d) =
        absurd (In-nil (subst (λ es. In f es) none_awaited (In-filter undone (after m.site.groups m.plan e) (In-filter (is_awaited m.site.groups e) m.plan i b) (not_from_false (is_done m.finished f) d))))

-- an accepted report
pub accepts_report : (s : State) (r : ℕ) (n : EventNo) (entry : Entry) → IsGood s → (report s r n).entry ≡ Some entry → Accepts s r entry (report s r n).after
accepts_report s r n entry good h = go (next_event s.fleet r) refl
  where
    next : Option Event
    next = next_event s.fleet r

    is : IsAccepted (report_refusals s r n next) s (accepted nothing r (Reported n) (record s { fleet = reported s.fleet next; count = s.count + 1 })) entry
    is = unless_accepted (report_refusals s r n next) s (accepted nothing r (Reported n) (record s { fleet = reported s.fleet next; count = s.count + 1 })) entry h

    t : (entry.robot.0 ≡ r) × (entry.act ≡ Reported n)
    t = told r (Reported n) entry is.told

    numbered_so : is_number next n ≡ true
    numbered_so = not-false (is_number next n) (when_none (not (is_number next n)) (report_refused.NotNext (option_map (λ e. e.no) next)) is.none.1.0)

    go : (o : Option Event) → next ≡ o → Accepts s r entry (report s r n).after
    go None e = absurd (both_ways false refl (subst (λ o. is_number o n ≡ true) e numbered_so))
    go (Some event) e =
        let ready = next_ready s.fleet r event good.plan e (map_none (λ on. report_refused.Early on) (waits_on s.fleet event) (subst (λ o. option_map (λ on. report_refused.Early on) (option_and_then (waits_on s.fleet) o) ≡ None) e is.none.1.1.0)) in
        record {
          change = Did event;
          can = ready;
          base = s.base;
          begun = good.base;
          room = (let fewer = done_fewer s.fleet event ready.1 in let fits = good.room in omega arith);
          total = (let fewer = done_fewer s.fleet event ready.1 in let fits = good.total in omega arith);
          after_is = ap (λ x. x.after) is.is ∙ ap (λ o. record s { fleet = reported s.fleet o; count = s.count + 1 }) e;
          robot = t.0;
          tells = subst (λ a. Tells s r (Did event) a) (sym t.1) (same_number event.no n (eqb-true event.no.0 n.0 (subst (λ o. is_number o n ≡ true) e numbered_so)));
        }

-- a look adds no entry
pub no_entry : (s : State) (r : ℕ) (b : Bool) (refused : UnknownRobot) (entry : Entry) → (unless {A = Look} (when b refused ∷ []) s (record { answer = Ok (look_of s r); entry = None; after = s })).entry ≡ Some entry → ⊥
no_entry s r true refused entry e = absurd (cc)
no_entry s r false refused entry e = absurd (cc)

-- what an accepted call did
pub accepts : (s : State) (r : ℕ) (call : Call) (entry : Entry) → IsSite s.fleet.site → IsGood s → (turn s r call).entry ≡ Some entry → Accepts s r entry (turn s r call).after
accepts s r (Propose cells) entry is_site good h = accepts_propose s r cells entry good h
accepts s r Retry entry is_site good h = accepts_retry s r entry good h
accepts s r Cancel entry is_site good h = accepts_cancel s r entry good h
accepts s r Withdraw entry is_site good h = accepts_withdraw s r entry good h
accepts s r (Replan cells) entry is_site good h = accepts_replan s r (has_cell cells) entry is_site good h
accepts s r (Report n) entry is_site good h = accepts_report s r n entry good h
accepts s r LookAt entry is_site good h = absurd (no_entry s r (not (is_robot s r)) (record {}) entry h)
