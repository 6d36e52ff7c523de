-- A report leaves a robot that can't go on, and that it doesn't free, unable to go on.
use Rattle.std.proofs.Common.{◌≡◌, ◌≢◌, ℕ, ◌+◌, Bool, true, false, not, ◌&&◌, ◌||◌, ◌==◌, refl, sym, ap, ◌∙◌, subst, List, [], ◌∷◌, ◌++◌, length, arith, Option, Some, None}
use Rattle.std.proofs.lemmas.Bool.{both_ways, eqb-true, ne_eqb, not-true, not_from_false, or_from}
use Rattle.std.specs.Prelude.{nat_le, nat_lt, slice_get}
use Rattle.std.specs.List.{filter}
use Rattle.std.specs.Option.{is_some, is_none, option_map, option_and_then, unwrap_or}
use Rattle.fleet_base.specs.declared.answers.Block.{Block}
use Rattle.fleet_base.specs.declared.answers.ProposeRefused.{ProposeRefused}
use Rattle.fleet_base.specs.declared.answers.ProposeRefused.TheVariants as propose_refused
use Rattle.fleet_base.specs.declared.answers.ReplanRefused.{ReplanRefused}
use Rattle.fleet_base.specs.declared.answers.ReplanRefused.TheVariants as replan_refused
use Rattle.fleet_base.specs.declared.answers.RetryRefused.{RetryRefused}
use Rattle.fleet_base.specs.declared.answers.RetryRefused.TheVariants as retry_refused
use Rattle.fleet_base.specs.declared.entries.Act.{Act}
use Rattle.fleet_base.specs.declared.entries.Act.TheVariants.{Merged, Deferred, Retried, Canceled, Withdrawn, Replanned, Reported}
use Rattle.fleet_base.specs.declared.entries.Entry.{Entry}
use Rattle.fleet_base.specs.declared.limits.TheConstants.{MAX_COUNT}
use Rattle.fleet_base.specs.declared.numbers.CellNo.{CellNo}
use Rattle.fleet_base.specs.declared.numbers.Event.{Event}
use Rattle.fleet_base.specs.declared.numbers.EventNo.{EventNo}
use Rattle.fleet_model.specs.Lists.{In, here, there, has_cell, when, first_some, least}
use Rattle.fleet_model.specs.Sites.{IsSite}
use Rattle.fleet_model.specs.Plans.{Fleet, IsReady, IsBehind, after, awaited, end_of, is_done, latest, own, unfinished}
use Rattle.fleet_model.specs.States.{State, block_of, is_full, is_past, is_robot, owed, pending_of, pending_route}
use Rattle.fleet_model.specs.Calls.{Call, Propose, Retry, Cancel, Withdraw, Replan, Report, LookAt, Step, accepted, deferring, detour_of, first_of, first_unlinked, in_segment, merge_growth, next_event, propose, propose_growth, propose_outcome, propose_refusals, begin_at, replan, replan_refusals, report, report_refusals, reported, retry, retry_refusals, span_of, turn, unknown_at, unless, unless_refused, unlinked_at, waits_on, with_route}
use Rattle.fleet_model.specs.Good.{IsGood}
use Rattle.fleet_model.specs.Journals.{call_of, turn_at, IsJournal, state_after}
use Rattle.fleet_model.proofs.Accepted.{nothing, unless_accepted}
use Rattle.fleet_model.proofs.Changes.{Change, Grew, Kept, Dropped, Cut, Did, changed, CanChange, Tells}
use Rattle.fleet_model.proofs.Filters.{filter_all, filter_swap}
use Rattle.fleet_model.proofs.GoodStates.{accepts_at, journal_good}
use Rattle.fleet_model.proofs.Lists.{In-filter, In_unfilter}
use Rattle.fleet_model.proofs.Options.{none_of}
use Rattle.fleet_model.proofs.Numbers.{done_neither, from_one, one_event, own_In}
use Rattle.fleet_model.proofs.Room.{report_owes}
use Rattle.fleet_model.proofs.Tables.{unfinished-reported}
use Rattle.mission_model.specs.declared.doing.Doing.{Doing}
use Rattle.mission_model.specs.declared.doing.Doing.TheVariants as doing
use Rattle.mission_model.specs.Stops.{Leg, Missions, legs_of, next_leg}
use Rattle.mission_model.specs.Policies.{ready_event as found_ready, is_free, is_on_cycle, call_for, doing_of, policy_act, policy_entry, can_go_on, route_to, detour_to}
use Rattle.mission_model.specs.Waiting.{WaitsFor}
use Rattle.mission_model.proofs.Journals.{last_told, state_more}
use Rattle.mission_model.proofs.PolicyCalls.{policy_call}
use Rattle.mission_model.proofs.Serving.{served_by_others}

-- What a report did.

-- the robot's event of this number was ready, and is reported in the state behind
record DidReport (s : State) (r : ℕ) (n : EventNo) (after : State) : Type 0 where
  event : Event
  robot : event.robot.0 ≡ r
  number : event.no ≡ n
  ready : IsReady (IsBehind s.fleet.site.groups) s.fleet.plan s.fleet.finished event
  after_is : after ≡ record s { fleet = reported s.fleet (Some event); count = s.count + 1 }

-- a report leaves the base of the segment
reported_base : (s : State) (r : ℕ) (n : EventNo) (entry : Entry) → (report s r n).entry ≡ Some entry → (report s r n).after.base ≡ s.base
reported_base s r n entry h =
    let next = next_event s.fleet r in
    ap (λ x. x.after.base) (unless_accepted (report_refusals s r n next) s (accepted nothing r (Reported n) (record s { fleet = reported s.fleet next; count = s.count + 1 })) entry h).is

did_report : (s : State) (entry : Entry) (n : EventNo) → IsSite s.fleet.site → IsGood s → entry.act ≡ Reported n → (turn_at s entry).entry ≡ Some entry → DidReport s entry.robot.0 n (turn_at s entry).after
did_report s entry n is_site good is told =
    let a = accepts_at s entry is_site good told in
    let r = entry.robot.0 in
    let base : (turn_at s entry).after.base ≡ s.base
    = ap (λ x. (turn s r (call_of x)).after.base) is ∙ reported_base s r n entry (subst (λ x. (turn s r (call_of x)).entry ≡ Some entry) is told) in
    go r a.change a.can (subst (Tells s r a.change) is a.tells) a.base a.after_is (sym (ap (λ (t : State). t.base) a.after_is) ∙ base)
  where
    go : (r : ℕ) (c : Change) → CanChange s r c → Tells s r c (Reported n) → (b : ℕ) → (turn_at s entry).after ≡ record (changed s r c) { base = b } → b ≡ s.base → DidReport s r n (turn_at s entry).after
    go r (Did e) can tells b is same = record { event = e; robot = can.0; number = tells; ready = can.1; after_is = is ∙ ap (λ k. record s { fleet = reported s.fleet (Some e); count = s.count + 1; base = k }) same }
    go r (Grew route) can tells b is same = absurd tells
    go r (Kept route) can tells b is same = absurd tells
    go r Dropped can tells b is same = absurd tells
    go r Cut can tells b is same = absurd tells

-- Events that are ready.

first_In : (es : List Event) (e : Event) → slice_get es 0 ≡ Some e → In e es
first_In [] e h = absurd (cc)
first_In (f ∷ fs) e h = here (cc)

-- a list with an event has a latest one
latest_there : (es : List Event) (f : Event) → In f es → (g : Event) × (latest es ≡ Some g)
latest_there [] f i = elim i [ ]
latest_there (e ∷ es) f i = (_, refl)

-- no event of a robot is ready that waits, or has none
waits_unready : (m : Fleet) (q : ℕ) (on : EventNo) → WaitsFor m q on → found_ready m q ≡ None
waits_unready m q on w =
    let l = latest_there (awaited m w.event) w.release w.awaited in
    ap (option_and_then (λ (x : Event). when (is_none (waits_on m x)) x)) w.next
    ∙ ap (λ o. when (is_none (option_map (λ (f : Event). f.no) o)) w.event) l.1

none_unready : (m : Fleet) (q : ℕ) → next_event m q ≡ None → found_ready m q ≡ None
none_unready m q h = ap (option_and_then (λ (x : Event). when (is_none (waits_on m x)) x)) h

-- Acceptance.

-- a step that was refused is refused for the same refusals
still_refused : {A E : Type 0} (old new : List (Option E)) (s t : State) (before after : Step A E) (entry : Entry) → new ≡ old → before.entry ≡ Some entry → (unless old s before).entry ≡ None → (unless new t after).entry ≡ None
still_refused {A} {E} old new s t before after entry same told h = go (first_some old) refl h
  where
    go : (o : Option E) → first_some old ≡ o → (unless_refused o s before).entry ≡ None → (unless new t after).entry ≡ None
    go None e k = absurd (let n = sym told ∙ k in cc)
    go (Some x) e k = ap (λ o. (unless_refused o t after).entry) (ap first_some same ∙ e)

module _ (s : State) (good : IsGood s) (e : Event) (ready : IsReady (IsBehind s.fleet.site.groups) s.fleet.plan s.fleet.finished e) (q : ℕ) (apart : e.robot.0 ≡ q → ⊥) where
  -- the state behind the report
  abbrev behind : State
  behind = record s { fleet = reported s.fleet (Some e); count = s.count + 1 }

  -- another robot keeps its unfinished events
  own_same : own q (unfinished behind.fleet) ≡ own q (unfinished s.fleet)
  own_same =
      ap (own q) (unfinished-reported s.fleet e)
      ∙ (filter_swap (λ (f : Event). f.robot.0 == q) (λ (f : Event). not (f.no.0 == e.no.0)) (unfinished s.fleet)
      ∙ filter_all (λ (f : Event). not (f.no.0 == e.no.0)) (own q (unfinished s.fleet)) (λ f i. not_from_false (f.no.0 == e.no.0) (ne_eqb f.no.0 e.no.0 (other f i))))
    where
      other : (f : Event) → In f (own q (unfinished s.fleet)) → f.no.0 ≡ e.no.0 → ⊥
      other f i same =
          let o = own_In q (unfinished s.fleet) i in
          let u = In_unfilter (λ (g : Event). not (is_done s.fleet.finished g)) s.fleet.plan o.0 in
          let one = one_event 1 s.fleet.plan (from_one s.fleet good.plan) u.0 ready.planned same in
          apart (sym (ap (λ (g : Event). g.robot.0) one) ∙ o.1)

  next_same : next_event behind.fleet q ≡ next_event s.fleet q
  next_same = ap (λ es. slice_get es 0) own_same

  -- it waits as before, where it waits for another event
  pub waits_still : (on : EventNo) → on ≢ e.no → WaitsFor s.fleet q on → WaitsFor behind.fleet q on
  waits_still on ne w =
      let u = In_unfilter (λ (f : Event). not (is_done s.fleet.finished f)) (after s.fleet.site.groups s.fleet.plan w.event) w.awaited in
      let undone = not-true (is_done s.fleet.finished w.release) u.1 in
      let not_it = or_from (e.no.0 == w.release.no.0) false (ne_eqb e.no.0 w.release.no.0 (λ same. ne (sym w.number ∙ (λ i. record { 0 = sym same i })))) refl in
      record {
        event = w.event;
        next = next_same ∙ w.next;
        release = w.release;
        awaited = In-filter (λ (f : Event). not (is_done behind.fleet.finished f)) (after s.fleet.site.groups s.fleet.plan w.event) u.0
            (not_from_false (is_done behind.fleet.finished w.release) (done_neither s.fleet.finished (e ∷ []) w.release undone not_it));
        number = w.number;
      }

  pub none_still : next_event s.fleet q ≡ None → next_event behind.fleet q ≡ None
  none_still h = next_same ∙ h

  module _ (left : unfinished behind.fleet ≢ []) where
    some_test : (es : List Event) → (es ≡ [] → ⊥) → not (length es == 0) ≡ true
    some_test [] h = absurd (h refl)
    some_test (x ∷ xs) h = not_from_false (length (x ∷ xs) == 0) (ne_eqb (length (x ∷ xs)) 0 (λ z. absurd (omega arith)))

    left_before : unfinished s.fleet ≢ []
    left_before h = left (unfinished-reported s.fleet e ∙ ap (filter (λ (f : Event). not (f.no.0 == e.no.0))) h)

    sum_same : behind.count + owed behind ≡ s.count + owed s
    sum_same = let r = report_owes s e good ready in omega arith

    -- there is no other room
    full_same : (growth : ℕ) → is_full behind growth ≡ is_full s growth
    full_same growth =
        (λ i. nat_lt MAX_COUNT (sum_same i + growth) || (nat_lt (s.base + s.cap) (sum_same i + growth) && (some_test (unfinished behind.fleet) left i || nat_lt s.cap (owed behind + growth))))
        ∙ (λ i. nat_lt MAX_COUNT (s.count + owed s + growth) || (nat_lt (s.base + s.cap) (s.count + owed s + growth) && (sym (some_test (unfinished s.fleet) left_before) i || nat_lt s.cap (owed s + growth))))

    propose_still : (cells : List CellNo) → (propose s q cells).entry ≡ None → (propose behind q cells).entry ≡ None
    propose_still cells h = go (block_of (deferring s q cells) q cells) h
      where
        go : (b : Option Block) → (unless (propose_refusals s q cells b) s (propose_outcome s q cells b)).entry ≡ None → (unless (propose_refusals behind q cells b) behind (propose_outcome behind q cells b)).entry ≡ None
        go b k = still_refused (propose_refusals s q cells b) (propose_refusals behind q cells b) s behind (propose_outcome s q cells b) (propose_outcome behind q cells b) (told b).0
            (λ i. when (not (is_robot s q)) propose_refused.UnknownRobot
            ∷ when (is_some (pending_of s q)) propose_refused.HasPending
            ∷ when (nat_lt (length cells) 2) propose_refused.Short
            ∷ when (nat_lt 1024 (length cells)) propose_refused.TooLong
            ∷ option_map (λ at. propose_refused.UnknownCell at) (unknown_at s.fleet.site cells)
            ∷ option_map (λ at. propose_refused.NoLink at) (unlinked_at s.fleet.site cells)
            ∷ when (not (begin_at (end_of s.fleet q) cells)) (propose_refused.BadStart (end_of s.fleet q))
            ∷ when (full_same (propose_growth s cells b) i) propose_refused.Full
            ∷ [])
            (told b).1 k
          where
            told : (b : Option Block) → (x : Entry) × ((propose_outcome s q cells b).entry ≡ Some x)
            told None = (_, refl)
            told (Some block) = (_, refl)

    retry_still : (retry s q).entry ≡ None → (retry behind q).entry ≡ None
    retry_still h =
        let route = pending_route s q in
        still_refused (retry_refusals s q route) (retry_refusals behind q route) s behind
        (accepted (span_of s route) q (Retried (first_of s)) (in_segment s (merge_growth s route) (with_route s q route)))
        (accepted (span_of behind route) q (Retried (first_of behind)) (in_segment behind (merge_growth behind route) (with_route behind q route)))
        (record { robot = record { 0 = q }; act = Retried (first_of s) })
        (λ i. when (not (is_robot s q)) retry_refused.UnknownRobot
        ∷ when (is_none (pending_of s q)) retry_refused.NoPending
        ∷ option_map (λ block. retry_refused.StillDeferred block) (block_of s q route)
        ∷ when (full_same (merge_growth s route) i) retry_refused.Full
        ∷ [])
        refl h

    replan_still : (goal : CellNo → Bool) → (replan s q goal).entry ≡ None → (replan behind q goal).entry ≡ None
    replan_still goal h =
        let detour = detour_of s.fleet q goal in
        let route = unwrap_or detour [] in
        still_refused (replan_refusals s q goal detour) (replan_refusals behind q goal detour) s behind
        (accepted (span_of s route) q (Replanned route (first_of s)) (in_segment s (merge_growth s route) (with_route s q route)))
        (accepted (span_of behind route) q (Replanned route (first_of behind)) (in_segment behind (merge_growth behind route) (with_route behind q route)))
        (record { robot = record { 0 = q }; act = Replanned route (first_of s) })
        (λ i. when (not (is_robot s q)) replan_refused.UnknownRobot
        ∷ when (is_none (pending_of s q)) replan_refused.NoPending
        ∷ when (goal (end_of s.fleet q)) replan_refused.AtGoal
        ∷ when (is_none detour) replan_refused.NoDetour
        ∷ when (full_same (merge_growth s route) i) replan_refused.Full
        ∷ [])
        refl h

    -- a call that is no report is still refused
    call_still : (leg : Option Leg) (d : Doing) (call : Call) → ((n : EventNo) → d ≡ doing.Report n → ⊥) → call_for s q leg d ≡ Some call → (turn s q call).entry ≡ None → (turn behind q call).entry ≡ None
    call_still leg d (Propose cells) none is h = propose_still cells h
    call_still leg d Retry none is h = retry_still h
    call_still leg d (Replan goal) none is h = replan_still (has_cell goal) h
    call_still leg (doing.Report event) (Report n) none is h = absurd (none event refl)
    call_still leg doing.Retry (Report n) none is h = absurd (cc)
    call_still leg doing.Replan (Report n) none is h = absurd (no_report leg is)
      where
        no_report : (o : Option Leg) → option_map (λ goal. Replan goal) o ≡ Some (Report n) → ⊥
        no_report None k = absurd (cc)
        no_report (Some goal) k = absurd (cc)
    call_still leg doing.Propose (Report n) none is h = absurd (no_report (route_to s.fleet q leg) is)
      where
        no_report : (o : Option (List CellNo)) → option_map (λ route. Propose route) o ≡ Some (Report n) → ⊥
        no_report None k = absurd (cc)
        no_report (Some route) k = absurd (cc)
    call_still leg doing.Rest (Report n) none is h = absurd (cc)
    call_still leg d Cancel none is h = absurd (policy_call s q leg d Cancel is)
    call_still leg d Withdraw none is h = absurd (policy_call s q leg d Withdraw is)
    call_still leg d LookAt none is h = absurd (policy_call s q leg d LookAt is)

    -- a robot without a ready event, that can't go on, can't behind the report either
    pub entry_still : (leg : Option Leg) → found_ready s.fleet q ≡ None → found_ready behind.fleet q ≡ None → policy_entry s q leg ≡ None → policy_entry behind q leg ≡ None
    entry_still leg before later h = ap (option_and_then (λ call. (turn behind q call).entry)) same ∙ go (policy_act s q leg) refl h
      where
        picked : Option Event → Doing
        picked o = unwrap_or (first_some (
            option_map (λ (x : Event). doing.Report x.no) o
            ∷ when (is_free s q) doing.Retry
            ∷ when (is_on_cycle s q && is_some leg) doing.Replan
            ∷ when (is_none (pending_of s q) && is_some leg) doing.Propose
            ∷ [])) doing.Rest

        same : policy_act behind q leg ≡ policy_act s q leg
        same = ap (λ o. call_for s q leg (picked o)) (later ∙ sym before)

        no_report : (a b c : Bool) (n : EventNo) → unwrap_or (first_some (when a doing.Retry ∷ when b doing.Replan ∷ when c doing.Propose ∷ [])) doing.Rest ≡ doing.Report n → ⊥
        no_report true b c n k = absurd (cc)
        no_report false true c n k = absurd (cc)
        no_report false false true n k = absurd (cc)
        no_report false false false n k = absurd (cc)

        no_report_picked : (n : EventNo) → doing_of s q (is_some leg) ≡ doing.Report n → ⊥
        no_report_picked n k = no_report (is_free s q) (is_on_cycle s q && is_some leg) (is_none (pending_of s q) && is_some leg) n (ap picked (sym before) ∙ k)

        go : (o : Option Call) → policy_act s q leg ≡ o → option_and_then (λ call. (turn s q call).entry) o ≡ None → option_and_then (λ call. (turn behind q call).entry) o ≡ None
        go None e k = refl
        go (Some call) e k = call_still leg (doing_of s q (is_some leg)) call no_report_picked e k

-- The same behind a journal.

module _ (missions : Missions) (opening : State) (journal : List Entry) (entry : Entry) (n : EventNo) (q : ℕ) (is_site : IsSite opening.fleet.site) (good : IsGood opening) (legal : IsJournal opening (journal ++ entry ∷ []))
    (is : entry.act ≡ Reported n) (apart : entry.robot.0 ≡ q → ⊥) (left : unfinished (state_after opening (journal ++ entry ∷ [])).fleet ≢ []) (cannot : can_go_on missions opening journal q ≡ false) where
  abbrev before : State
  before = state_after opening journal

  abbrev later : State
  later = state_after opening (journal ++ entry ∷ [])

  parts : IsJournal opening journal × ((turn_at before entry).entry ≡ Some entry)
  parts = last_told opening journal entry legal

  kept : IsGood before × IsSite before.fleet.site
  kept = journal_good opening journal is_site good parts.0

  did : DidReport before entry.robot.0 n (turn_at before entry).after
  did = did_report before entry n kept.1 kept.0 is parts.1

  later_is : later ≡ behind before kept.0 did.event did.ready q (λ h. apart (sym did.robot ∙ h))
  later_is = state_more opening journal entry ∙ did.after_is

  cannot_on : found_ready before.fleet q ≡ None → found_ready later.fleet q ≡ None → can_go_on missions opening (journal ++ entry ∷ []) q ≡ false
  cannot_on now then =
      let other : did.event.robot.0 ≡ q → ⊥ = λ h. apart (sym did.robot ∙ h) in
      let leg = next_leg (legs_of missions q) opening journal q in
      let still = entry_still before kept.0 did.event did.ready q other (subst (λ (t : State). unfinished t.fleet ≢ []) later_is left) leg now (subst (λ (t : State). found_ready t.fleet q ≡ None) later_is then) (none_of (policy_entry before q leg) cannot) in
      ap (λ c. is_some (policy_entry later q (slice_get (legs_of missions q) c))) (served_by_others (legs_of missions q) opening journal entry q apart)
      ∙ (ap (λ t. is_some (policy_entry t q leg)) later_is ∙ ap is_some still)

  -- a robot without an unfinished event
  pub rests_on : next_event before.fleet q ≡ None → (can_go_on missions opening (journal ++ entry ∷ []) q ≡ false) × (next_event later.fleet q ≡ None)
  rests_on h =
      let other : did.event.robot.0 ≡ q → ⊥ = λ k. apart (sym did.robot ∙ k) in
      let still : next_event later.fleet q ≡ None = subst (λ (t : State). next_event t.fleet q ≡ None) (sym later_is) (none_still before kept.0 did.event did.ready q other h) in
      (cannot_on (none_unready before.fleet q h) (none_unready later.fleet q still), still)

  -- a robot that waits for another event
  pub waits_on_more : (on : EventNo) → on ≢ n → WaitsFor before.fleet q on → (can_go_on missions opening (journal ++ entry ∷ []) q ≡ false) × WaitsFor later.fleet q on
  waits_on_more on ne w =
      let other : did.event.robot.0 ≡ q → ⊥ = λ k. apart (sym did.robot ∙ k) in
      let still : WaitsFor later.fleet q on = subst (λ (t : State). WaitsFor t.fleet q on) (sym later_is) (waits_still before kept.0 did.event did.ready q other on (λ h. ne (h ∙ did.number)) w) in
      (cannot_on (waits_unready before.fleet q on w) (waits_unready later.fleet q on still), still)
