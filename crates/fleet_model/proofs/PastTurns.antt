-- The machine goes alike with and without a finished past in front of the plan.
use Rattle.std.proofs.Common.{◌≡◌, ℕ, ◌+◌, ◌≤◌, Bool, cond, not, ◌||◌, ◌&&◌, ◌==◌, inl, inr, refl, sym, ap, ◌∙◌, subst, List, [], ◌∷◌, ◌++◌, length, arith, Option, Some, None}
use Rattle.std.specs.Prelude.{nat_lt, slice_get, slice_set, Ok}
use Rattle.std.specs.List.{filter, list_any}
use Rattle.std.specs.Option.{is_some, is_none, option_map, option_and_then, unwrap_or}
use Rattle.fleet_base.specs.Lists.{robots_of}
use Rattle.fleet_base.specs.declared.answers.Block.{Block}
use Rattle.fleet_base.specs.declared.answers.CancelRefused.TheVariants as cancel_refused
use Rattle.fleet_base.specs.declared.answers.Look.{Look}
use Rattle.fleet_base.specs.declared.answers.ProposeRefused.TheVariants as propose_refused
use Rattle.fleet_base.specs.declared.answers.ReplanRefused.{ReplanRefused}
use Rattle.fleet_base.specs.declared.answers.ReplanRefused.TheVariants as replan_refused
use Rattle.fleet_base.specs.declared.answers.ReportRefused.{ReportRefused}
use Rattle.fleet_base.specs.declared.answers.ReportRefused.TheVariants as report_refused
use Rattle.fleet_base.specs.declared.answers.RetryRefused.TheVariants as retry_refused
use Rattle.fleet_base.specs.declared.answers.Withdrawn.{Withdrawn as Removed}
use Rattle.fleet_base.specs.declared.answers.WithdrawRefused.{WithdrawRefused}
use Rattle.fleet_base.specs.declared.answers.WithdrawRefused.TheVariants as withdraw_refused
use Rattle.fleet_base.specs.declared.entries.Act.TheVariants.{Retried, Canceled, Withdrawn, Replanned, Reported}
use Rattle.fleet_base.specs.declared.entries.Entry.{Entry}
use Rattle.fleet_base.specs.declared.limits.TheConstants.{MAX_COUNT}
use Rattle.fleet_base.specs.declared.numbers.CellNo.{CellNo}
use Rattle.fleet_base.specs.declared.numbers.Event.{Event}
use Rattle.fleet_base.specs.declared.numbers.EventNo.{EventNo}
use Rattle.fleet_base.specs.declared.numbers.Span.{Span}
use Rattle.fleet_model.specs.Lists.{In, first_some, has_cell, numbers_below, when}
use Rattle.fleet_model.specs.Sites.{IsSite, footprint_of, needs}
use Rattle.fleet_model.specs.Plans.{Fleet, end_of, latest, own, removable_tail, withdrawn}
use Rattle.fleet_model.specs.Cycles.{cycle_through}
use Rattle.fleet_model.specs.Routes.{least_route}
use Rattle.fleet_model.specs.Deferral.{is_kept_by, least_blocker}
use Rattle.fleet_model.specs.States.{State, base_behind, block_of, is_full, pending_of, pending_route}
use Rattle.fleet_model.specs.Calls.{Call, Propose, Retry, Cancel, Withdraw, Replan, Report, LookAt, Step, accepted, begin_at, cancel_refusals, deferring, detour_of, first_of, in_segment, is_number, look_of, merge_growth, moved, next_event, propose_growth, propose_outcome, propose_refusals, replan_refusals, report_refusals, reported, retry_refusals, span_of, turn, unknown_at, unless, unless_refused, unlinked_at, with_route, withdraw_refusals}
use Rattle.fleet_model.specs.Good.{IsGood, IsGoodPlan}
use Rattle.fleet_model.specs.Journals.{IsJournal, call_of, state_after, turn_at}
use Rattle.fleet_model.specs.Segments.{inner_marks}
use Rattle.fleet_model.proofs.Accepted.{nothing}
use Rattle.fleet_model.proofs.Changes.{Change, Grew, Kept, Dropped, Cut, Did, changed, changed_site, changed_starts}
use Rattle.fleet_model.proofs.GoodStates.{accepts_at, turn_good}
use Rattle.fleet_model.proofs.Lists.{In-append_cases, In-append_right, In_unfilter}
use Rattle.fleet_model.proofs.Merge.{news_high}
use Rattle.fleet_model.proofs.Numbers.{own_In}
use Rattle.fleet_model.proofs.Pasts.{IsPast, past_awaited, past_end, past_ends, past_later, past_merged, past_reported, past_tail, past_unfinished, past_withdrawn, with_past}
use Rattle.fleet_model.proofs.Tails.{tail_is}

-- the state with a past in front of its plan
abbrev pub state_with : Fleet → State → State
state_with p t = record t { fleet = with_past p t.fleet }

-- two steps add the same entry, and leave states that differ in the past alone
pub record GoAlike (p : Fleet) (entry other : Option Entry) (after alone : State) : Type 0 where
  pub told : entry ≡ other
  pub leaves : after ≡ state_with p alone

-- a step behind the same refusals
unless_alike : {A E : Type 0} (p : Fleet) (t : State) (refusals others : List (Option E)) (step alone : Step A E) → refusals ≡ others → GoAlike p step.entry alone.entry step.after alone.after
    → GoAlike p (unless refusals (state_with p t) step).entry (unless others t alone).entry (unless refusals (state_with p t) step).after (unless others t alone).after
unless_alike {A} {E} p t refusals others step alone same alike =
    subst (λ rs. GoAlike p (unless rs (state_with p t) step).entry (unless others t alone).entry (unless rs (state_with p t) step).after (unless others t alone).after) (sym same) (go (first_some others))
  where
    go : (o : Option E) → GoAlike p (unless_refused o (state_with p t) step).entry (unless_refused o t alone).entry (unless_refused o (state_with p t) step).after (unless_refused o t alone).after
    go None = alike
    go (Some e) = record { told = refl; leaves = refl }

-- room, by the events that are unfinished
abbrev owed_by : State → List Event → ℕ
owed_by s events = length events + length (filter is_some s.pending)

abbrev past_by : State → ℕ → List Event → Bool
past_by s growth events = nat_lt (s.base + s.cap) (s.count + owed_by s events + growth)

abbrev full_by : State → ℕ → List Event → Bool
full_by s growth events =
    nat_lt MAX_COUNT (s.count + owed_by s events + growth)
    || (past_by s growth events && (not (length events == 0) || nat_lt s.cap (owed_by s events + growth)))

-- the block of a route, by the robots' ends and their number
abbrev cycle_by : State → List CellNo → ℕ → ℕ → List ℕ
cycle_by s es n r = cycle_through n (λ a q. not (q == a) && list_any (λ c. is_kept_by s.fleet.site c (slice_get es q)) (needs s.fleet.site (pending_route s a))) r

abbrev block_by : State → List CellNo → ℕ → ℕ → List CellNo → Option Block
block_by s es n r route =
    option_map (λ b. record { claim = b.0; by = record { 0 = b.1 }; cycle = robots_of (cycle_by s es n r) }) (least_blocker s.fleet.site es r (needs s.fleet.site route))

abbrev shut_by : Fleet → List CellNo → ℕ → ℕ → CellNo → Bool
shut_by m es n r a =
    list_any (λ q. not (q == r) && list_any (λ c. is_kept_by m.site c (slice_get es q)) (footprint_of m.site a)) (numbers_below n)

module _ (p : Fleet) (t : State) (past : IsPast p t.fleet) where
  abbrev s : State
  s = state_with p t

  full_same : (growth : ℕ) → is_full s growth ≡ is_full t growth
  full_same growth = ap (full_by t growth) (past_unfinished p t.fleet past)

  base_same : (growth : ℕ) → base_behind s growth ≡ base_behind t growth
  base_same growth = ap (λ es. cond (past_by t growth es) t.count t.base) (past_unfinished p t.fleet past)

  block_same : (r : ℕ) (route : List CellNo) → block_of s r route ≡ block_of t r route
  block_same r route = λ i. block_by t (past_ends p t.fleet past i) (past.count i) r route

  detour_same : (r : ℕ) (goal : CellNo → Bool) → detour_of s.fleet r goal ≡ detour_of t.fleet r goal
  detour_same r goal = λ i. least_route t.fleet.site goal (shut_by t.fleet (past_ends p t.fleet past i) (past.count i) r) (past_end p t.fleet past r i)

  next_same : (r : ℕ) → next_event s.fleet r ≡ next_event t.fleet r
  next_same r = ap (λ es. slice_get (own r es) 0) (past_unfinished p t.fleet past)

-- a merge of robot r, which grows entries and what is owed by so much
merge_alike : (p : Fleet) (t : State) (past : IsPast p t.fleet) (r : ℕ) (route : List CellNo) (growth : ℕ)
    → in_segment (state_with p t) growth (with_route (state_with p t) r route) ≡ state_with p (in_segment t growth (with_route t r route))
merge_alike p t past r route growth = λ i. record {
  fleet = past_merged p t.fleet past r route i;
  pending = slice_set t.pending r None;
  cap = t.cap;
  count = t.count + 1;
  base = base_same p t past growth i;
}

-- a deferral of robot r
defer_alike : (p : Fleet) (t : State) (past : IsPast p t.fleet) (r : ℕ) (route : List CellNo) (growth : ℕ)
    → in_segment (state_with p t) growth (deferring (state_with p t) r route) ≡ state_with p (in_segment t growth (deferring t r route))
defer_alike p t past r route growth = λ i. record {
  fleet = with_past p t.fleet;
  pending = slice_set t.pending r (Some route);
  cap = t.cap;
  count = t.count + 1;
  base = base_same p t past growth i;
}

module _ (p : Fleet) (t : State) (past : IsPast p t.fleet) (r : ℕ) where
  -- the two steps of a call go alike
  abbrev TurnsAlike : Call → Type 0
  TurnsAlike call = GoAlike p (turn (state_with p t) r call).entry (turn t r call).entry (turn (state_with p t) r call).after (turn t r call).after

  proposal_refusals : (cells : List CellNo) (o : Option Block) → is_full (state_with p t) (propose_growth (state_with p t) cells o) ≡ is_full t (propose_growth t cells o) → propose_refusals (state_with p t) r cells o ≡ propose_refusals t r cells o
  proposal_refusals cells o full = λ i.
      when (not (nat_lt r (past.count i))) propose_refused.UnknownRobot
      ∷ when (is_some (pending_of t r)) propose_refused.HasPending
      ∷ when (nat_lt (length cells) 2) propose_refused.Short
      ∷ when (nat_lt 1024 (length cells)) propose_refused.TooLong
      ∷ option_map (λ at. propose_refused.UnknownCell at) (unknown_at t.fleet.site cells)
      ∷ option_map (λ at. propose_refused.NoLink at) (unlinked_at t.fleet.site cells)
      ∷ when (not (begin_at (past_end p t.fleet past r i) cells)) (propose_refused.BadStart (past_end p t.fleet past r i))
      ∷ when (full i) propose_refused.Full
      ∷ []

  proposal_alike : (cells : List CellNo) (o : Option Block)
      → GoAlike p (unless (propose_refusals (state_with p t) r cells o) (state_with p t) (propose_outcome (state_with p t) r cells o)).entry (unless (propose_refusals t r cells o) t (propose_outcome t r cells o)).entry
      (unless (propose_refusals (state_with p t) r cells o) (state_with p t) (propose_outcome (state_with p t) r cells o)).after (unless (propose_refusals t r cells o) t (propose_outcome t r cells o)).after
  proposal_alike cells None =
      unless_alike p t (propose_refusals (state_with p t) r cells None) (propose_refusals t r cells None) (propose_outcome (state_with p t) r cells None) (propose_outcome t r cells None)
      (proposal_refusals cells None (full_same p t past (propose_growth t cells None)))
      (record { told = refl; leaves = merge_alike p t past r cells (propose_growth t cells None) })
  proposal_alike cells (Some block) =
      unless_alike p t (propose_refusals (state_with p t) r cells (Some block)) (propose_refusals t r cells (Some block)) (propose_outcome (state_with p t) r cells (Some block)) (propose_outcome t r cells (Some block))
      (proposal_refusals cells (Some block) (full_same p t past 2))
      (record { told = refl; leaves = defer_alike p t past r cells 2 })

  propose_alike : (cells : List CellNo) → TurnsAlike (Propose cells)
  propose_alike cells =
      subst (λ o. GoAlike p (unless (propose_refusals (state_with p t) r cells o) (state_with p t) (propose_outcome (state_with p t) r cells o)).entry (turn t r (Propose cells)).entry
      (unless (propose_refusals (state_with p t) r cells o) (state_with p t) (propose_outcome (state_with p t) r cells o)).after (turn t r (Propose cells)).after)
      (sym (block_same p (deferring t r cells) past r cells)) (proposal_alike cells (block_of (deferring t r cells) r cells))

  retry_alike : TurnsAlike Retry
  retry_alike =
      let route = pending_route t r in
      unless_alike p t (retry_refusals (state_with p t) r route) (retry_refusals t r route)
      (accepted (span_of (state_with p t) route) r (Retried (first_of t)) (in_segment (state_with p t) (merge_growth t route) (with_route (state_with p t) r route)))
      (accepted (span_of t route) r (Retried (first_of t)) (in_segment t (merge_growth t route) (with_route t r route)))
      (λ i.
      when (not (nat_lt r (past.count i))) retry_refused.UnknownRobot
      ∷ when (is_none (pending_of t r)) retry_refused.NoPending
      ∷ option_map (λ block. retry_refused.StillDeferred block) (block_same p t past r route i)
      ∷ when (full_same p t past (merge_growth t route) i) retry_refused.Full
      ∷ [])
      (record { told = refl; leaves = merge_alike p t past r route (merge_growth t route) })

  cancel_alike : TurnsAlike Cancel
  cancel_alike =
      unless_alike p t (cancel_refusals (state_with p t) r) (cancel_refusals t r)
      (accepted nothing r Canceled (moved (state_with p t) (state_with p t).fleet r None)) (accepted nothing r Canceled (moved t t.fleet r None))
      (λ i. when (not (nat_lt r (past.count i))) cancel_refused.UnknownRobot ∷ when (is_none (pending_of t r)) cancel_refused.NoPending ∷ [])
      (record { told = refl; leaves = refl })

  withdraw_alike : IsGoodPlan t.fleet → IsGoodPlan (with_past p t.fleet) → TurnsAlike Withdraw
  withdraw_alike good whole =
      unless_alike p t (withdraw_refusals (state_with p t) r (removable_tail (with_past p t.fleet) r)) (withdraw_refusals t r tail)
      (removes (state_with p t) (removable_tail (with_past p t.fleet) r) (withdrawn (with_past p t.fleet) (removable_tail (with_past p t.fleet) r))) (removes t tail (withdrawn t.fleet tail))
      (λ i. when (not (nat_lt r (past.count i))) withdraw_refused.UnknownRobot ∷ when (length (same i) == 0) withdraw_refused.Nothing ∷ [])
      (record {
        told = λ i. Some (record { robot = record { 0 = r }; act = Withdrawn (length (same i)) (ends i) });
        leaves = λ i. record { fleet = fleet i; pending = slice_set t.pending r None; cap = t.cap; count = t.count + 1; base = t.base };
      })
    where
      tail : List Event
      tail = removable_tail t.fleet r

      removes : State → List Event → Fleet → Step Removed WithdrawRefused
      removes x es m = accepted (record { removed = length es; end = end_of m r }) r (Withdrawn (length es) (end_of m r)) (moved x m r None)

      same : removable_tail (with_past p t.fleet) r ≡ tail
      same = past_tail p t.fleet past good whole r

      planned : (e : Event) → In e tail → In e t.fleet.plan
      planned e i = let is = tail_is t.fleet r good in (own_In r t.fleet.plan (subst (λ es. In e es) (sym is.splits) (In-append_right is.front tail i))).0

      left : IsPast p (withdrawn t.fleet tail)
      left = past_later p t.fleet (withdrawn t.fleet tail) past refl refl (λ e i. past.late e (In_unfilter _ t.fleet.plan i).0) (omega arith)

      fleet : withdrawn (with_past p t.fleet) (removable_tail (with_past p t.fleet) r) ≡ with_past p (withdrawn t.fleet tail)
      fleet = ap (withdrawn (with_past p t.fleet)) same ∙ past_withdrawn p t.fleet past tail planned

      ends : end_of (withdrawn (with_past p t.fleet) (removable_tail (with_past p t.fleet) r)) r ≡ end_of (withdrawn t.fleet tail) r
      ends = ap (λ m. end_of m r) fleet ∙ past_end p (withdrawn t.fleet tail) left r

  replan_alike : (cells : List CellNo) → TurnsAlike (Replan cells)
  replan_alike cells =
      subst (λ o. GoAlike p (found (state_with p t) o).entry (turn t r (Replan cells)).entry (found (state_with p t) o).after (turn t r (Replan cells)).after) (sym (detour_same p t past r goal)) (go (detour_of t.fleet r goal))
    where
      goal : CellNo → Bool
      goal = has_cell cells

      merges : State → List CellNo → Step Span ReplanRefused
      merges x route = accepted (span_of x route) r (Replanned route (first_of x)) (in_segment x (merge_growth x route) (with_route x r route))

      found : State → Option (List CellNo) → Step Span ReplanRefused
      found x o = unless (replan_refusals x r goal o) x (merges x (unwrap_or o []))

      go : (o : Option (List CellNo)) → GoAlike p (found (state_with p t) o).entry (found t o).entry (found (state_with p t) o).after (found t o).after
      go o =
          let route = unwrap_or o [] in
          unless_alike p t (replan_refusals (state_with p t) r goal o) (replan_refusals t r goal o) (merges (state_with p t) route) (merges t route)
          (λ i.
          when (not (nat_lt r (past.count i))) replan_refused.UnknownRobot
          ∷ when (is_none (pending_of t r)) replan_refused.NoPending
          ∷ when (goal (past_end p t.fleet past r i)) replan_refused.AtGoal
          ∷ when (is_none o) replan_refused.NoDetour
          ∷ when (full_same p t past (merge_growth t route) i) replan_refused.Full
          ∷ [])
          (record { told = refl; leaves = merge_alike p t past r route (merge_growth t route) })

  report_alike : (n : EventNo) → TurnsAlike (Report n)
  report_alike n =
      subst (λ o. GoAlike p (reports (state_with p t) o).entry (turn t r (Report n)).entry (reports (state_with p t) o).after (turn t r (Report n)).after) (sym (next_same p t past r)) (go (next_event t.fleet r))
    where
      reports : State → Option Event → Step (Unit {0}) ReportRefused
      reports x o = unless (report_refusals x r n o) x (accepted nothing r (Reported n) (record x { fleet = reported x.fleet o; count = x.count + 1 }))

      go : (o : Option Event) → GoAlike p (reports (state_with p t) o).entry (reports t o).entry (reports (state_with p t) o).after (reports t o).after
      go o =
          unless_alike p t (report_refusals (state_with p t) r n o) (report_refusals t r n o)
          (accepted nothing r (Reported n) (record (state_with p t) { fleet = reported (with_past p t.fleet) o; count = t.count + 1 })) (accepted nothing r (Reported n) (record t { fleet = reported t.fleet o; count = t.count + 1 }))
          (λ i.
          when (not (nat_lt r (past.count i))) report_refused.UnknownRobot
          ∷ when (not (is_number o n)) (report_refused.NotNext (option_map (λ e. e.no) o))
          ∷ option_map (λ on. report_refused.Early on) (option_and_then (λ e. option_map (λ f. f.no) (latest (past_awaited p t.fleet past e i))) o)
          ∷ [])
          (record { told = refl; leaves = λ i. record { fleet = past_reported p t.fleet past o i; pending = t.pending; cap = t.cap; count = t.count + 1; base = t.base } })

  look_alike : TurnsAlike LookAt
  look_alike =
      unless_alike {A = Look} p t (when (not (nat_lt r (length p.starts))) (record {}) ∷ []) (when (not (nat_lt r (length t.fleet.starts))) (record {}) ∷ [])
      (record { answer = Ok (look_of (state_with p t) r); entry = None; after = state_with p t }) (record { answer = Ok (look_of t r); entry = None; after = t })
      (λ i. when (not (nat_lt r (past.count i))) (record {}) ∷ [])
      (record { told = refl; leaves = refl })

  -- each call goes alike
  turn_alike : IsGoodPlan t.fleet → IsGoodPlan (with_past p t.fleet) → (call : Call) → TurnsAlike call
  turn_alike good whole (Propose cells) = propose_alike cells
  turn_alike good whole Retry = retry_alike
  turn_alike good whole Cancel = cancel_alike
  turn_alike good whole Withdraw = withdraw_alike good whole
  turn_alike good whole (Replan cells) = replan_alike cells
  turn_alike good whole (Report n) = report_alike n
  turn_alike good whole LookAt = look_alike

-- behind a change the numbers of the plan still come behind the past's
late_still : (p : Fleet) (t : State) → IsPast p t.fleet → (r : ℕ) (c : Change) (e : Event) → In e (changed t r c).fleet.plan → p.next ≤ e.no.0
late_still p t past r (Grew route) e i = elim (In-append_cases t.fleet.plan _ i) [ inl j ↦ past.late e j | inr j ↦ (let l = news_high t.fleet r route e j in let n = past.next in omega arith) ]
late_still p t past r (Kept route) e i = past.late e i
late_still p t past r Dropped e i = past.late e i
late_still p t past r Cut e i = past.late e (In_unfilter _ t.fleet.plan i).0
late_still p t past r (Did f) e i = past.late e i

next_still : (t : State) (r : ℕ) (c : Change) → t.fleet.next ≤ (changed t r c).fleet.next
next_still t r (Grew route) = omega arith
next_still t r (Kept route) = omega arith
next_still t r Dropped = omega arith
next_still t r Cut = omega arith
next_still t r (Did f) = omega arith

-- behind an accepted call the past is still one
past_still : (p : Fleet) (t : State) (entry : Entry) → IsPast p t.fleet → IsSite t.fleet.site → IsGood t → (turn_at t entry).entry ≡ Some entry → IsPast p (turn_at t entry).after.fleet
past_still p t entry past is_site good told =
    let a = accepts_at t entry is_site good told in
    let r = entry.robot.0 in
    subst (λ (n : State). IsPast p n.fleet) (sym a.after_is) (past_later p t.fleet (changed t r a.change).fleet past (changed_site t r a.change) (changed_starts t r a.change) (late_still p t past r a.change) (next_still t r a.change))

-- a journal behind a past is one without it, opens the same segments and reaches the same but for the past
pub record JournalAlike (p : Fleet) (t : State) (entries : List Entry) : Type 0 where
  pub legal : IsJournal t entries
  pub reaches : state_after (state_with p t) entries ≡ state_with p (state_after t entries)
  pub past : IsPast p (state_after t entries).fleet
  pub marks : inner_marks (state_with p t) entries ≡ inner_marks t entries

pub journal_alike : (p : Fleet) (t : State) (entries : List Entry) → IsPast p t.fleet → IsSite t.fleet.site → IsGood t → IsGood (state_with p t) → IsJournal (state_with p t) entries → JournalAlike p t entries
journal_alike p t [] past is_site good whole h = record { legal = tt; reaches = refl; past = past; marks = refl }
journal_alike p t (entry ∷ entries) past is_site good whole h =
    let alike : GoAlike p (turn_at (state_with p t) entry).entry (turn_at t entry).entry (turn_at (state_with p t) entry).after (turn_at t entry).after = turn_alike p t past entry.robot.0 good.plan whole.plan (call_of entry.act) in
    let told : (turn_at t entry).entry ≡ Some entry = sym alike.told ∙ h.0 in
    let next = (turn_at t entry).after in
    let good_next = turn_good t entry is_site good told in
    let whole_next : IsGood (state_with p next) = subst IsGood alike.leaves (turn_good (state_with p t) entry is_site whole h.0).0 in
    let rest : JournalAlike p next entries =
    journal_alike p next entries (past_still p t entry past is_site good told) good_next.1 good_next.0 whole_next (subst (λ (x : State). IsJournal x entries) alike.leaves h.1)
    in
    let base_is : (turn_at (state_with p t) entry).after.base ≡ next.base = ap (λ (x : State). x.base) alike.leaves in
    let marks_rest : inner_marks (turn_at (state_with p t) entry).after entries ≡ inner_marks next entries = ap (λ (x : State). inner_marks x entries) alike.leaves ∙ rest.marks in
    record {
      legal = (told, rest.legal);
      reaches = ap (λ (x : State). state_after x entries) alike.leaves ∙ rest.reaches;
      past = rest.past;
      marks = λ i. cond (not (base_is i == t.base)) (record { before = t.count; next = record { 0 = t.fleet.next } } ∷ []) [] ++ marks_rest i;
    }
