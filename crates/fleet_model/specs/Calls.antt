-- The calls: each with its refusals in order, its answer and the state that it leaves.
use Rattle.std.specs.Prelude.{false, ℕ, ◌+◌, ◌-◌, Bool, not, ◌==◌, nat_lt, nat_le, List, [], ◌∷◌, ◌++◌, length, position, Option, Some, None, Result, Ok, Err, slice_get, slice_set}
use Rattle.std.specs.Option.{is_some, is_none, option_map, option_and_then, unwrap_or, option_to_list}
use Rattle.fleet_base.specs.declared.answers.Block.{Block}
use Rattle.fleet_base.specs.declared.answers.CancelRefused.{CancelRefused}
use Rattle.fleet_base.specs.declared.answers.CancelRefused.TheVariants as cancel_refused
use Rattle.fleet_base.specs.declared.answers.EventLook.{EventLook}
use Rattle.fleet_base.specs.declared.answers.EventLook.TheVariants as event_look
use Rattle.fleet_base.specs.declared.answers.Look.{Look}
use Rattle.fleet_base.specs.declared.answers.PendingLook.{PendingLook}
use Rattle.fleet_base.specs.declared.answers.PendingLook.TheVariants as pending_look
use Rattle.fleet_base.specs.declared.answers.ProposeRefused.{ProposeRefused}
use Rattle.fleet_base.specs.declared.answers.ProposeRefused.TheVariants as propose_refused
use Rattle.fleet_base.specs.declared.answers.Proposed.{Proposed}
use Rattle.fleet_base.specs.declared.answers.Proposed.TheVariants as proposed
use Rattle.fleet_base.specs.declared.answers.ReplanRefused.{ReplanRefused}
use Rattle.fleet_base.specs.declared.answers.ReplanRefused.TheVariants as replan_refused
use Rattle.fleet_base.specs.declared.answers.ReportRefused.{ReportRefused}
use Rattle.fleet_base.specs.declared.answers.ReportRefused.TheVariants as report_refused
use Rattle.fleet_base.specs.declared.answers.RetryRefused.{RetryRefused}
use Rattle.fleet_base.specs.declared.answers.RetryRefused.TheVariants as retry_refused
use Rattle.fleet_base.specs.declared.answers.UnknownRobot.{UnknownRobot}
use Rattle.fleet_base.specs.declared.answers.WithdrawRefused.{WithdrawRefused}
use Rattle.fleet_base.specs.declared.answers.WithdrawRefused.TheVariants as withdraw_refused
use Rattle.fleet_base.specs.declared.answers.Withdrawn.{Withdrawn}
use Rattle.fleet_base.specs.declared.entries.Act.{Act}
use Rattle.fleet_base.specs.declared.entries.Act.TheVariants as act
use Rattle.fleet_base.specs.declared.entries.Entry.{Entry}
use Rattle.fleet_base.specs.declared.numbers.CellNo.{CellNo}
use Rattle.fleet_base.specs.declared.numbers.Event.{Event}
use Rattle.fleet_base.specs.declared.numbers.EventNo.{EventNo}
use Rattle.fleet_base.specs.declared.numbers.Span.{Span}
use Rattle.fleet_model.specs.Lists.{has_cell, when, first_some}
use Rattle.fleet_model.specs.Sites.{Site, cell_count, is_linked, steps}
use Rattle.fleet_model.specs.Plans.{Fleet, unfinished, own, awaited, latest, cell_of, end_of, merged, removable_tail, withdrawn}
use Rattle.fleet_model.specs.Routes.{least_route}
use Rattle.fleet_model.specs.Deferral.{is_shut_to}
use Rattle.fleet_model.specs.States.{State, is_robot, pending_of, pending_route, is_full, base_behind, block_of}

-- what a call gives: its answer, the entry that it adds to the journal, and the state that it leaves
pub record Step (A E : Type 0) : Type 0 where
  pub answer : Result A E
  pub entry : Option Entry
  pub after : State

abbrev pub unless_refused : {A E : Type 0} → Option E → State → Step A E → Step A E
unless_refused (Some e) s step = record { answer = Err e; entry = None; after = s }
unless_refused None s step = step

-- the first refusal whose cause is there is the answer, adds no entry and leaves the state; where there is none the call is accepted
abbrev pub unless : {A E : Type 0} → List (Option E) → State → Step A E → Step A E
unless refusals s step = unless_refused (first_some refusals) s step

-- an accepted call of robot r
abbrev pub accepted : {A E : Type 0} → A → ℕ → Act → State → Step A E
accepted a r act after = record { answer = Ok a; entry = Some (record { robot = record { 0 = r }; act = act }); after = after }

-- one more accepted call: this plan, and this pending route of robot r
abbrev pub moved : State → Fleet → ℕ → Option (List CellNo) → State
moved s fleet r route = record { fleet = fleet; pending = slice_set s.pending r route; cap = s.cap; count = s.count + 1; base = s.base }

-- the state that an outcome leaves, by which entries and what is owed grew by so much, in the segment that has room for it
abbrev pub in_segment : State → ℕ → State → State
in_segment s growth after = record after { base = base_behind s growth }

-- the state with the route of robot r in the plan, and no route of it pending
abbrev pub with_route : State → ℕ → List CellNo → State
with_route s r route = moved s (merged s.fleet r route) r None

-- the numbers of a route's events
abbrev pub span_of : State → List CellNo → Span
span_of s route = record { first = record { 0 = s.fleet.next }; last = record { 0 = s.fleet.next + length (steps s.fleet.site route) - 1 } }

abbrev pub first_of : State → EventNo
first_of s = record { 0 = s.fleet.next }

-- the first place, counted from at, whose cell isn't linked from the one before it
abbrev pub first_unlinked : Site → ℕ → CellNo → List CellNo → Option ℕ
first_unlinked site at a [] = None
first_unlinked site at a (b ∷ bs) = first_some (when (not (is_linked site a b)) at ∷ first_unlinked site (at + 1) b bs ∷ [])

abbrev pub unlinked_at : Site → List CellNo → Option ℕ
unlinked_at site [] = None
unlinked_at site (a ∷ bs) = first_unlinked site 1 a bs

-- the first place that names no cell of the site
abbrev pub unknown_at : Site → List CellNo → Option ℕ
unknown_at site cells = position (λ c. nat_le (cell_count site) c.0) cells

-- the cells begin at this one
abbrev pub begin_at : CellNo → List CellNo → Bool
begin_at a [] = false
begin_at a (b ∷ bs) = a.0 == b.0

-- a proposal

abbrev pub deferring : State → ℕ → List CellNo → State
deferring s r cells = moved s s.fleet r (Some cells)

abbrev pub propose_growth : State → List CellNo → Option Block → ℕ
propose_growth s cells None = 1 + length (steps s.fleet.site cells)
propose_growth s cells (Some block) = 2

-- the refusals of a proposal, in order, each where its cause is there
abbrev pub propose_refusals : State → ℕ → List CellNo → Option Block → List (Option ProposeRefused)
propose_refusals s r cells block =
    when (not (is_robot s r)) propose_refused.UnknownRobot
    ∷ when (is_some (pending_of s r)) propose_refused.HasPending
    ∷ when (nat_lt (length cells) 2) propose_refused.Short
    ∷ when (nat_lt 1024 (length cells)) propose_refused.TooLong
    ∷ option_map (λ at. propose_refused.UnknownCell at) (unknown_at s.fleet.site cells)
    ∷ option_map (λ at. propose_refused.NoLink at) (unlinked_at s.fleet.site cells)
    ∷ when (not (begin_at (end_of s.fleet r) cells)) (propose_refused.BadStart (end_of s.fleet r))
    ∷ when (is_full s (propose_growth s cells block)) propose_refused.Full
    ∷ []

abbrev pub propose_outcome : State → ℕ → List CellNo → Option Block → Step Proposed ProposeRefused
propose_outcome s r cells None =
    accepted (proposed.Merged (span_of s cells)) r (act.Merged cells (first_of s)) (in_segment s (propose_growth s cells None) (with_route s r cells))
propose_outcome s r cells (Some block) =
    accepted (proposed.Deferred block) r (act.Deferred cells block.cycle) (in_segment s (propose_growth s cells (Some block)) (deferring s r cells))

-- robot r proposes a route: without a blocker it is merged, else it is pending
abbrev pub propose : State → ℕ → List CellNo → Step Proposed ProposeRefused
propose s r cells =
    let block = block_of (deferring s r cells) r cells in
    unless (propose_refusals s r cells block) s (propose_outcome s r cells block)

-- a pending route that is merged

abbrev pub merge_growth : State → List CellNo → ℕ
merge_growth s route = length (steps s.fleet.site route)

abbrev pub retry_refusals : State → ℕ → List CellNo → List (Option RetryRefused)
retry_refusals s r route =
    when (not (is_robot s r)) retry_refused.UnknownRobot
    ∷ when (is_none (pending_of s r)) retry_refused.NoPending
    ∷ option_map (λ block. retry_refused.StillDeferred block) (block_of s r route)
    ∷ when (is_full s (merge_growth s route)) retry_refused.Full
    ∷ []

-- robot r tries its pending route again
abbrev pub retry : State → ℕ → Step Span RetryRefused
retry s r =
    let route = pending_route s r in
    unless (retry_refusals s r route)
    s (accepted (span_of s route) r (act.Retried (first_of s)) (in_segment s (merge_growth s route) (with_route s r route)))

abbrev pub cancel_refusals : State → ℕ → List (Option CancelRefused)
cancel_refusals s r =
    when (not (is_robot s r)) cancel_refused.UnknownRobot
    ∷ when (is_none (pending_of s r)) cancel_refused.NoPending
    ∷ []

-- robot r drops its pending route
abbrev pub cancel : State → ℕ → Step (Unit {0}) CancelRefused
cancel s r = unless (cancel_refusals s r) s (accepted tt r act.Canceled (moved s s.fleet r None))

abbrev pub withdraw_refusals : State → ℕ → List Event → List (Option WithdrawRefused)
withdraw_refusals s r tail =
    when (not (is_robot s r)) withdraw_refused.UnknownRobot
    ∷ when (length tail == 0) withdraw_refused.Nothing
    ∷ []

-- robot r takes its removable tail back and drops its pending route
abbrev pub withdraw : State → ℕ → Step Withdrawn WithdrawRefused
withdraw s r =
    let tail = removable_tail s.fleet r in
    let fleet = withdrawn s.fleet tail in
    unless (withdraw_refusals s r tail)
    s (accepted (record { removed = length tail; end = end_of fleet r }) r (act.Withdrawn (length tail) (end_of fleet r)) (moved s fleet r None))

-- the detour of robot r: the least route from its end to the goal past the cells that are shut to it
abbrev pub detour_of : Fleet → ℕ → (CellNo → Bool) → Option (List CellNo)
detour_of m r goal = least_route m.site goal (is_shut_to m r) (end_of m r)

abbrev pub replan_refusals : State → ℕ → (CellNo → Bool) → Option (List CellNo) → List (Option ReplanRefused)
replan_refusals s r goal detour =
    when (not (is_robot s r)) replan_refused.UnknownRobot
    ∷ when (is_none (pending_of s r)) replan_refused.NoPending
    ∷ when (goal (end_of s.fleet r)) replan_refused.AtGoal
    ∷ when (is_none detour) replan_refused.NoDetour
    ∷ when (is_full s (merge_growth s (unwrap_or detour []))) replan_refused.Full
    ∷ []

-- robot r replaces its pending route by the detour to a goal
abbrev pub replan : State → ℕ → (CellNo → Bool) → Step Span ReplanRefused
replan s r goal =
    let detour = detour_of s.fleet r goal in
    let route = unwrap_or detour [] in
    unless (replan_refusals s r goal detour)
    s (accepted (span_of s route) r (act.Replanned route (first_of s)) (in_segment s (merge_growth s route) (with_route s r route)))

-- the first unfinished event of robot r
abbrev pub next_event : Fleet → ℕ → Option Event
next_event m r = slice_get (own r (unfinished m)) 0

-- the last release that this event still waits for
abbrev pub waits_on : Fleet → Event → Option EventNo
waits_on m e = option_map (λ f. f.no) (latest (awaited m e))

abbrev pub is_number : Option Event → EventNo → Bool
is_number None n = false
is_number (Some e) n = e.no.0 == n.0

-- the plan once this event, if there is one, is reported
abbrev pub reported : Fleet → Option Event → Fleet
reported m event = record m { finished = m.finished ++ option_to_list event }

abbrev pub report_refusals : State → ℕ → EventNo → Option Event → List (Option ReportRefused)
report_refusals s r n next =
    when (not (is_robot s r)) report_refused.UnknownRobot
    ∷ when (not (is_number next n)) (report_refused.NotNext (option_map (λ e. e.no) next))
    ∷ option_map (λ on. report_refused.Early on) (option_and_then (waits_on s.fleet) next)
    ∷ []

-- robot r reports its next event
abbrev pub report : State → ℕ → EventNo → Step (Unit {0}) ReportRefused
report s r n =
    let next = next_event s.fleet r in
    unless (report_refusals s r n next)
    s (accepted tt r (act.Reported n) (record s { fleet = reported s.fleet next; count = s.count + 1 }))

abbrev pub look_at_event : Event → Option EventNo → EventLook
look_at_event e None = event_look.Ready e.no e.kind
look_at_event e (Some on) = event_look.Waits e.no on

abbrev pub look_at_next : Fleet → Option Event → EventLook
look_at_next m None = event_look.Nothing
look_at_next m (Some e) = look_at_event e (waits_on m e)

abbrev pub look_at_pending : Option (List CellNo) → Option Block → PendingLook
look_at_pending None block = pending_look.Nothing
look_at_pending (Some route) None = pending_look.Free
look_at_pending (Some route) (Some block) = pending_look.Blocked block

abbrev pub look_of : State → ℕ → Look
look_of s r = record {
  at = cell_of s.fleet r;
  end = end_of s.fleet r;
  left = length (own r (unfinished s.fleet));
  event = look_at_next s.fleet (next_event s.fleet r);
  pending = look_at_pending (pending_of s r) (block_of s r (pending_route s r));
}

-- what robot r sees; a look adds no entry and leaves the state
abbrev pub look : State → ℕ → Step Look UnknownRobot
look s r = unless (when (not (is_robot s r)) (record {}) ∷ []) s (record { answer = Ok (look_of s r); entry = None; after = s })

-- the calls of a robot; the goal of a replan is any of the cells
pub data Call : Type 0 where
  Propose : List CellNo → Call
  Retry : Call
  Cancel : Call
  Withdraw : Call
  Replan : List CellNo → Call
  Report : EventNo → Call
  LookAt : Call

-- what each call answers
pub data Answer : Type 0 where
  Proposes : Result Proposed ProposeRefused → Answer
  Retries : Result Span RetryRefused → Answer
  Cancels : Result (Unit {0}) CancelRefused → Answer
  Withdraws : Result Withdrawn WithdrawRefused → Answer
  Replans : Result Span ReplanRefused → Answer
  Reports : Result (Unit {0}) ReportRefused → Answer
  Looks : Result Look UnknownRobot → Answer

-- what any call gives
pub record Turn : Type 0 where
  pub answer : Answer
  pub entry : Option Entry
  pub after : State

abbrev pub turn_of : {A E : Type 0} → (Result A E → Answer) → Step A E → Turn
turn_of answer step = record { answer = answer step.answer; entry = step.entry; after = step.after }

-- a call of robot r
abbrev pub turn : State → ℕ → Call → Turn
turn s r (Propose cells) = turn_of Proposes (propose s r cells)
turn s r Retry = turn_of Retries (retry s r)
turn s r Cancel = turn_of Cancels (cancel s r)
turn s r Withdraw = turn_of Withdraws (withdraw s r)
turn s r (Replan cells) = turn_of Replans (replan s r (has_cell cells))
turn s r (Report n) = turn_of Reports (report s r n)
turn s r LookAt = turn_of Looks (look s r)

-- the answers of calls, one after the other; each with its robot
abbrev pub answers : State → List (ℕ × Call) → List Answer
answers s [] = []
answers s (c ∷ cs) = (turn s c.0 c.1).answer ∷ answers (turn s c.0 c.1).after cs

-- the entries that these calls add
abbrev pub entries_of : State → List (ℕ × Call) → List Entry
entries_of s [] = []
entries_of s (c ∷ cs) = option_to_list (turn s c.0 c.1).entry ++ entries_of (turn s c.0 c.1).after cs

-- the state that these calls leave
abbrev pub after_calls : State → List (ℕ × Call) → State
after_calls s [] = s
after_calls s (c ∷ cs) = after_calls (turn s c.0 c.1).after cs
