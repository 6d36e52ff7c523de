-- The accepted calls of a list are a journal, and the call that an entry records gives the entry.
use Rattle.std.proofs.Common.{◌≡◌, ℕ, Bool, true, false, not, ◌==◌, refl, sym, ap, ◌∙◌, subst, List, [], ◌∷◌, ◌++◌, ◌+◌, length, Option, Some, None}
use Rattle.std.proofs.lemmas.Bool.{both_ways, and_parts, or_from, eqb-true, false_from_ne_true}
use Rattle.std.specs.Prelude.{Ok}
use Rattle.std.specs.List.{list_all}
use Rattle.std.specs.Option.{option_to_list, unwrap_or}
use Rattle.fleet_base.specs.declared.answers.Block.{Block}
use Rattle.fleet_base.specs.declared.answers.Look.{Look}
use Rattle.fleet_base.specs.declared.answers.UnknownRobot.{UnknownRobot}
use Rattle.fleet_base.specs.declared.answers.ReplanRefused.{ReplanRefused}
use Rattle.fleet_base.specs.declared.answers.Withdrawn.{Withdrawn as Removed}
use Rattle.fleet_base.specs.declared.entries.Act.{Act}
use Rattle.fleet_base.specs.declared.entries.Act.TheVariants.{Merged, Deferred, Retried, Canceled, Withdrawn, Replanned, Reported}
use Rattle.fleet_base.specs.declared.entries.Entry.{Entry}
use Rattle.fleet_base.specs.declared.numbers.CellNo.{CellNo}
use Rattle.fleet_base.specs.declared.numbers.Span.{Span}
use Rattle.fleet_model.specs.Lists.{when, first_some, has_cell}
use Rattle.fleet_model.specs.Sites.{IsSite, last_cell}
use Rattle.fleet_model.specs.Plans.{end_of, removable_tail, withdrawn}
use Rattle.fleet_model.specs.Routes.{leads_to}
use Rattle.fleet_model.specs.Deferral.{is_shut_to}
use Rattle.fleet_model.specs.States.{State, is_robot, pending_route, block_of}
use Rattle.fleet_model.specs.Calls.{Step, unless, unless_refused, propose_refusals, propose_outcome, retry_refusals, cancel_refusals, withdraw_refusals, replan, replan_refusals, report_refusals, next_event, reported, accepted, deferring, in_segment, merge_growth, with_route, moved, span_of, first_of, detour_of, Call, Propose, Retry, Cancel, Withdraw, Replan, Report, LookAt, look_of, turn, entries_of, after_calls}
use Rattle.fleet_model.specs.Good.{IsGood}
use Rattle.fleet_model.specs.Journals.{last_of, call_of, turn_at, IsJournal, state_after}
use Rattle.fleet_model.proofs.Options.{when_none}
use Rattle.fleet_model.proofs.SameNumbers.{same_cell}
use Rattle.fleet_model.proofs.Detours.{detour_least, detour_to_last}
use Rattle.fleet_model.proofs.Accepted.{AllNone, unless_accepted, told, no_entry, nothing, IsReplanned, replanned}
use Rattle.fleet_model.proofs.GoodStates.{turn_good}
use Rattle.fleet_base.specs.declared.answers.ReplanRefused.TheVariants as replan_refused

-- the entry's own call gives the entry and the same state
pub record IsOwnCall (s : State) (r : ℕ) (call : Call) (entry : Entry) : Type 0 where
  pub gives : (turn_at s entry).entry ≡ Some entry
  pub after : (turn_at s entry).after ≡ (turn s r call).after

-- where the entry records the call itself
own_same : (s : State) (r : ℕ) (call : Call) (entry : Entry) → (turn s r call).entry ≡ Some entry → entry.robot.0 ≡ r → call_of entry.act ≡ call → IsOwnCall s r call entry
own_same s r call entry h robot same =
    let is : turn_at s entry ≡ turn s r call = ap (λ n. turn s n (call_of entry.act)) robot ∙ ap (λ c. turn s r c) same in
    record { gives = ap (λ t. t.entry) is ∙ h; after = ap (λ t. t.after) is }

-- what the entry of an accepted call tells
unless_told : {A E : Type 0} (refusals : List (Option E)) (s : State) (answer : A) (r : ℕ) (act : Act) (next : State) (entry : Entry) → (unless refusals s (accepted answer r act next)).entry ≡ Some entry → (entry.robot.0 ≡ r) × (entry.act ≡ act)
unless_told refusals s answer r act next entry h = told r act entry (unless_accepted refusals s (accepted answer r act next) entry h).told

-- the entry of an accepted proposal records the proposal
proposal_told : (s : State) (r : ℕ) (cells : List CellNo) (block : Option Block) (entry : Entry) → (propose_outcome s r cells block).entry ≡ Some entry → (entry.robot.0 ≡ r) × (call_of entry.act ≡ Propose cells)
proposal_told s r cells None entry h = let t = told r (Merged cells (first_of s)) entry h in (t.0, ap call_of t.1)
proposal_told s r cells (Some block) entry h = let t = told r (Deferred cells block.cycle) entry h in (t.0, ap call_of t.1)

-- where no value is there, none is first
pub all_none_first : {A : Type 0} (os : List (Option A)) → AllNone os → first_some os ≡ None
all_none_first [] h = refl
all_none_first (o ∷ os) h = ap (λ x. first_some (x ∷ os)) h.0 ∙ all_none_first os h.1

-- a step that no refusal fits is taken
pub unless_none : {A E : Type 0} (refusals : List (Option E)) (s : State) (step : Step A E) → AllNone refusals → unless refusals s step ≡ step
unless_none refusals s step h = ap (λ o. unless_refused o s step) (all_none_first refusals h)

-- a goal that the end isn't in has another last cell on the way to it
pub last_away : (goal avoid : CellNo → Bool) (route : List CellNo) (end : CellNo) → leads_to goal avoid route ≡ true → goal end ≡ false → has_cell (last_of route) end ≡ false
last_away goal avoid [] end leads away = refl
last_away goal avoid (a ∷ bs) end leads away =
    or_from ((last_cell a bs).0 == end.0) false
    (false_from_ne_true ((last_cell a bs).0 == end.0) (λ t.
    let same : last_cell a bs ≡ end = same_cell (last_cell a bs) end (eqb-true (last_cell a bs).0 end.0 t) in
    both_ways (goal end) away (subst (λ c. goal c ≡ true) same (and_parts (goal (last_cell a bs)) (list_all (λ b. not (avoid b)) (a ∷ bs)) leads).0)))
    refl

-- a replan to the last cell of a detour gives what the replan gave that found it
replan_to_last : (s : State) (r : ℕ) (goal : CellNo → Bool) (entry : Entry) → IsSite s.fleet.site → (replan s r goal).entry ≡ Some entry
    → (route : List CellNo) × (entry.robot.0 ≡ r) × (entry.act ≡ Replanned route (first_of s)) × (replan s r (has_cell (last_of route)) ≡ replan s r goal)
replan_to_last s r goal entry is_site h = (p.route, p.robot, p.act, there_is ∙ sym p.is)
  where
    p : IsReplanned s r goal entry
    p = replanned s r goal entry h

    last : CellNo → Bool
    last = has_cell (last_of p.route)

    done : List CellNo → Step Span ReplanRefused
    done way = accepted (span_of s way) r (Replanned way (first_of s)) (in_segment s (merge_growth s way) (with_route s r way))

    away : last (end_of s.fleet r) ≡ false
    away = last_away goal (is_shut_to s.fleet r) p.route (end_of s.fleet r) (detour_least s.fleet r goal is_site p.route p.found).leads (when_none (goal (end_of s.fleet r)) replan_refused.AtGoal p.none.1.1.0)

    none_there : AllNone (replan_refusals s r last (Some p.route))
    none_there = (p.none.0, (p.none.1.0, (ap (λ b. when b replan_refused.AtGoal) away, p.none.1.1.1)))

    there_is : replan s r last ≡ done p.route
    there_is =
        ap (λ o. unless (replan_refusals s r last o) s (done (unwrap_or o []))) (detour_to_last s.fleet r goal is_site p.route p.found)
        ∙ unless_none (replan_refusals s r last (Some p.route)) s (done p.route) none_there

-- the call that an accepted call's entry records gives the entry, and leaves the same state
pub own_call : (s : State) (r : ℕ) (call : Call) (entry : Entry) → IsSite s.fleet.site → (turn s r call).entry ≡ Some entry → IsOwnCall s r call entry
own_call s r (Propose cells) entry is_site h =
    let block = block_of (deferring s r cells) r cells in
    let t = proposal_told s r cells block entry (unless_accepted (propose_refusals s r cells block) s (propose_outcome s r cells block) entry h).told in
    own_same s r (Propose cells) entry h t.0 t.1
own_call s r Retry entry is_site h = let t = unless_told (retry_refusals s r (pending_route s r)) s (span_of s (pending_route s r)) r (Retried (first_of s)) (in_segment s (merge_growth s (pending_route s r)) (with_route s r (pending_route s r))) entry h in own_same s r Retry entry h t.0 (ap call_of t.1)
own_call s r Cancel entry is_site h = let t = unless_told (cancel_refusals s r) s nothing r Canceled (moved s s.fleet r None) entry h in own_same s r Cancel entry h t.0 (ap call_of t.1)
own_call s r Withdraw entry is_site h =
    let tail = removable_tail s.fleet r in
    let answer : Removed = record { removed = length tail; end = end_of (withdrawn s.fleet tail) r } in
    let t = unless_told (withdraw_refusals s r tail) s answer r (Withdrawn (length tail) (end_of (withdrawn s.fleet tail) r)) (moved s (withdrawn s.fleet tail) r None) entry h in
    own_same s r Withdraw entry h t.0 (ap call_of t.1)
own_call s r (Replan cells) entry is_site h =
    let l = replan_to_last s r (has_cell cells) entry is_site h in
    let is : turn_at s entry ≡ turn s r (Replan (last_of l.0)) = ap (λ n. turn s n (call_of entry.act)) l.1 ∙ ap (λ a. turn s r (call_of a)) l.2 in
    record { gives = ap (λ x. x.entry) is ∙ (ap (λ x. x.entry) l.3 ∙ h); after = ap (λ x. x.after) is ∙ ap (λ x. x.after) l.3 }
own_call s r (Report n) entry is_site h =
    let next = next_event s.fleet r in
    let t = unless_told (report_refusals s r n next) s nothing r (Reported n) (record s { fleet = reported s.fleet next; count = s.count + 1 }) entry h in
    own_same s r (Report n) entry h t.0 (ap call_of t.1)
own_call s r LookAt entry is_site h = absurd (no_entry s r (not (is_robot s r)) (record {}) entry h)

-- the same for one refusal, or none
refused_same : {A E : Type 0} (o : Option E) (s : State) (step : Step A E) (entry : Entry) → step.entry ≡ Some entry → (unless_refused o s step).entry ≡ None → (unless_refused o s step).after ≡ s
refused_same (Some e) s step entry told h = refl
refused_same None s step entry told h = absurd (cc)

-- where a call that would add an entry adds none, the state stays
unless_same : {A E : Type 0} (refusals : List (Option E)) (s : State) (step : Step A E) (entry : Entry) → step.entry ≡ Some entry → (unless refusals s step).entry ≡ None → (unless refusals s step).after ≡ s
unless_same refusals s step entry told h = refused_same (first_some refusals) s step entry told h

-- each outcome of a proposal adds an entry
proposal_entry : (s : State) (r : ℕ) (cells : List CellNo) (block : Option Block) → (entry : Entry) × ((propose_outcome s r cells block).entry ≡ Some entry)
proposal_entry s r cells None = (record { robot = record { 0 = r }; act = Merged cells (first_of s) }, refl)
proposal_entry s r cells (Some block) = (record { robot = record { 0 = r }; act = Deferred cells block.cycle }, refl)

look_same : (s : State) (r : ℕ) (b : Bool) (refused : UnknownRobot) → (unless {A = Look} (when b refused ∷ []) s (record { answer = Ok (look_of s r); entry = None; after = s })).after ≡ s
look_same s r true refused = refl
look_same s r false refused = refl

-- a call that adds no entry leaves the state
pub same_after : (s : State) (r : ℕ) (call : Call) → (turn s r call).entry ≡ None → (turn s r call).after ≡ s
same_after s r (Propose cells) h =
    let block = block_of (deferring s r cells) r cells in
    let e = proposal_entry s r cells block in
    unless_same (propose_refusals s r cells block) s (propose_outcome s r cells block) e.0 e.1 h
same_after s r Retry h = unless_same (retry_refusals s r (pending_route s r)) s (accepted (span_of s (pending_route s r)) r (Retried (first_of s)) (in_segment s (merge_growth s (pending_route s r)) (with_route s r (pending_route s r)))) (record { robot = record { 0 = r }; act = Retried (first_of s) }) refl h
same_after s r Cancel h = unless_same (cancel_refusals s r) s (accepted nothing r Canceled (moved s s.fleet r None)) (record { robot = record { 0 = r }; act = Canceled }) refl h
same_after s r Withdraw h =
    let tail = removable_tail s.fleet r in
    let fleet = withdrawn s.fleet tail in
    let answer : Removed = record { removed = length tail; end = end_of fleet r } in
    unless_same (withdraw_refusals s r tail) s (accepted answer r (Withdrawn (length tail) (end_of fleet r)) (moved s fleet r None)) (record { robot = record { 0 = r }; act = Withdrawn (length tail) (end_of fleet r) }) refl h
same_after s r (Replan cells) h =
    let detour = detour_of s.fleet r (has_cell cells) in
    let route = unwrap_or detour [] in
    unless_same (replan_refusals s r (has_cell cells) detour) s (accepted (span_of s route) r (Replanned route (first_of s)) (in_segment s (merge_growth s route) (with_route s r route))) (record { robot = record { 0 = r }; act = Replanned route (first_of s) }) refl h
same_after s r (Report n) h =
    let next = next_event s.fleet r in
    unless_same (report_refusals s r n next) s (accepted nothing r (Reported n) (record s { fleet = reported s.fleet next; count = s.count + 1 })) (record { robot = record { 0 = r }; act = Reported n }) refl h
same_after s r LookAt h = look_same s r (not (is_robot s r)) (record {})

-- calls keep a state good
pub call_good : (s : State) (r : ℕ) (call : Call) → IsSite s.fleet.site → IsGood s → IsGood (turn s r call).after × IsSite (turn s r call).after.fleet.site
call_good s r call is_site good = go (turn s r call).entry refl
  where
    go : (o : Option Entry) → (turn s r call).entry ≡ o → IsGood (turn s r call).after × IsSite (turn s r call).after.fleet.site
    go None e = let same = sym (same_after s r call e) in (subst IsGood same good, subst (λ n. IsSite n.fleet.site) same is_site)
    go (Some entry) e =
        let own = own_call s r call entry is_site e in
        let g = turn_good s entry is_site good own.gives in
        (subst IsGood own.after g.0, subst (λ n. IsSite n.fleet.site) own.after g.1)

-- the entries of the accepted ones of a list of calls are a journal, and its state is the one that the calls leave
pub calls_journal : (s : State) (calls : List (ℕ × Call)) → IsSite s.fleet.site → IsGood s → IsJournal s (entries_of s calls) × (state_after s (entries_of s calls) ≡ after_calls s calls)
calls_journal s [] is_site good = (tt, refl)
calls_journal s (c ∷ cs) is_site good =
    let g = call_good s c.0 c.1 is_site good in
    joined (turn s c.0 c.1).entry refl (calls_journal (turn s c.0 c.1).after cs g.1 g.0)
  where
    next : State
    next = (turn s c.0 c.1).after

    joined : (o : Option Entry) → (turn s c.0 c.1).entry ≡ o → IsJournal (turn s c.0 c.1).after (entries_of (turn s c.0 c.1).after cs) × (state_after (turn s c.0 c.1).after (entries_of (turn s c.0 c.1).after cs) ≡ after_calls (turn s c.0 c.1).after cs)
        → IsJournal s (option_to_list o ++ entries_of (turn s c.0 c.1).after cs) × (state_after s (option_to_list o ++ entries_of (turn s c.0 c.1).after cs) ≡ after_calls (turn s c.0 c.1).after cs)
    joined None e rest =
        let same = same_after s c.0 c.1 e in (
          subst (λ n. IsJournal n (entries_of (turn s c.0 c.1).after cs)) same rest.0,
          ap (λ n. state_after n (entries_of (turn s c.0 c.1).after cs)) (sym same) ∙ rest.1,
        )
    joined (Some entry) e rest =
        let own = own_call s c.0 c.1 entry is_site e in (
          (own.gives, subst (λ n. IsJournal n (entries_of (turn s c.0 c.1).after cs)) (sym own.after) rest.0),
          ap (λ n. state_after n (entries_of (turn s c.0 c.1).after cs)) own.after ∙ rest.1,
        )
