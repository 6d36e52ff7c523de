-- In a quiet state no event is unfinished.
use Rattle.std.proofs.Common.{◌≡◌, ℕ, true, not, ◌&&◌, refl, sym, ap, ◌∙◌, subst, List, [], ◌∷◌, Option, Some, None}
use Rattle.std.proofs.lemmas.Bool.{both_ways, not-true}
use Rattle.std.specs.Option.{is_some, is_none, option_map, option_and_then, unwrap_or}
use Rattle.fleet_base.specs.declared.entries.Entry.{Entry}
use Rattle.fleet_base.specs.declared.numbers.Event.{Event}
use Rattle.fleet_model.specs.Lists.{In, here, when, first_some}
use Rattle.fleet_model.specs.Sites.{IsSite}
use Rattle.fleet_model.specs.Plans.{Fleet, unfinished, is_done, IsReady, IsBehind}
use Rattle.fleet_model.specs.States.{State, pending_of}
use Rattle.fleet_model.specs.Calls.{Report, turn, next_event, waits_on}
use Rattle.fleet_model.specs.Good.{IsGood}
use Rattle.fleet_model.specs.Journals.{IsJournal, state_after}
use Rattle.fleet_model.proofs.Lists.{In_unfilter}
use Rattle.fleet_model.proofs.Good.{ready_event}
use Rattle.fleet_model.proofs.Reports.{ready_next, ready_waits, report_accepted}
use Rattle.fleet_model.proofs.GoodStates.{journal_good}
use Rattle.mission_model.specs.declared.doing.Doing.{Doing}
use Rattle.mission_model.specs.declared.doing.Doing.TheVariants as doing
use Rattle.mission_model.specs.Stops.{Leg, Missions, legs_of, next_leg}
use Rattle.mission_model.specs.Policies.{ready_event as found_ready, is_free, is_on_cycle, call_for, policy_act, policy_entry, can_go_on, IsQuiet}

-- a ready event is what its robot's policy reports
ready_found : (m : Fleet) (e : Event) → next_event m e.robot.0 ≡ Some e → waits_on m e ≡ None → found_ready m e.robot.0 ≡ Some e
ready_found m e next none =
    ap (option_and_then (λ (x : Event). when (is_none (waits_on m x)) x)) next ∙ ap (λ o. when (is_none o) e) none

report_picked : (s : State) (r : ℕ) (leg : Option Leg) (e : Event) → found_ready s.fleet r ≡ Some e → policy_act s r leg ≡ Some (Report e.no)
report_picked s r leg e h = ap (λ o. call_for s r leg (unwrap_or (first_some (option_map (λ (x : Event). doing.Report x.no) o ∷ others)) doing.Rest)) h
  where
    others : List (Option Doing)
    others = when (is_free s r) doing.Retry ∷ when (is_on_cycle s r && is_some leg) doing.Replan ∷ when (is_none (pending_of s r) && is_some leg) doing.Propose ∷ []

-- where an event is ready, its robot can go on
pub ready_goes_on : (s : State) (leg : Option Leg) (e : Event) → IsGood s → IsReady (IsBehind s.fleet.site.groups) s.fleet.plan s.fleet.finished e → is_some (policy_entry s e.robot.0 leg) ≡ true
ready_goes_on s leg e good ready =
    let picked = report_picked s e.robot.0 leg e (ready_found s.fleet e (ready_next s.fleet e good.plan ready) (ready_waits s.fleet e ready)) in
    ap (λ o. is_some (option_and_then (λ call. (turn s e.robot.0 call).entry) o)) picked
    ∙ ap (λ x. is_some x.entry) (report_accepted s e good.plan ready)

none_left : (s : State) → IsGood s → ((e : Event) → IsReady (IsBehind s.fleet.site.groups) s.fleet.plan s.fleet.finished e → ⊥) → unfinished s.fleet ≡ []
none_left s good none = go (unfinished s.fleet) refl
  where
    go : (es : List Event) → unfinished s.fleet ≡ es → unfinished s.fleet ≡ []
    go [] h = h
    go (e ∷ es) h =
        let u = In_unfilter (λ (f : Event). not (is_done s.fleet.finished f)) s.fleet.plan (subst (λ xs. In e xs) (sym h) (here refl)) in
        let r = ready_event s.fleet good.plan e u.0 (not-true (is_done s.fleet.finished e) u.1) in
        absurd (none r.0 r.1)

pub quiet_unfinished : (missions : Missions) (opening : State) (journal : List Entry) → IsSite opening.fleet.site → IsGood opening → IsJournal opening journal → IsQuiet missions opening journal → unfinished (state_after opening journal).fleet ≡ []
quiet_unfinished missions opening journal is_site good legal quiet =
    let s = state_after opening journal in
    let g = journal_good opening journal is_site good legal in
    none_left s g.0 (λ e ready.
    both_ways (can_go_on missions opening journal e.robot.0) (quiet e.robot.0) (ready_goes_on s (next_leg (legs_of missions e.robot.0) opening journal e.robot.0) e g.0 ready))
