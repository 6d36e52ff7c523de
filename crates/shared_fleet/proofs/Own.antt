-- The entry of an accepted call is one of its robot.
use Rattle.std.proofs.Common.{◌≡◌, inl, inr, ℕ, Bool, not, refl, List, [], ◌∷◌, ◌+◌, length, Option, Some, None, Ok, Err}
use Rattle.std.specs.Prelude.{Result}
use Rattle.std.specs.Option.{option_to_list, unwrap_or}
use Rattle.fleet_base.specs.declared.answers.Block.{Block}
use Rattle.fleet_base.specs.declared.answers.Look.{Look}
use Rattle.fleet_base.specs.declared.answers.UnknownRobot.{UnknownRobot}
use Rattle.fleet_base.specs.declared.answers.Withdrawn.{Withdrawn as Removed}
use Rattle.fleet_base.specs.declared.entries.Act.{Act}
use Rattle.fleet_base.specs.declared.entries.Act.TheVariants.{Merged, Deferred, Retried, Canceled, Withdrawn, Replanned, Reported}
use Rattle.fleet_base.specs.declared.entries.Entry.{Entry}
use Rattle.fleet_base.specs.declared.numbers.CellNo.{CellNo}
use Rattle.fleet_base.specs.declared.numbers.EventNo.{EventNo}
use Rattle.fleet_model.specs.Lists.{when, first_some, has_cell}
use Rattle.fleet_model.specs.Plans.{end_of, removable_tail, withdrawn}
use Rattle.fleet_model.specs.States.{State, is_robot, pending_route, block_of}
use Rattle.fleet_model.specs.Calls.{Step, unless_refused, propose, propose_refusals, propose_outcome, retry, retry_refusals, cancel, cancel_refusals, withdraw, withdraw_refusals, replan, replan_refusals, report, report_refusals, next_event, reported, accepted, deferring, in_segment, merge_growth, with_route, moved, span_of, first_of, detour_of, Call, Propose, Retry, Cancel, Withdraw, Replan, Report, LookAt, look, look_of, turn}
use Rattle.fleet_model.proofs.Accepted.{told}
use Rattle.shared_fleet.specs.Resting.{IsOwn}
use Rattle.shared_fleet.specs.Turning.{added_by}

-- where the call's own entry is one of the robot, so is what is added behind its refusals
own_step : {A E : Type 0} (o : Option E) (s : State) (step : Step A E) (r : ℕ) → ((entry : Entry) → step.entry ≡ Some entry → entry.robot.0 ≡ r) → (entry : Entry) → (unless_refused o s step).entry ≡ Some entry → entry.robot.0 ≡ r
own_step (Some e) s step r own entry h = absurd (cc)
own_step None s step r own entry h = own entry h

own_accepted : {A E : Type 0} (o : Option E) (s : State) (answer : A) (r : ℕ) (act : Act) (next : State) (entry : Entry) → (unless_refused o s (accepted answer r act next)).entry ≡ Some entry → entry.robot.0 ≡ r
own_accepted o s answer r act next entry h = own_step o s (accepted answer r act next) r (λ e g. (told r act e g).0) entry h

own_outcome : (s : State) (r : ℕ) (cells : List CellNo) (block : Option Block) (entry : Entry) → (propose_outcome s r cells block).entry ≡ Some entry → entry.robot.0 ≡ r
own_outcome s r cells None entry h = (told r (Merged cells (first_of s)) entry h).0
own_outcome s r cells (Some block) entry h = (told r (Deferred cells block.cycle) entry h).0

pub own_propose : (s : State) (r : ℕ) (cells : List CellNo) (entry : Entry) → (propose s r cells).entry ≡ Some entry → entry.robot.0 ≡ r
own_propose s r cells entry h =
    let block = block_of (deferring s r cells) r cells in
    own_step (first_some (propose_refusals s r cells block)) s (propose_outcome s r cells block) r (own_outcome s r cells block) entry h

pub own_retry : (s : State) (r : ℕ) (entry : Entry) → (retry s r).entry ≡ Some entry → entry.robot.0 ≡ r
own_retry s r entry h =
    let route = pending_route s r in
    own_accepted (first_some (retry_refusals s r route)) s (span_of s route) r (Retried (first_of s)) (in_segment s (merge_growth s route) (with_route s r route)) entry h

pub own_cancel : (s : State) (r : ℕ) (entry : Entry) → (cancel s r).entry ≡ Some entry → entry.robot.0 ≡ r
own_cancel s r entry h = let done : Unit {0} = tt in own_accepted (first_some (cancel_refusals s r)) s done r Canceled (moved s s.fleet r None) entry h

pub own_withdraw : (s : State) (r : ℕ) (entry : Entry) → (withdraw s r).entry ≡ Some entry → entry.robot.0 ≡ r
own_withdraw s r entry h =
    let tail = removable_tail s.fleet r in
    let answer : Removed = record { removed = length tail; end = end_of (withdrawn s.fleet tail) r } in
    own_accepted (first_some (withdraw_refusals s r tail)) s answer r (Withdrawn (length tail) (end_of (withdrawn s.fleet tail) r)) (moved s (withdrawn s.fleet tail) r None) entry h

pub own_replan : (s : State) (r : ℕ) (goal : CellNo → Bool) (entry : Entry) → (replan s r goal).entry ≡ Some entry → entry.robot.0 ≡ r
own_replan s r goal entry h =
    let detour = detour_of s.fleet r goal in
    let route = unwrap_or detour [] in
    own_accepted (first_some (replan_refusals s r goal detour)) s (span_of s route) r (Replanned route (first_of s)) (in_segment s (merge_growth s route) (with_route s r route)) entry h

pub own_report : (s : State) (r : ℕ) (event : EventNo) (entry : Entry) → (report s r event).entry ≡ Some entry → entry.robot.0 ≡ r
own_report s r event entry h =
    let next = next_event s.fleet r in
    let done : Unit {0} = tt in
    own_accepted (first_some (report_refusals s r event next)) s done r (Reported event) (record s { fleet = reported s.fleet next; count = s.count + 1 }) entry h

pub own_look : (s : State) (r : ℕ) (entry : Entry) → (look s r).entry ≡ Some entry → entry.robot.0 ≡ r
own_look s r entry h =
    let unknown : UnknownRobot = record {} in
    let seen : Step Look UnknownRobot = record { answer = Ok (look_of s r); entry = None; after = s } in
    own_step (first_some (when (not (is_robot s r)) unknown ∷ [])) s seen r (λ e g. absurd (cc)) entry h

-- the entry of any call
pub own_turn : (s : State) (r : ℕ) (call : Call) (entry : Entry) → (turn s r call).entry ≡ Some entry → entry.robot.0 ≡ r
own_turn s r (Propose cells) entry h = own_propose s r cells entry h
own_turn s r Retry entry h = own_retry s r entry h
own_turn s r Cancel entry h = own_cancel s r entry h
own_turn s r Withdraw entry h = own_withdraw s r entry h
own_turn s r (Replan cells) entry h = own_replan s r (has_cell cells) entry h
own_turn s r (Report event) entry h = own_report s r event entry h
own_turn s r LookAt entry h = own_look s r entry h

-- what is added by such an entry, where there is one
pub own_entry : (r : ℕ) (entry : Option Entry) → ((e : Entry) → entry ≡ Some e → e.robot.0 ≡ r) → IsOwn r (option_to_list entry)
own_entry r None own = inl refl
own_entry r (Some e) own = inr (e, own e refl, refl)

-- what an accepted or a refused call adds
pub own_added : {A E : Type 0} (r : ℕ) (told : Result A E) (entry : Option Entry) → ((e : Entry) → entry ≡ Some e → e.robot.0 ≡ r) → IsOwn r (added_by told entry)
own_added r (Ok answer) entry own = own_entry r entry own
own_added r (Err refusal) entry own = inl refl
