-- What a policy act is, and what its entry says.
use Rattle.std.proofs.Common.{◌≡◌, ℕ, ◌+◌, ◌<◌, not, refl, sym, ap, ◌∙◌, subst, List, [], ◌∷◌, ◌++◌, length, Option, Some, None}
use Rattle.std.proofs.lemmas.Bool.{not-false, ltb-true}
use Rattle.std.proofs.lemmas.Option.{same_Some}
use Rattle.std.specs.Option.{is_some, option_and_then}
use Rattle.fleet_base.specs.declared.answers.Block.{Block}
use Rattle.fleet_base.specs.declared.entries.Act.TheVariants.{Merged, Deferred, Retried, Reported}
use Rattle.fleet_base.specs.declared.entries.Entry.{Entry}
use Rattle.fleet_base.specs.declared.answers.ProposeRefused.TheVariants as propose_refused
use Rattle.fleet_base.specs.declared.answers.ReplanRefused.TheVariants as replan_refused
use Rattle.fleet_base.specs.declared.answers.ReportRefused.TheVariants as report_refused
use Rattle.fleet_base.specs.declared.answers.RetryRefused.TheVariants as retry_refused
use Rattle.fleet_base.specs.declared.numbers.CellNo.{CellNo}
use Rattle.fleet_model.specs.Lists.{has_cell, when}
use Rattle.fleet_model.specs.Sites.{IsSite}
use Rattle.fleet_model.specs.States.{State, is_robot, pending_route, block_of}
use Rattle.fleet_model.specs.Calls.{Call, Propose, Retry, Cancel, Withdraw, Replan, Report, LookAt, turn, propose_refusals, propose_outcome, deferring, retry_refusals, report_refusals, accepted, span_of, first_of, in_segment, merge_growth, with_route, next_event, reported}
use Rattle.fleet_model.specs.Good.{IsGood}
use Rattle.fleet_model.specs.Journals.{turn_at, IsJournal, state_after}
use Rattle.fleet_model.proofs.Options.{map_some, when_none}
use Rattle.fleet_model.proofs.Accepted.{accepts, nothing, replanned, told, unless_accepted}
use Rattle.fleet_model.proofs.GoodStates.{journal_good}
use Rattle.fleet_model.proofs.Turns.{own_call}
use Rattle.mission_model.specs.declared.doing.Doing.{Doing}
use Rattle.mission_model.specs.declared.doing.Doing.TheVariants as doing
use Rattle.mission_model.specs.Stops.{Leg, Missions, legs_of, next_leg}
use Rattle.mission_model.specs.Policies.{route_to, detour_to, doing_of, call_for, policy_act, policy_entry, goes_on}
use Rattle.mission_model.specs.Runs.{IsTrueAct, IsTrueEntry}
use Rattle.mission_model.proofs.Journals.{journal_more}

-- the call is one that a robot with this next leg makes
abbrev pub IsPolicyCall : State → ℕ → Option Leg → Call → Type 0
IsPolicyCall s r leg (Propose route) = route_to s.fleet r leg ≡ Some route
IsPolicyCall s r leg Retry = Unit {0}
IsPolicyCall s r leg Cancel = ⊥
IsPolicyCall s r leg Withdraw = ⊥
IsPolicyCall s r leg (Replan goal) = leg ≡ Some goal
IsPolicyCall s r leg (Report n) = Unit {0}
IsPolicyCall s r leg LookAt = ⊥

-- what the policy picked is done by such a call
pub policy_call : (s : State) (r : ℕ) (leg : Option Leg) (d : Doing) (call : Call) → call_for s r leg d ≡ Some call → IsPolicyCall s r leg call
policy_call s r leg (doing.Report event) call h = subst (IsPolicyCall s r leg) (same_Some (Report event) call h) tt
policy_call s r leg doing.Retry call h = subst (IsPolicyCall s r leg) (same_Some Retry call h) tt
policy_call s r leg doing.Replan call h = let m = map_some leg call h in subst (IsPolicyCall s r leg) m.2 m.1
policy_call s r leg doing.Propose call h = let m = map_some (route_to s.fleet r leg) call h in subst (IsPolicyCall s r leg) m.2 m.1
policy_call s r leg doing.Rest call h = absurd (cc)

-- each policy act is such a call
pub act_is_call : (s : State) (r : ℕ) (leg : Option Leg) (call : Call) → policy_act s r leg ≡ Some call → IsPolicyCall s r leg call
act_is_call s r leg call h = policy_call s r leg (doing_of s r (is_some leg)) call h

-- the entry of such a call is true to the mission, and the robot is one of the fleet
pub record TellsTrue (s : State) (r : ℕ) (leg : Option Leg) (entry : Entry) : Type 0 where
  pub act : IsTrueAct s.fleet r leg entry.act
  pub known : r < length s.fleet.starts

known_from : {E : Type 0} (s : State) (r : ℕ) (e : E) → when (not (is_robot s r)) e ≡ None → r < length s.fleet.starts
known_from s r e h = ltb-true r (length s.fleet.starts) (not-false (is_robot s r) (when_none (not (is_robot s r)) e h))

proposal_true : (s : State) (r : ℕ) (leg : Option Leg) (cells : List CellNo) (block : Option Block) (entry : Entry) → route_to s.fleet r leg ≡ Some cells → (propose_outcome s r cells block).entry ≡ Some entry → IsTrueAct s.fleet r leg entry.act
proposal_true s r leg cells None entry is h = subst (IsTrueAct s.fleet r leg) (sym (told r (Merged cells (first_of s)) entry h).1) is
proposal_true s r leg cells (Some block) entry is h = subst (IsTrueAct s.fleet r leg) (sym (told r (Deferred cells block.cycle) entry h).1) is

pub call_true : (s : State) (r : ℕ) (leg : Option Leg) (call : Call) (entry : Entry) → IsPolicyCall s r leg call → (turn s r call).entry ≡ Some entry → TellsTrue s r leg entry
call_true s r leg (Propose cells) entry is h =
    let block = block_of (deferring s r cells) r cells in
    let a = unless_accepted (propose_refusals s r cells block) s (propose_outcome s r cells block) entry h in
    record { act = proposal_true s r leg cells block entry is a.told; known = known_from s r propose_refused.UnknownRobot a.none.0 }
call_true s r leg Retry entry is h =
    let route = pending_route s r in
    let a = unless_accepted (retry_refusals s r route) s (accepted (span_of s route) r (Retried (first_of s)) (in_segment s (merge_growth s route) (with_route s r route))) entry h in
    record { act = subst (IsTrueAct s.fleet r leg) (sym (told r (Retried (first_of s)) entry a.told).1) tt; known = known_from s r retry_refused.UnknownRobot a.none.0 }
call_true s r leg (Replan goal) entry is h =
    let p = replanned s r (has_cell goal) entry h in
    record {
      act = subst (IsTrueAct s.fleet r leg) (sym p.act) (ap (detour_to s.fleet r) is ∙ p.found);
      known = known_from s r replan_refused.UnknownRobot p.none.0;
    }
call_true s r leg (Report n) entry is h =
    let next = next_event s.fleet r in
    let a = unless_accepted (report_refusals s r n next) s (accepted nothing r (Reported n) (record s { fleet = reported s.fleet next; count = s.count + 1 })) entry h in
    record { act = subst (IsTrueAct s.fleet r leg) (sym (told r (Reported n) entry a.told).1) tt; known = known_from s r report_refused.UnknownRobot a.none.0 }
call_true s r leg Cancel entry is h = absurd is
call_true s r leg Withdraw entry is h = absurd is
call_true s r leg LookAt entry is h = absurd is

-- the entry of a policy act
pub record IsPolicyEntry (s : State) (r : ℕ) (leg : Option Leg) (entry : Entry) : Type 0 where
  pub call : Call
  pub picked : policy_act s r leg ≡ Some call
  pub gives : (turn s r call).entry ≡ Some entry

entry_of : {X : Type 0} (f : Call → Option X) (o : Option Call) (x : X) → option_and_then f o ≡ Some x → (call : Call) × (o ≡ Some call) × (f call ≡ Some x)
entry_of f None x h = absurd (cc)
entry_of f (Some call) x h = (call, refl, h)

pub policy_entry_is : (s : State) (r : ℕ) (leg : Option Leg) (entry : Entry) → policy_entry s r leg ≡ Some entry → IsPolicyEntry s r leg entry
policy_entry_is s r leg entry h =
    let e = entry_of (λ call. (turn s r call).entry) (policy_act s r leg) entry h in
    record { call = e.0; picked = e.1; gives = e.2 }

-- the entry by which a robot goes on behind a legal journal: it is that of an accepted call of the robot, and true to its mission
pub record GoesOn (missions : Missions) (opening : State) (journal : List Entry) (r : ℕ) (entry : Entry) : Type 0 where
  pub robot : entry.robot.0 ≡ r
  pub told : (turn_at (state_after opening journal) entry).entry ≡ Some entry
  pub legal : IsJournal opening (journal ++ entry ∷ [])
  pub mission : IsTrueEntry missions opening journal entry
  pub known : r < length (state_after opening journal).fleet.starts

pub goes_on_is : (missions : Missions) (opening : State) (journal : List Entry) (r : ℕ) (entry : Entry) → IsSite opening.fleet.site → IsGood opening → IsJournal opening journal → goes_on missions opening journal r ≡ Some entry → GoesOn missions opening journal r entry
goes_on_is missions opening journal r entry is_site good legal h =
    let s = state_after opening journal in
    let g = journal_good opening journal is_site good legal in
    let leg = next_leg (legs_of missions r) opening journal r in
    let p = policy_entry_is s r leg entry h in
    let robot = (accepts s r p.call entry g.1 g.0 p.gives).robot in
    let own = own_call s r p.call entry g.1 p.gives in
    let true_to = call_true s r leg p.call entry (act_is_call s r leg p.call p.picked) p.gives in
    record {
      robot = robot;
      told = own.gives;
      legal = journal_more opening journal entry legal own.gives;
      mission = subst (λ q. IsTrueAct s.fleet q (next_leg (legs_of missions q) opening journal q) entry.act) (sym robot) true_to.act;
      known = true_to.known;
    }
