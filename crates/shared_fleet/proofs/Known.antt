-- A robot of the fleet is never told that it is unknown.
use Rattle.std.proofs.Common.{◌≡◌, ℕ, Bool, true, false, not, ap, List, [], ◌∷◌, ◌==◌, length, Option, Some, None, Err}
use Rattle.std.specs.Prelude.{nat_lt}
use Rattle.std.specs.Option.{is_some, is_none, option_map, option_and_then, unwrap_or}
use Rattle.fleet_base.specs.declared.answers.Block.{Block}
use Rattle.fleet_base.specs.declared.answers.CancelRefused.{CancelRefused}
use Rattle.fleet_base.specs.declared.answers.CancelRefused.TheVariants as cancel_refused
use Rattle.fleet_base.specs.declared.answers.ProposeRefused.{ProposeRefused}
use Rattle.fleet_base.specs.declared.answers.ProposeRefused.TheVariants as propose_refused
use Rattle.fleet_base.specs.declared.answers.ReplanRefused.{ReplanRefused}
use Rattle.fleet_base.specs.declared.answers.ReplanRefused.TheVariants as replan_refused
use Rattle.fleet_base.specs.declared.answers.ReportRefused.{ReportRefused}
use Rattle.fleet_base.specs.declared.answers.ReportRefused.TheVariants as report_refused
use Rattle.fleet_base.specs.declared.answers.RetryRefused.{RetryRefused}
use Rattle.fleet_base.specs.declared.answers.RetryRefused.TheVariants as retry_refused
use Rattle.fleet_base.specs.declared.answers.UnknownRobot.{UnknownRobot}
use Rattle.fleet_base.specs.declared.answers.WithdrawRefused.{WithdrawRefused}
use Rattle.fleet_base.specs.declared.answers.WithdrawRefused.TheVariants as withdraw_refused
use Rattle.fleet_base.specs.declared.numbers.CellNo.{CellNo}
use Rattle.fleet_base.specs.declared.numbers.EventNo.{EventNo}
use Rattle.fleet_model.specs.Lists.{when, first_some, has_cell}
use Rattle.fleet_model.specs.Plans.{end_of, removable_tail}
use Rattle.fleet_model.specs.States.{State, is_robot, is_full, pending_of, pending_route, block_of}
use Rattle.fleet_model.specs.Calls.{Step, unless_refused, propose, propose_refusals, propose_outcome, propose_growth, unknown_at, unlinked_at, begin_at, retry, retry_refusals, merge_growth, cancel, cancel_refusals, withdraw, withdraw_refusals, replan, replan_refusals, report, report_refusals, is_number, waits_on, next_event, deferring, detour_of, Call, Propose, Retry, Cancel, Withdraw, Replan, Report, LookAt, look, turn}
use Rattle.shared_fleet.specs.Turning.{IsOfKnown}

-- none of these is this refusal
AllNot : {E : Type 0} → E → List (Option E) → Type 0
AllNot u [] = Unit {0}
AllNot u (o ∷ os) = (o ≡ Some u → ⊥) × AllNot u os

first_not : {E : Type 0} (u : E) (os : List (Option E)) → AllNot u os → first_some os ≡ Some u → ⊥
unfolding AllNot
first_not u [] nots h = cc
first_not u (None ∷ os) nots h = first_not u os nots.1 h
first_not u (Some x ∷ os) nots h = nots.0 h

not_answered : {A E : Type 0} (u : E) (o : Option E) (s : State) (step : Step A E) → (o ≡ Some u → ⊥) → (step.answer ≡ Err u → ⊥) → (unless_refused o s step).answer ≡ Err u → ⊥
not_answered u (Some e) s step first answer h = let same : e ≡ u = cc in first (ap Some same)
not_answered u None s step first answer h = answer h

when_not : {E : Type 0} (b : Bool) (x u : E) → (x ≡ u → ⊥) → when b x ≡ Some u → ⊥
when_not true x u n h = let same : x ≡ u = cc in n same
when_not false x u n h = cc

map_not : {A E : Type 0} (f : A → E) (o : Option A) (u : E) → ((a : A) → f a ≡ u → ⊥) → option_map f o ≡ Some u → ⊥
map_not f (Some a) u n h = let same : f a ≡ u = cc in n a same
map_not f None u n h = cc

unknown_not : {E : Type 0} (b : Bool) (u : E) → b ≡ true → when (not b) u ≡ Some u → ⊥
unknown_not true u e h = cc
unknown_not false u e h = cc

pub known_propose : (s : State) (r : ℕ) (cells : List CellNo) → is_robot s r ≡ true → (propose s r cells).answer ≡ Err propose_refused.UnknownRobot → ⊥
unfolding AllNot
known_propose s r cells is =
    let block = block_of (deferring s r cells) r cells in
    let u : ProposeRefused = propose_refused.UnknownRobot in
    not_answered u (first_some (propose_refusals s r cells block)) s (propose_outcome s r cells block)
    (first_not u (propose_refusals s r cells block) (
      unknown_not (is_robot s r) u is,
      (
        when_not (is_some (pending_of s r)) propose_refused.HasPending u (λ e. cc),
        (
          when_not (nat_lt (length cells) 2) propose_refused.Short u (λ e. cc),
          (
            when_not (nat_lt 1024 (length cells)) propose_refused.TooLong u (λ e. cc),
            (
              map_not (λ at. propose_refused.UnknownCell at) (unknown_at s.fleet.site cells) u (λ a e. cc),
              (
                map_not (λ at. propose_refused.NoLink at) (unlinked_at s.fleet.site cells) u (λ a e. cc),
                (
                  when_not (not (begin_at (end_of s.fleet r) cells)) (propose_refused.BadStart (end_of s.fleet r)) u (λ e. cc),
                  (
                    when_not (is_full s (propose_growth s cells block)) propose_refused.Full u (λ e. cc),
                    tt,
                  ),
                ),
              ),
            ),
          ),
        ),
      ),
    ))
    (outcome block)
  where
    outcome : (block : Option Block) → (propose_outcome s r cells block).answer ≡ Err propose_refused.UnknownRobot → ⊥
    outcome None h = cc
    outcome (Some block) h = cc

pub known_retry : (s : State) (r : ℕ) → is_robot s r ≡ true → (retry s r).answer ≡ Err retry_refused.UnknownRobot → ⊥
unfolding AllNot
known_retry s r is =
    let route = pending_route s r in
    let u : RetryRefused = retry_refused.UnknownRobot in
    not_answered u (first_some (retry_refusals s r route)) s _
    (first_not u (retry_refusals s r route) (
      unknown_not (is_robot s r) u is,
      (
        when_not (is_none (pending_of s r)) retry_refused.NoPending u (λ e. cc),
        (
          map_not (λ block. retry_refused.StillDeferred block) (block_of s r route) u (λ a e. cc),
          (
            when_not (is_full s (merge_growth s route)) retry_refused.Full u (λ e. cc),
            tt,
          ),
        ),
      ),
    ))
    (λ h. cc)

pub known_cancel : (s : State) (r : ℕ) → is_robot s r ≡ true → (cancel s r).answer ≡ Err cancel_refused.UnknownRobot → ⊥
unfolding AllNot
known_cancel s r is =
    let u : CancelRefused = cancel_refused.UnknownRobot in
    not_answered u (first_some (cancel_refusals s r)) s _
    (first_not u (cancel_refusals s r) (unknown_not (is_robot s r) u is, (when_not (is_none (pending_of s r)) cancel_refused.NoPending u (λ e. cc), tt)))
    (λ h. cc)

pub known_withdraw : (s : State) (r : ℕ) → is_robot s r ≡ true → (withdraw s r).answer ≡ Err withdraw_refused.UnknownRobot → ⊥
unfolding AllNot
known_withdraw s r is =
    let tail = removable_tail s.fleet r in
    let u : WithdrawRefused = withdraw_refused.UnknownRobot in
    not_answered u (first_some (withdraw_refusals s r tail)) s _
    (first_not u (withdraw_refusals s r tail) (unknown_not (is_robot s r) u is, (when_not (length tail == 0) withdraw_refused.Nothing u (λ e. cc), tt)))
    (λ h. cc)

pub known_replan : (s : State) (r : ℕ) (goal : CellNo → Bool) → is_robot s r ≡ true → (replan s r goal).answer ≡ Err replan_refused.UnknownRobot → ⊥
unfolding AllNot
known_replan s r goal is =
    let detour = detour_of s.fleet r goal in
    let u : ReplanRefused = replan_refused.UnknownRobot in
    not_answered u (first_some (replan_refusals s r goal detour)) s _
    (first_not u (replan_refusals s r goal detour) (
      unknown_not (is_robot s r) u is,
      (
        when_not (is_none (pending_of s r)) replan_refused.NoPending u (λ e. cc),
        (
          when_not (goal (end_of s.fleet r)) replan_refused.AtGoal u (λ e. cc),
          (
            when_not (is_none detour) replan_refused.NoDetour u (λ e. cc),
            (
              when_not (is_full s (merge_growth s (unwrap_or detour []))) replan_refused.Full u (λ e. cc),
              tt,
            ),
          ),
        ),
      ),
    ))
    (λ h. cc)

pub known_report : (s : State) (r : ℕ) (event : EventNo) → is_robot s r ≡ true → (report s r event).answer ≡ Err report_refused.UnknownRobot → ⊥
unfolding AllNot
known_report s r event is =
    let next = next_event s.fleet r in
    let u : ReportRefused = report_refused.UnknownRobot in
    not_answered u (first_some (report_refusals s r event next)) s _
    (first_not u (report_refusals s r event next) (
      unknown_not (is_robot s r) u is,
      (
        when_not (not (is_number next event)) (report_refused.NotNext (option_map (λ e. e.no) next)) u (λ e. cc),
        (
          map_not (λ on. report_refused.Early on) (option_and_then (waits_on s.fleet) next) u (λ a e. cc),
          tt,
        ),
      ),
    ))
    (λ h. cc)

pub known_look : (s : State) (r : ℕ) (u : UnknownRobot) → is_robot s r ≡ true → (look s r).answer ≡ Err u → ⊥
unfolding AllNot
known_look s r u is =
    not_answered u (first_some (when (not (is_robot s r)) u ∷ [])) s _
    (first_not u (when (not (is_robot s r)) u ∷ []) (unknown_not (is_robot s r) u is, tt))
    (λ h. cc)

-- of any call
pub known_turn : (s : State) (r : ℕ) (call : Call) → is_robot s r ≡ true → IsOfKnown (turn s r call).answer
known_turn s r (Propose cells) is = known_propose s r cells is
known_turn s r Retry is = known_retry s r is
known_turn s r Cancel is = known_cancel s r is
known_turn s r Withdraw is = known_withdraw s r is
known_turn s r (Replan cells) is = known_replan s r (has_cell cells) is
known_turn s r (Report event) is = known_report s r event is
known_turn s r LookAt is = known_look s r (record {}) is
