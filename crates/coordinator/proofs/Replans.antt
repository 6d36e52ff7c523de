-- A replan that no refusal fits, and the refusals in front of its search.
use Rattle.std.proofs.Common.{◌≡◌, ℕ, ◌-◌, ◌<◌, ◌≤◌, Bool, true, false, not, List, length, get_or, Option, Some, None, refl, sym, ap, subst, ◌∙◌}
use Rattle.std.proofs.lemmas.Bool.{le-ltb, lt-ltb, ltb-true, not-false}
use Rattle.std.specs.Prelude.{Err}
use Rattle.std.specs.Option.{is_none, is_some}
use Rattle.fleet_model.specs.Lists.{has_cell}
use Rattle.fleet_base.specs.declared.answers.ReplanRefused.{ReplanRefused}
use Rattle.fleet_base.specs.declared.answers.ReplanRefused.TheVariants as refused
use Rattle.fleet_base.specs.declared.entries.Act.TheVariants as act
use Rattle.fleet_base.specs.declared.numbers.CellNo.{CellNo}
use Rattle.fleet_base.specs.declared.numbers.ClaimNo.{ClaimNo}
use Rattle.fleet_base.specs.declared.numbers.EventNo.{EventNo}
use Rattle.fleet_base.specs.declared.numbers.Kind.{Kind}
use Rattle.fleet_base.specs.declared.numbers.RobotNo.{RobotNo}
use Rattle.fleet_base.specs.declared.numbers.Span.{Span}
use Rattle.fleet_model.specs.Sites.{IsSite, steps}
use Rattle.fleet_model.specs.Plans.{IsBlocker, end_of}
use Rattle.fleet_model.specs.Deferral.{is_shut_to}
use Rattle.fleet_model.specs.States.{State, is_full, is_robot, pending_of}
use Rattle.fleet_model.specs.Calls.{Replan, Step, accepted, detour_of, first_of, in_segment, merge_growth, replan, span_of, with_route}
use Rattle.fleet_model.specs.Journals.{last_of}
use Rattle.fleet_model.proofs.Accepted.{IsReplanned, replanned as found_detour}
use Rattle.fleet_model.proofs.Detours.{detour_free, detour_least, detour_route, detour_to_last}
use Rattle.fleet_model.proofs.Options.{when_none}
use Rattle.fleet_model.proofs.Turns.{last_away}
use Rattle.coordinator.specs.Merging.{WouldMerge}
use Rattle.coordinator.specs.Replans.{IsDetour}
use Rattle.coordinator.proofs.Retries.{would_merge}

none_is : {A : Type 0} (o : Option A) → is_some o ≡ true → is_none o ≡ false
none_is None h = absurd (cc)
none_is (Some x) h = refl

some_there : {A : Type 0} (o : Option A) → is_none o ≡ false → is_some o ≡ true
some_there None h = absurd (cc)
some_there (Some x) h = refl

some_is : {A : Type 0} (o : Option A) → is_some o ≡ false → is_none o ≡ true
some_is None h = refl
some_is (Some x) h = absurd (cc)

module _ (s : State) (r : ℕ) (goal : CellNo → Bool) where
  pub unknown : length s.fleet.starts ≤ r → (replan s r goal).answer ≡ Err refused.UnknownRobot
  unknown past = rw (le-ltb r (length s.fleet.starts) past) refl

  module _ (known : r < length s.fleet.starts) where
    pub no_pending : is_some (pending_of s r) ≡ false → (replan s r goal).answer ≡ Err refused.NoPending
    no_pending none = rw (lt-ltb r (length s.fleet.starts) known, some_is (pending_of s r) none) refl

    module _ (pending : is_some (pending_of s r) ≡ true) where
      pub at_goal : goal (end_of s.fleet r) ≡ true → (replan s r goal).answer ≡ Err refused.AtGoal
      at_goal there = rw (lt-ltb r (length s.fleet.starts) known, none_is (pending_of s r) pending, there) refl

      pub no_detour : goal (end_of s.fleet r) ≡ false → detour_of s.fleet r goal ≡ None → (replan s r goal).answer ≡ Err refused.NoDetour
      no_detour away none = rw (lt-ltb r (length s.fleet.starts) known, none_is (pending_of s r) pending, away, none) refl

-- a robot that has a detour
module _ (s : State) (r : ℕ) (goal : CellNo → Bool) (route : List CellNo) (is : IsDetour s r goal route) where
  pub full : is_full s (length (steps s.fleet.site route)) ≡ true → (replan s r goal).answer ≡ Err refused.Full
  full no_room = rw (lt-ltb r (length s.fleet.starts) is.robot, none_is (pending_of s r) is.pending, is.away, is.found, no_room) refl

  pub replanned : is_full s (length (steps s.fleet.site route)) ≡ false → replan s r goal ≡ accepted (span_of s route) r (act.Replanned route (first_of s)) (in_segment s (merge_growth s route) (with_route s r route))
  replanned room = rw (lt-ltb r (length s.fleet.starts) is.robot, none_is (pending_of s r) is.pending, is.away, is.found, room) refl

-- a detour is the detour to its last cell alone
pub to_last : (s : State) (r : ℕ) (goal : CellNo → Bool) (route : List CellNo) → IsSite s.fleet.site → IsDetour s r goal route → IsDetour s r (has_cell (last_of route)) route
to_last s r goal route site is = record {
  robot = is.robot;
  pending = is.pending;
  away = last_away goal (is_shut_to s.fleet r) route (end_of s.fleet r) (detour_least s.fleet r goal site route is.found).leads is.away;
  found = detour_to_last s.fleet r goal site route is.found;
}

-- a replan to the last cell of the detour gives what the replan gives that has found it
pub same_to_last : (s : State) (r : ℕ) (goal : CellNo → Bool) (route : List CellNo) → IsSite s.fleet.site → IsDetour s r goal route → is_full s (length (steps s.fleet.site route)) ≡ false → replan s r (has_cell (last_of route)) ≡ replan s r goal
same_to_last s r goal route site is room = replanned s r (has_cell (last_of route)) route (to_last s r goal route site is) room ∙ sym (replanned s r goal route is room)

-- the detour would be merged
pub detour_merges : (s : State) (r : ℕ) (goal : CellNo → Bool) (route : List CellNo) (kinds : List Kind) (path : List CellNo) (d : CellNo) → IsSite s.fleet.site → IsDetour s r goal route → is_full s (length (steps s.fleet.site route)) ≡ false → kinds ≡ steps s.fleet.site route → path ≡ route
    → WouldMerge s r kinds (get_or route (length route - 1) d) (act.Replanned path (first_of s))
detour_merges s r goal route kinds path d site is room are same =
    let done = replanned s r (has_cell (last_of route)) route (to_last s r goal route site is) room in
    subst (λ w. WouldMerge s r kinds (get_or route (length route - 1) d) (act.Replanned w (first_of s))) (sym same)
    (would_merge s r route kinds (act.Replanned route (first_of s)) (Replan (last_of route)) (merge_growth s route) d is.robot (detour_route s.fleet r goal route site is.away is.found) are
    (ap (λ (t : Step Span ReplanRefused). t.entry) done) (ap length are) room (ap (λ (t : Step Span ReplanRefused). t.after) done))

same_route : (v w : List CellNo) (m n : EventNo) → act.Replanned v m ≡ act.Replanned w n → v ≡ w
same_route v w m n e = cc

-- the detour of a replan that was accepted
module _ (s : State) (r : ℕ) (goal : CellNo → Bool) (robot : RobotNo) (route : List CellNo) (first : EventNo) (gives : (replan s r goal).entry ≡ Some (record { robot = robot; act = act.Replanned route first })) where
  found : IsReplanned s r goal (record { robot = robot; act = act.Replanned route first })
  found = found_detour s r goal (record { robot = robot; act = act.Replanned route first }) gives

  its_route : found.route ≡ route
  its_route = sym (same_route route found.route first (first_of s) found.act)

  its_detour : IsDetour s r goal found.route
  its_detour = record {
    robot = ltb-true r (length s.fleet.starts) (not-false (is_robot s r) (when_none (not (is_robot s r)) refused.UnknownRobot found.none.0));
    pending = some_there (pending_of s r) (when_none (is_none (pending_of s r)) refused.NoPending found.none.1.0);
    away = when_none (goal (end_of s.fleet r)) refused.AtGoal found.none.1.1.0;
    found = found.found;
  }

  its_room : is_full s (length (steps s.fleet.site found.route)) ≡ false
  its_room = when_none (is_full s (length (steps s.fleet.site found.route))) refused.Full found.none.1.1.1.1.0

  pub entry_free : IsSite s.fleet.site → (claim : ClaimNo) (q : ℕ) → IsBlocker s.fleet r route claim q → ⊥
  entry_free site claim q blocks = detour_free s.fleet r goal site found.route found.found claim q (subst (λ w. IsBlocker s.fleet r w claim q) (sym its_route) blocks)

  -- the replan to the last cell of its route alone gives the same
  pub replan_to_last : IsSite s.fleet.site → replan s r (has_cell (last_of route)) ≡ replan s r goal
  replan_to_last site = subst (λ w. replan s r (has_cell (last_of w)) ≡ replan s r goal) its_route (same_to_last s r goal found.route site its_detour its_room)

  pub entry_to_last : IsSite s.fleet.site → (replan s r (has_cell (last_of route))).entry ≡ Some (record { robot = robot; act = act.Replanned route first })
  entry_to_last site = ap (λ (t : Step Span ReplanRefused). t.entry) (replan_to_last site) ∙ gives
