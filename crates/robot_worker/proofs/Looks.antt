-- What the policy picks by a look is what it picks by the state.
use Rattle.std.proofs.Common.{◌≡◌, ℕ, Bool, true, false, not, ◌&&◌, ◌==◌, refl, sym, ap, ◌∙◌, List, [], ◌∷◌, length, Option, Some, None}
use Rattle.std.proofs.lemmas.Bool.{and_parts, both_ways, eqb-true, false_from_ne_true}
use Rattle.std.proofs.lemmas.List.{length-map}
use Rattle.std.specs.Prelude.{slice_get}
use Rattle.std.specs.List.{list_any}
use Rattle.std.specs.Option.{is_some, is_none, option_map, option_and_then, unwrap_or}
use Rattle.fleet_base.specs.Lists.{robots_of}
use Rattle.fleet_base.specs.declared.answers.Block.{Block}
use Rattle.fleet_base.specs.declared.answers.EventLook.{EventLook}
use Rattle.fleet_base.specs.declared.answers.EventLook.TheVariants as event_look
use Rattle.fleet_base.specs.declared.answers.PendingLook.{PendingLook}
use Rattle.fleet_base.specs.declared.answers.PendingLook.TheVariants as pending_look
use Rattle.fleet_base.specs.declared.numbers.CellNo.{CellNo}
use Rattle.fleet_base.specs.declared.numbers.Event.{Event}
use Rattle.fleet_base.specs.declared.numbers.EventNo.{EventNo}
use Rattle.fleet_base.specs.declared.numbers.Kind.{Kind}
use Rattle.fleet_model.specs.Sites.{needs}
use Rattle.fleet_model.specs.Deferral.{ends, is_kept_by, least_blocker}
use Rattle.fleet_model.proofs.Filters.{filter_none}
use Rattle.fleet_model.proofs.Options.{map_some}
use Rattle.fleet_model.specs.Lists.{when, first_some, least}
use Rattle.fleet_model.specs.Cycles.{are_distinct, is_cycle, leads, lists_within, precedes}
use Rattle.fleet_model.specs.States.{State, pending_of, pending_route, block_of, cycle_of, is_deferred_on}
use Rattle.fleet_model.specs.Calls.{look_of, look_at_next, look_at_event, look_at_pending, next_event, waits_on}
use Rattle.mission_model.specs.declared.doing.Doing.{Doing}
use Rattle.mission_model.specs.declared.doing.Doing.TheVariants as doing
use Rattle.mission_model.specs.Policies.{is_free, is_on_cycle, doing_of}

-- the pick by the pending route that is shown
abbrev pub pick_pending : PendingLook → Bool → Doing
pick_pending pending_look.Nothing true = doing.Propose
pick_pending pending_look.Nothing false = doing.Rest
pick_pending pending_look.Free leg_left = doing.Retry
pick_pending (pending_look.Blocked block) leg_left = unwrap_or (when (leg_left && not (length block.cycle == 0)) doing.Replan) doing.Rest

-- the pick by the event that is shown, else by the pending route
abbrev pub pick : EventLook → PendingLook → Bool → Doing
pick (event_look.Ready event kind) pending leg_left = doing.Report event
pick (event_look.Waits event on) pending leg_left = pick_pending pending leg_left
pick event_look.Nothing pending leg_left = pick_pending pending leg_left

-- no list is a cycle through a number that leads nowhere
no_cycle : (edge : ℕ → ℕ → Bool) (r : ℕ) → ((q : ℕ) → edge r q ≡ false) → (xs : List ℕ) → is_cycle edge r xs ≡ false
no_cycle edge r none [] = refl
no_cycle edge r none (q ∷ qs) =
    false_from_ne_true (is_cycle edge r (q ∷ qs)) (λ t.
    let p = and_parts (q == r) (are_distinct (q ∷ qs) && leads edge r (q ∷ qs)) t in
    leads_none q qs (eqb-true q r p.0) (and_parts (are_distinct (q ∷ qs)) (leads edge r (q ∷ qs)) p.1).1)
  where
    leads_none : (q : ℕ) (qs : List ℕ) → q ≡ r → leads edge r (q ∷ qs) ≡ true → ⊥
    leads_none q [] e l = both_ways (edge q r) (ap (λ x. edge x r) e ∙ none r) l
    leads_none q (p ∷ ps) e l = both_ways (edge q p) (ap (λ x. edge x p) e ∙ none p) (and_parts (edge q p) (leads edge r (p ∷ ps)) l).0

-- a robot without a pending route is on no cycle
pub none_on_cycle : (s : State) (r : ℕ) → pending_of s r ≡ None → is_on_cycle s r ≡ false
none_on_cycle s r none =
    ap (λ xs. not (length (unwrap_or (least precedes xs) []) == 0))
    (filter_none (is_cycle (is_deferred_on s) r) (lists_within (length s.fleet.starts) (length s.fleet.starts)) (λ xs i. no_cycle (is_deferred_on s) r nowhere xs))
  where
    nowhere : (q : ℕ) → is_deferred_on s r q ≡ false
    nowhere q =
        let blocked : List CellNo → Bool = λ route. list_any (λ c. is_kept_by s.fleet.site c (slice_get (ends s.fleet) q)) (needs s.fleet.site route) in
        false_from_ne_true (is_deferred_on s r q) (λ t.
        both_ways (blocked (pending_route s r)) (ap (λ o. blocked (unwrap_or o [])) none) (and_parts (not (q == r)) (blocked (pending_route s r)) t).1)

-- the tests behind the first
abbrev others : State → ℕ → Bool → List (Option Doing)
others s r left = when (is_free s r) doing.Retry ∷ when (is_on_cycle s r && left) doing.Replan ∷ when (is_none (pending_of s r) && left) doing.Propose ∷ []

-- what is picked where the tests have these values
abbrev tests : Option (List CellNo) → Option Block → Bool → Bool → Doing
tests p b on left = unwrap_or (first_some (when (is_some p && is_none b) doing.Retry ∷ when (on && left) doing.Replan ∷ when (is_none p && left) doing.Propose ∷ [])) doing.Rest

by_pending : (p : Option (List CellNo)) (b : Option Block) (on left : Bool) → (p ≡ None → on ≡ false) → ((block : Block) → b ≡ Some block → not (length block.cycle == 0) ≡ on) → pick_pending (look_at_pending p b) left ≡ tests p b on left
by_pending None b false true h k = refl
by_pending None b false false h k = refl
by_pending None b true left h k = absurd (let e = h refl in cc)
by_pending (Some route) None on left h k = refl
by_pending (Some route) (Some block) on left h k = ap (λ c. unwrap_or (when (left && c) doing.Replan) doing.Rest) (k block refl) ∙ turned left on
  where
    turned : (left on : Bool) → unwrap_or (when (left && on) doing.Replan) doing.Rest ≡ tests (Some route) (Some block) on left
    turned true true = refl
    turned true false = refl
    turned false true = refl
    turned false false = refl

-- the cycle that a block names is the robot's
named : (s : State) (r : ℕ) (route : List CellNo) (block : Block) → block_of s r route ≡ Some block → not (length block.cycle == 0) ≡ is_on_cycle s r
named s r route block h =
    let m = map_some (least_blocker s.fleet.site (ends s.fleet) r (needs s.fleet.site route)) block h in
    let same : block.cycle ≡ robots_of (cycle_of s r) = ap (λ (b : Block). b.cycle) (sym m.2) in
    ap (λ n. not (n == 0)) (ap length same ∙ length-map (cycle_of s r) (λ n. record { 0 = n }))

-- what is picked by the pending route
pending_picked : (s : State) (r : ℕ) (left : Bool) → pick_pending (look_of s r).pending left ≡ unwrap_or (first_some (others s r left)) doing.Rest
pending_picked s r left = by_pending (pending_of s r) (block_of s r (pending_route s r)) (is_on_cycle s r) left (none_on_cycle s r) (named s r (pending_route s r))

pub picked_by_look : (s : State) (r : ℕ) (left : Bool) → pick (look_of s r).event (look_of s r).pending left ≡ doing_of s r left
picked_by_look s r left = by_event (next_event s.fleet r)
  where
    shown : PendingLook
    shown = look_at_pending (pending_of s r) (block_of s r (pending_route s r))

    by_wait : (e : Event) (o : Option EventNo) → pick (look_at_event e o) shown left ≡ unwrap_or (first_some (option_map (λ (x : Event). doing.Report x.no) (when (is_none o) e) ∷ others s r left)) doing.Rest
    by_wait e None = refl
    by_wait e (Some on) = pending_picked s r left

    by_event : (o : Option Event) → pick (look_at_next s.fleet o) shown left ≡ unwrap_or (first_some (option_map (λ (x : Event). doing.Report x.no) (option_and_then (λ (x : Event). when (is_none (waits_on s.fleet x)) x) o) ∷ others s r left)) doing.Rest
    by_event None = pending_picked s r left
    by_event (Some e) = by_wait e (waits_on s.fleet e)

-- what is picked where no event is ready and nothing is pending
pub picked_nothing : (e : EventLook) (p : PendingLook) (left : Bool) → ((n : EventNo) (k : Kind) → e ≡ event_look.Ready n k → ⊥) → p ≡ pending_look.Nothing → left ≡ true → pick e p left ≡ doing.Propose
picked_nothing (event_look.Ready n k) p left none is there = absurd (none n k refl)
picked_nothing (event_look.Waits n on) p left none is there = ap (λ x. pick_pending x left) is ∙ ap (pick_pending pending_look.Nothing) there
picked_nothing event_look.Nothing p left none is there = ap (λ x. pick_pending x left) is ∙ ap (pick_pending pending_look.Nothing) there
