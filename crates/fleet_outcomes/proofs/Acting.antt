-- What a robot asks for is its policy act, and where it goes next.
use Rattle.std.proofs.Common.{◌≡◌, ℕ, zero, suc, ◌+◌, ◌<◌, Bool, true, false, cond, not, refl, sym, ap, ◌∙◌, subst, List, [], ◌∷◌, length, drop, arith, Option, Some, None}
use Rattle.std.proofs.lemmas.Bool.{lt-ltb}
use Rattle.std.proofs.lemmas.List.Elements.{All-head}
use Rattle.std.proofs.lemmas.Option.{same_Some}
use Rattle.std.specs.Prelude.{All, Ok, Err, slice_get}
use Rattle.std.specs.List.{prefix_len}
use Rattle.std.specs.Option.{is_some, option_to_list}
use Rattle.fleet_base.specs.declared.answers.Look.{Look}
use Rattle.fleet_base.specs.declared.answers.UnknownRobot.{UnknownRobot}
use Rattle.fleet_base.specs.declared.entries.Entry.{Entry}
use Rattle.fleet_base.specs.declared.numbers.CellNo.{CellNo}
use Rattle.fleet_model.specs.Lists.{has_cell, when}
use Rattle.fleet_model.specs.Plans.{end_of}
use Rattle.fleet_model.specs.Routes.{least_route}
use Rattle.fleet_model.specs.Sites.{IsSite}
use Rattle.fleet_model.specs.Good.{IsGood}
use Rattle.fleet_model.specs.Journals.{IsJournal, state_after}
use Rattle.fleet_model.specs.States.{State, is_robot}
use Rattle.fleet_model.specs.Calls.{look, look_of, unless}
use Rattle.fleet_model.proofs.Options.{is_some-map}
use Rattle.mission_model.specs.declared.doing.Doing.{Doing}
use Rattle.mission_model.specs.Policies.{call_for, doing_of, policy_act, route_to}
use Rattle.mission_model.specs.Stops.{Leg, legs_of, next_leg, served}
use Rattle.mission_model.proofs.Serving.{served_at_end}
use Rattle.scenario.specs.Scenarios.{legs_of as goals_of}
use Rattle.site_map.specs.Built.{BuiltSite}
use Rattle.site_map.specs.Claims.{site_of}
use Rattle.site_map.specs.Goals.{IsGoal, goal_cells}
use Rattle.site_map.specs.declared.goal.Goal.{Goal}
use Rattle.coordinator.specs.Books.{Book, opening_of}
use Rattle.robot_worker.specs.Legs.{leg_cells}
use Rattle.robot_worker.proofs.Counts.{leg_plain}
use Rattle.fleet_outcomes.specs.Fleets.{missions_in}
use Rattle.fleet_outcomes.specs.Standing.{LeadsOn}
use Rattle.fleet_outcomes.proofs.Ways.{plain_at}

-- a robot that is known isn't refused a look
pub look_known : (s : State) (r : ℕ) (e : UnknownRobot) → r < length s.fleet.starts → Err e ≡ (look s r).answer → ⊥
look_known s r e known h = go (is_robot s r) (lt-ltb r (length s.fleet.starts) known) h
  where
    go : (b : Bool) → b ≡ true → Err e ≡ (unless {A = Look} {E = UnknownRobot} (when (not b) (record {}) ∷ []) s (record { answer = Ok (look_of s r); entry = None; after = s })).answer → ⊥
    go true k h = absurd (cc)
    go false k h = absurd (cc)

-- a look that is answered shows the state
pub look_shows : (s : State) (r : ℕ) (v : Look) → Ok v ≡ (look s r).answer → v ≡ look_of s r
look_shows s r v h = go (is_robot s r) h
  where
    go : (b : Bool) → Ok v ≡ (unless {A = Look} {E = UnknownRobot} (when (not b) (record {}) ∷ []) s (record { answer = Ok (look_of s r); entry = None; after = s })).answer → v ≡ look_of s r
    go true h = (cc)
    go false h = absurd (cc)

-- what the policy picked is done by its act
pub picked : (s : State) (r : ℕ) (site : BuiltSite) (leg at : Option Goal) (left : Bool) (d : Doing) → leg ≡ at → left ≡ is_some leg → d ≡ doing_of s r left → call_for s r (leg_cells site at) d ≡ policy_act s r (leg_cells site leg)
picked s r site leg at left d same l h =
    ap (λ o. call_for s r (leg_cells site o) d) (sym same)
    ∙ ap (call_for s r (leg_cells site leg)) (h ∙ ap (doing_of s r) (l ∙ sym (is_some-map (goal_cells site) leg)))

-- the goal of the leg is one of the site
pub goal_of : (site : BuiltSite) (leg : Option Goal) (goal : Goal) → All (IsGoal site) (option_to_list leg) → leg ≡ Some goal → IsGoal site goal
goal_of site leg goal all is = All-head (IsGoal site) goal [] (subst (λ o. All (IsGoal site) (option_to_list o)) is all)

-- a route that was found from the robot's end is that of its leg
pub way_here : (s : State) (r : ℕ) (goal : Goal) (found site : BuiltSite) (end : CellNo) (o : Option (List CellNo)) → s.fleet.site ≡ site_of site → found ≡ site → end ≡ end_of s.fleet r → o ≡ least_route (site_of found) (has_cell (goal_cells found goal)) (λ a. false) end
    → o ≡ route_to s.fleet r (leg_cells site (Some goal))
way_here s r goal found site end o plain same ends is =
    is
    ∙ (ap (λ x. least_route (site_of x) (has_cell (goal_cells x goal)) (λ a. false) end) same
    ∙ (ap (λ x. least_route x (has_cell (goal_cells site goal)) (λ a. false) end) (sym plain)
    ∙ ap (λ e. least_route s.fleet.site (has_cell (goal_cells site goal)) (λ a. false) e) ends))

-- The next leg.

-- behind the legs that are served at a cell stands none whose goal contains the cell
none_next : (legs : List Leg) (n : ℕ) (a : CellNo) (goal : Leg) → prefix_len (λ goal. has_cell goal a) (drop n legs) ≡ 0 → slice_get legs n ≡ Some goal → has_cell goal a ≡ false
none_next [] n a goal h is = absurd (cc)
none_next (leg ∷ legs) zero a goal h is = subst (λ x. has_cell x a ≡ false) (same_Some leg goal is) (go (has_cell leg a) h)
  where
    go : (b : Bool) → cond b (1 + prefix_len (λ goal. has_cell goal a) legs) 0 ≡ 0 → b ≡ false
    go true e = absurd (omega arith)
    go false e = refl
none_next (leg ∷ legs) (suc n) a goal h is = none_next legs n a goal h is

-- at the robot's end the next leg isn't served
pub leads_on : (legs : List Leg) (opening : State) (journal : List Entry) (r : ℕ) (leg : Option Leg) → IsSite opening.fleet.site → IsGood opening → IsJournal opening journal → leg ≡ next_leg legs opening journal r → LeadsOn (state_after opening journal).fleet r leg
leads_on legs opening journal r None site good legal is = tt
leads_on legs opening journal r (Some goal) site good legal is =
    let same = served_at_end legs opening journal r site good legal in
    none_next legs (served legs opening journal r) (end_of (state_after opening journal).fleet r) goal (omega arith) (sym is)

-- the leg at the place of the count is the next one
pub leg_next : (book : Book) (missions : List (List Goal)) (r count : ℕ) (leg : Option Goal) (goals : List Goal) → goals ≡ goals_of missions r → count ≡ served (legs_of (missions_in book missions) r) (opening_of book) book.journal r → leg ≡ slice_get goals count
    → leg_cells book.site leg ≡ next_leg (legs_of (missions_in book missions) r) (opening_of book) book.journal r
leg_next book missions r count leg goals same counts is =
    ap (leg_cells book.site) (is ∙ ap (λ gs. slice_get gs count) same)
    ∙ (leg_plain book.site (goals_of missions r) count
    ∙ (ap (λ legs. slice_get legs count) (plain_at book.site missions r) ∙ ap (slice_get (legs_of (missions_in book missions) r)) counts))
