-- The outcome that applies first.
use Rattle.std.proofs.Common.{◌≡◌, ℕ, suc, ◌+◌, ◌<◌, Bool, true, false, not, ◌&&◌, ◌||◌, ◌==◌, refl, sym, ap, ◌∙◌, subst, List, [], ◌∷◌, ◌++◌, length, map, arith, Option, Some, None}
use Rattle.std.proofs.lemmas.Bool.{ne_eqb, not_from_false}
use Rattle.std.proofs.lemmas.List.{length-map, map-append}
use Rattle.std.specs.Option.{is_some, is_none, unwrap_or}
use Rattle.fleet_base.specs.Lists.{robots_of}
use Rattle.fleet_base.specs.declared.answers.Block.{Block}
use Rattle.fleet_base.specs.declared.answers.PendingLook.TheVariants as pending_look
use Rattle.fleet_base.specs.declared.numbers.CellNo.{CellNo}
use Rattle.fleet_base.specs.declared.numbers.ClaimNo.{ClaimNo}
use Rattle.fleet_base.specs.declared.numbers.RobotNo.{RobotNo}
use Rattle.fleet_model.specs.Lists.{first_some, numbers_below, when}
use Rattle.fleet_model.specs.Sites.{needs}
use Rattle.fleet_model.specs.Plans.{own, unfinished}
use Rattle.fleet_model.specs.Deferral.{ends, least_blocker}
use Rattle.fleet_model.specs.States.{State, cycle_of, pending_of, pending_route}
use Rattle.fleet_model.specs.Calls.{look_at_pending}
use Rattle.fleet_model.proofs.Blockers.{blocker_below, found_blocks}
use Rattle.fleet_model.proofs.Options.{map_some}
use Rattle.mission_model.specs.declared.outcome.Outcome.{Outcome}
use Rattle.mission_model.specs.declared.outcome.Outcome.TheVariants.{Active, Waiting, Done, Unreachable, Full, InCycle, Behind}
use Rattle.mission_model.specs.Outcomes.{behind_of, blocker_of, has_none_pending, lacks_room, outcome_at}
use Rattle.mission_model.specs.Policies.{detour_to, is_free, is_on_cycle, policy_entry, route_to}
use Rattle.mission_model.specs.Stops.{Leg}
use Rattle.site_map.proofs.CellLemmas.{numbers_below_push}
use Rattle.fleet_outcomes.specs.Standing.{IsAtRest}

-- the first of the outcomes whose test holds
abbrev judged : Outcome → Outcome → Bool → Bool → Bool → Bool → Bool → Bool → Outcome
judged cycle behind a b c d e f =
    unwrap_or (first_some (when a Active ∷ when b Waiting ∷ when c Done ∷ when d Unreachable ∷ when e Full ∷ when f cycle ∷ [])) behind

-- of what is there, there isn't nothing
none_not : {A : Type 0} (o : Option A) → is_some o ≡ true → is_none o ≡ false
none_not None h = absurd (cc)
none_not (Some x) h = refl

module _ (s : State) (r : ℕ) where
  abbrev found : Option (ClaimNo × ℕ)
  found = least_blocker s.fleet.site (ends s.fleet) r (needs s.fleet.site (pending_route s r))

  -- the robot of a least blocker is one of the fleet
  pub blocker_known : (q : ℕ) → blocker_of s r ≡ Some q → q < length s.fleet.starts
  blocker_known q h =
      let m = map_some {f = λ (b : ClaimNo × ℕ). b.1} found q h in
      subst (λ n. n < length s.fleet.starts) m.2 (blocker_below s.fleet r (pending_route s r) m.0.0 m.0.1 (found_blocks s.fleet r (pending_route s r) m.0 m.1))

  -- the outcome by the tests of all of them
  abbrev by : Bool → Bool → Bool → Bool → Bool → Bool → Outcome
  by a b c d e f = judged (InCycle (robots_of (cycle_of s r))) (Behind (robots_of (behind_of s r))) a b c d e f

  abbrev moves : Bool
  moves = not (length (own r (unfinished s.fleet)) == 0)

  pub is_active : (leg : Option Leg) → is_some (policy_entry s r leg) ≡ true → Active ≡ outcome_at s r leg
  is_active leg h =
      sym (λ i. by (h i) moves (has_none_pending s r && is_none leg) (has_none_pending s r && is_none (route_to s.fleet r leg)) (lacks_room s r leg) (is_on_cycle s r))

  pub is_waiting : (leg : Option Leg) → is_some (policy_entry s r leg) ≡ false → moves ≡ true → Waiting ≡ outcome_at s r leg
  is_waiting leg h g =
      sym (λ i. by (h i) (g i) (has_none_pending s r && is_none leg) (has_none_pending s r && is_none (route_to s.fleet r leg)) (lacks_room s r leg) (is_on_cycle s r))

  module _ (leg : Option Leg) (rests : IsAtRest s r leg) where
    still : moves ≡ false
    still = ap (λ n. not (n == 0)) rests.finished

    -- a robot that has nothing pending

    pub is_done : pending_of s r ≡ None → leg ≡ None → Done ≡ outcome_at s r leg
    is_done p l =
        sym (λ i. by (rests.stuck i) (still i) (is_none (p i) && is_none (l i)) (is_none (p i) && is_none (route_to s.fleet r leg)) (lacks_room s r leg) (is_on_cycle s r))

    pub is_unreachable : (goal : Leg) → pending_of s r ≡ None → leg ≡ Some goal → route_to s.fleet r leg ≡ None → Unreachable ≡ outcome_at s r leg
    is_unreachable goal p l none =
        sym (λ i. by (rests.stuck i) (still i) (is_none (p i) && is_none (l i)) (is_none (p i) && is_none (none i)) (lacks_room s r leg) (is_on_cycle s r))

    pub is_idle_full : (goal : Leg) (route : List CellNo) → pending_of s r ≡ None → leg ≡ Some goal → route_to s.fleet r leg ≡ Some route → Full ≡ outcome_at s r leg
    is_idle_full goal route p l some =
        sym (λ i. by (rests.stuck i) (still i) (is_none (p i) && is_none (l i)) (is_none (p i) && is_none (some i))
        (is_none (p i) || (is_free s r || (is_on_cycle s r && is_some (detour_to s.fleet r leg)))) (is_on_cycle s r))

    -- a robot that has a route pending

    module _ (there : is_some (pending_of s r) ≡ true) where
      some : is_none (pending_of s r) ≡ false
      some = none_not (pending_of s r) there

      -- the outcome by the tests of the last ones
      abbrev late : Bool → Bool → Bool → Outcome
      late free detour cycle = by false false false false (false || (free || (cycle && detour))) cycle

      late_is : (free cycle detour : Bool) → is_free s r ≡ free → is_on_cycle s r ≡ cycle → is_some (detour_to s.fleet r leg) ≡ detour → late free detour cycle ≡ outcome_at s r leg
      late_is free cycle detour f c d =
          sym (λ i. by (rests.stuck i) (still i) (some i && is_none leg) (some i && is_none (route_to s.fleet r leg)) (some i || (f i || (c i && d i))) (c i))

      pub is_free_full : is_free s r ≡ true → Full ≡ outcome_at s r leg
      is_free_full f = late_is true (is_on_cycle s r) (is_some (detour_to s.fleet r leg)) f refl refl

      module _ (held : is_free s r ≡ false) (cycle : List RobotNo) (is : cycle ≡ robots_of (cycle_of s r)) where
        -- the robot is on a cycle where its list has a robot
        on_cycle : not (length cycle == 0) ≡ is_on_cycle s r
        on_cycle = ap (λ xs. not (length xs == 0)) is ∙ ap (λ n. not (n == 0)) (length-map {B = RobotNo} (cycle_of s r) (λ n. record { 0 = n }))

        pub is_detour_full : (length cycle == 0) ≡ false → true ≡ is_some (detour_to s.fleet r leg) → Full ≡ outcome_at s r leg
        is_detour_full c d = late_is false true true held (sym on_cycle ∙ ap not c) (sym d)

        pub is_in_cycle : (length cycle == 0) ≡ false → false ≡ is_some (detour_to s.fleet r leg) → InCycle cycle ≡ outcome_at s r leg
        is_in_cycle c d = ap InCycle is ∙ late_is false true false held (sym on_cycle ∙ ap not c) (sym d)

        pub is_behind : (robots : List RobotNo) → (length cycle == 0) ≡ true → robots ≡ robots_of (behind_of s r) → Behind robots ≡ outcome_at s r leg
        is_behind robots c list = ap Behind list ∙ late_is false false (is_some (detour_to s.fleet r leg)) held (sym on_cycle ∙ ap not c) refl

-- What a look at a robot tells of its pending route.

pub shows_none : (o : Option (List CellNo)) (b : Option Block) → look_at_pending o b ≡ pending_look.Nothing → o ≡ None
shows_none None b h = refl
shows_none (Some route) None h = absurd (cc)
shows_none (Some route) (Some block) h = absurd (cc)

pub shows_free : (o : Option (List CellNo)) (b : Option Block) → look_at_pending o b ≡ pending_look.Free → (is_some o ≡ true) × ((is_some o && is_none b) ≡ true)
shows_free None b h = absurd (cc)
shows_free (Some route) None h = (refl, refl)
shows_free (Some route) (Some block) h = absurd (cc)

pub shows_held : (o : Option (List CellNo)) (b : Option Block) (x : Block) → look_at_pending o b ≡ pending_look.Blocked x → (is_some o ≡ true) × ((is_some o && is_none b) ≡ false)
shows_held None b x h = absurd (cc)
shows_held (Some route) None x h = absurd (cc)
shows_held (Some route) (Some block) x h = (refl, refl)

-- a number other than 0 isn't found to be 0
pub some_moving : (n : ℕ) → (n ≡ 0 → ⊥) → not (n == 0) ≡ true
some_moving n h = not_from_false (n == 0) (ne_eqb n 0 h)

-- what is found of one robot more
pub all_more : {X : Type 0} (f : ℕ → X) (n : ℕ) (x : X) (old new : List X) → new ≡ old ++ x ∷ [] → old ≡ map f (numbers_below n) → x ≡ f n → new ≡ map f (numbers_below (n + 1))
all_more f n x old new grown so_far is =
    grown
    ∙ (ap (λ xs. xs ++ x ∷ []) so_far
    ∙ (ap (λ y. map f (numbers_below n) ++ y ∷ []) is
    ∙ (sym (map-append f (numbers_below n) (n ∷ []))
    ∙ (ap (map f) (sym (numbers_below_push n)) ∙ ap (λ k. map f (numbers_below k)) (let e : suc n ≡ n + 1 = omega arith in e)))))
