-- Whether there is a detour, by what is told of it.
use Rattle.std.proofs.Common.{◌≡◌, ℕ, ◌<◌, inl, inr, Bool, true, false, not, refl, sym, ap, ◌∙◌, subst, List, [], ◌∷◌, length, Option, Some, None}
use Rattle.std.proofs.lemmas.Bool.{lt-ltb}
use Rattle.std.specs.Prelude.{Result, Ok, Err, IfOk, IfErr}
use Rattle.std.specs.Result.{result_err}
use Rattle.std.specs.Option.{is_some, is_none, unwrap_or}
use Rattle.fleet_base.specs.declared.answers.ReplanRefused.{ReplanRefused}
use Rattle.fleet_base.specs.declared.answers.ReplanRefused.TheVariants.{UnknownRobot, NoPending, AtGoal, NoDetour, Full, NoMemory}
use Rattle.fleet_base.specs.declared.entries.Act.TheVariants.{Replanned}
use Rattle.fleet_base.specs.declared.numbers.CellNo.{CellNo}
use Rattle.fleet_base.specs.declared.numbers.Span.{Span}
use Rattle.fleet_model.specs.Lists.{first_some, has_cell, when}
use Rattle.fleet_model.specs.Plans.{end_of}
use Rattle.fleet_model.specs.States.{State, is_full, pending_of}
use Rattle.fleet_model.specs.Calls.{Step, accepted, detour_of, first_of, in_segment, merge_growth, replan, span_of, unless_refused, with_route}
use Rattle.coordinator.specs.Replans.{IsDetour, IsReplanAnswer}
use Rattle.route_plan.specs.Labels.{LabelledRoute}
use Rattle.site_map.specs.Built.{BuiltSite}
use Rattle.site_map.specs.Goals.{goal_cells}
use Rattle.site_map.specs.declared.goal.Goal.{Goal}
use Rattle.mission_model.specs.Policies.{detour_to}
use Rattle.robot_worker.specs.Legs.{leg_cells}
use Rattle.fleet_outcomes.specs.Standing.{LeadsOn, found_by}

none_not : {A : Type 0} (o : Option A) → is_some o ≡ true → is_none o ≡ false
none_not None h = absurd (cc)
none_not (Some x) h = refl

some_not : {A : Type 0} (o : Option A) → is_some o ≡ not (is_none o)
some_not None = refl
some_not (Some x) = refl

-- a refusal behind the search tells whether there is a detour
late_refused : (none full : Bool) (s : State) (step : Step Span ReplanRefused) (span : Span) (e : ReplanRefused) → step.answer ≡ Ok span → Err e ≡ (unless_refused (first_some (when none NoDetour ∷ when full Full ∷ [])) s step).answer → found_by (Some e) ≡ Ok (not none)
late_refused true full s step span e is h = let same : e ≡ NoDetour = (cc) in ap (λ x. found_by (Some x)) same
late_refused false true s step span e is h = let same : e ≡ Full = (cc) in ap (λ x. found_by (Some x)) same
late_refused false false s step span e is h = absurd (let told : Err e ≡ Ok span = h ∙ is in cc)

module _ (s : State) (r : ℕ) (goal : CellNo → Bool) (known : r < length s.fleet.starts) (pending : is_some (pending_of s r) ≡ true) (away : goal (end_of s.fleet r) ≡ false) where
  abbrev detour : Option (List CellNo)
  detour = detour_of s.fleet r goal

  abbrev route : List CellNo
  route = unwrap_or detour []

  abbrev step : Step Span ReplanRefused
  step = accepted (span_of s route) r (Replanned route (first_of s)) (in_segment s (merge_growth s route) (with_route s r route))

  -- only a want of room, or of a detour, can be why no detour is taken
  refused_tells : (e : ReplanRefused) → Err e ≡ (replan s r goal).answer → found_by (Some e) ≡ Ok (is_some detour)
  refused_tells e h =
      let there = lt-ltb r (length s.fleet.starts) known in
      let some = none_not (pending_of s r) pending in
      late_refused (is_none detour) (is_full s (merge_growth s route)) s step (span_of s route) e refl
      (h
      ∙ (λ i. (unless_refused (first_some (
      when (not (there i)) UnknownRobot
      ∷ when (some i) NoPending
      ∷ when (away i) AtGoal
      ∷ when (is_none detour) NoDetour
      ∷ when (is_full s (merge_growth s route)) Full
      ∷ [])) s step).answer))
      ∙ ap (λ b. Ok b) (sym (some_not detour))

  other_told : (e : ReplanRefused) → (e ≡ NoMemory → ⊥) → IsReplanAnswer (Err e) (replan s r goal).answer → IfOk (found_by (Some e)) (λ yes. yes ≡ is_some detour)
  other_told e apart h = elim h [
    | inl due ↦ subst (λ x. IfOk x (λ yes. yes ≡ is_some detour)) (sym (refused_tells e due)) refl
    | inr lacks ↦ absurd (apart (same_err e (Err e) refl lacks.0))
  ]
    where
      same_err : (x : ReplanRefused) (told : Result Span ReplanRefused) → told ≡ Err x → told ≡ Err NoMemory → x ≡ NoMemory
      same_err x told h g = (cc)

  -- what is told of the detour
  detour_told : (told : Result LabelledRoute ReplanRefused) → IfErr told (λ refused. IsReplanAnswer (Err refused) (replan s r goal).answer) → IfOk told (λ found. IsDetour s r goal found.path) → IfOk (found_by (result_err told)) (λ yes. yes ≡ is_some detour)
  detour_told (Ok found) refused is = sym (ap is_some is.found)
  detour_told (Err NoMemory) refused is = tt
  detour_told (Err UnknownRobot) refused is = other_told UnknownRobot (λ h. absurd (cc)) refused
  detour_told (Err NoPending) refused is = other_told NoPending (λ h. absurd (cc)) refused
  detour_told (Err AtGoal) refused is = other_told AtGoal (λ h. absurd (cc)) refused
  detour_told (Err NoDetour) refused is = other_told NoDetour (λ h. absurd (cc)) refused
  detour_told (Err Full) refused is = other_told Full (λ h. absurd (cc)) refused

-- so it is known whether there is a detour to the goal of a leg
pub detour_is : (s : State) (r : ℕ) (site found : BuiltSite) (leg : Option Goal) (goal : Goal) (set : CellNo → Bool) → leg ≡ Some goal → found ≡ site → ((a : CellNo) → set a ≡ has_cell (goal_cells found goal) a)
    → r < length s.fleet.starts → is_some (pending_of s r) ≡ true → LeadsOn s.fleet r (leg_cells site leg)
    → (told : Result LabelledRoute ReplanRefused) → IfErr told (λ refused. IsReplanAnswer (Err refused) (replan s r set).answer) → IfOk told (λ found. IsDetour s r set found.path)
    → IfOk (found_by (result_err told)) (λ yes. yes ≡ is_some (detour_to s.fleet r (leg_cells site leg)))
detour_is s r site found leg goal set leg_is same cells known pending on told refused is =
    let as_cells : set ≡ has_cell (goal_cells found goal) = λ i a. cells a i in
    let as_site : set ≡ has_cell (goal_cells site goal) = as_cells ∙ ap (λ x. has_cell (goal_cells x goal)) same in
    let off : has_cell (goal_cells site goal) (end_of s.fleet r) ≡ false = subst (λ o. LeadsOn s.fleet r (leg_cells site o)) leg_is on in
    let told_so = detour_told s r set known pending (ap (λ f. f (end_of s.fleet r)) as_site ∙ off) told refused is in
    subst (λ o. IfOk (found_by (result_err told)) (λ yes. yes ≡ is_some (detour_to s.fleet r (leg_cells site o)))) (sym leg_is)
    (subst (λ g. IfOk (found_by (result_err told)) (λ yes. yes ≡ is_some (detour_of s.fleet r g))) as_site told_so)
