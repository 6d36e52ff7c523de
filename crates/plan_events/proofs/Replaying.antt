-- The replay, event by event.
use Rattle.std.proofs.Common.{◌≡◌, ℕ, ◌≤◌, refl, sym, ap, ◌∙◌, subst, List, [], ◌∷◌, map, length, get_or, arith, Option, Some, None}
use Rattle.std.proofs.lemmas.List.{length-map}
use Rattle.std.proofs.lemmas.List.FromFn.{fill_by_all}
use Rattle.std.proofs.lemmas.Option.{get_or_from_slice_get, slice_get-get_or, slice_get-map}
use Rattle.std.specs.FinSet.{empty}
use Rattle.std.specs.Option.{option_map}
use Rattle.fleet_base.specs.declared.numbers.Event.{Event}
use Rattle.fleet_base.specs.declared.numbers.Kind.{Kind}
use Rattle.fleet_base.specs.declared.numbers.Kind.TheVariants.{Acquire, Move, Release}
use Rattle.fleet_model.specs.Lists.{first_some, numbers_below}
use Rattle.fleet_model.specs.Sites.{Site}
use Rattle.fleet_model.specs.Replays.{Spot, Spots, after_event, replay}
use Rattle.plan_events.specs.declared.refused.ReplayClash.{ReplayClash}
use Rattle.plan_events.specs.declared.spots.KeptSpot.{KeptSpot}
use Rattle.plan_events.specs.Clashes.{event_clash, order_clash, HasClaimOf}
use Rattle.plan_events.specs.Spots.{shown, shown_at, spot_of}

-- the events that are left lead from these spots to where all lead from the opening
pub record IsReplayed (site : Site) (robots : ℕ) (opened : Spots) (events : List Event) (spots : Spots) (left : List Event) : Type 0 where
  pub clash : order_clash site robots spots left ≡ order_clash site robots opened events
  pub spots_are : (r : ℕ) → replay spots left r ≡ replay opened events r

module _ (site : Site) (robots : ℕ) (opened : Spots) (events : List Event) where
  abbrev Replayed : Spots → List Event → Type 0
  Replayed spots left = IsReplayed site robots opened events spots left

  -- at first all are left
  pub begun : (spots : Spots) → ((r : ℕ) → spots r ≡ opened r) → Replayed spots events
  begun spots e =
      let same : opened ≡ spots = λ i r. sym (e r) i in
      subst (λ s. Replayed s events) same (record { clash = refl; spots_are = λ r. refl })

  -- one event without a clash
  pub stepped : (spots new : Spots) (e : Event) (es : List Event) → Replayed spots (e ∷ es) → event_clash site robots spots e ≡ None → ((r : ℕ) → new r ≡ after_event e spots r) → Replayed new es
  stepped spots new e es is none made =
      let same : after_event e spots ≡ new = λ i r. sym (made r) i in
      subst (λ s. Replayed s es) same (record {
        clash = sym (ap (λ c. first_some (c ∷ order_clash site robots (after_event e spots) es ∷ [])) none ∙ only (order_clash site robots (after_event e spots) es)) ∙ is.clash;
        spots_are = is.spots_are;
      })
    where
      only : (o : Option ReplayClash) → first_some (None ∷ o ∷ []) ≡ o
      only None = refl
      only (Some c) = refl

  -- an event with a clash
  pub clashed : (spots : Spots) (e : Event) (es : List Event) (c : ReplayClash) → Replayed spots (e ∷ es) → event_clash site robots spots e ≡ Some c → order_clash site robots opened events ≡ Some c
  clashed spots e es c is some = sym is.clash ∙ ap (λ o. first_some (o ∷ order_clash site robots (after_event e spots) es ∷ [])) some

  -- none is left
  pub ended : (spots : Spots) (left : List Event) → left ≡ [] → Replayed spots left → (order_clash site robots opened events ≡ None) × (spots ≡ replay opened events)
  ended spots left none is =
      let last : Replayed spots [] = subst (λ es. Replayed spots es) none is in
      (sym last.clash, λ i r. last.spots_are r i)

-- a list that has a place for each robot
pub by_robot : {X : Type 0} (f : Spot → X) (spots : List KeptSpot) → map (λ s. f (shown s)) spots ≡ map (λ r. f (spot_of spots r)) (numbers_below (length spots))
by_robot f spots =
    let none : KeptSpot = record { cell = record { 0 = 0 }; held = empty } in
    fill_by_all (λ r. f (spot_of spots r)) (map (λ s. f (shown s)) spots) (length spots) (f (shown none)) (length-map spots (λ s. f (shown s)))
    (λ k h.
    let at = slice_get-get_or spots k none h in
    get_or_from_slice_get (map (λ s. f (shown s)) spots) k (f (shown (get_or spots k none))) (f (shown none)) (slice_get-map (λ s. f (shown s)) spots k ∙ ap (option_map (λ s. f (shown s))) at)
    ∙ ap (λ o. f (shown_at o)) (sym at))

-- a claim below a bound is below a greater one
pub claim_within : (low high : ℕ) (k : Kind) → low ≤ high → HasClaimOf low k → HasClaimOf high k
claim_within low high (Acquire c) l h = omega arith
claim_within low high (Move a b) l h = tt
claim_within low high (Release c) l h = omega arith
