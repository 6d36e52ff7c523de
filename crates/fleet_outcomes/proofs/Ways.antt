-- What is told of a route, and the stops that are gone over.
use Rattle.std.proofs.Common.{◌≡◌, ℕ, zero, suc, ◌+◌, ◌-◌, ◌<◌, ◌≤◌, refl, sym, ap, ◌∙◌, List, [], ◌∷◌, length, drop, get_or, arith, Option, Some, None}
use Rattle.std.proofs.lemmas.List.{drop_all, drop_more}
use Rattle.std.specs.Prelude.{Ok}
use Rattle.fleet_base.specs.declared.numbers.CellNo.{CellNo}
use Rattle.fleet_model.specs.Sites.{Site, last_cell, steps}
use Rattle.mission_model.specs.Stops.{Leg, legs_of, serve_on}
use Rattle.robot_worker.specs.Legs.{plain_legs, plain_missions}
use Rattle.scenario.specs.Scenarios.{legs_of as goals_of}
use Rattle.site_map.specs.Built.{BuiltSite}
use Rattle.site_map.specs.declared.goal.Goal.{Goal}
use Rattle.plan_events.specs.Shapes.{refused_or, shape_cause}
use Rattle.plan_events.proofs.Causes.{accepted_shape}
use Rattle.fleet_outcomes.specs.declared.stops.Stop.{Stop}
use Rattle.fleet_outcomes.specs.Courses.{kept_along, way_of}

last_at : (a : CellNo) (bs : List CellNo) (d : CellNo) → get_or (a ∷ bs) (length bs) d ≡ last_cell a bs
last_at a [] d = refl
last_at a (b ∷ bs) d = last_at b bs d

-- the number of events and the last cell of a route that has the shape of one
pub way_is : (site : Site) (cells : List CellNo) (events : ℕ) (d : CellNo) → shape_cause site cells ≡ None → Ok events ≡ refused_or (shape_cause site cells) (length (steps site cells))
    → record { events = events; end = get_or cells (length cells - 1) d } ≡ way_of site cells
way_is site cells events d none answer = go cells (accepted_shape site cells none).long same
  where
    same : events ≡ length (steps site cells)
    same = let told = answer ∙ ap (λ o. refused_or o (length (steps site cells))) none in cc

    go : (xs : List CellNo) → 2 ≤ length xs → events ≡ length (steps site xs) → record { events = events; end = get_or xs (length xs - 1) d } ≡ way_of site xs
    go [] long e = absurd (omega arith)
    go (a ∷ bs) long e =
        let place : length (a ∷ bs) - 1 ≡ length bs = omega arith in
        let cell : get_or (a ∷ bs) (length (a ∷ bs) - 1) d ≡ last_cell a bs = ap (λ n. get_or (a ∷ bs) n d) place ∙ last_at a bs d in
        λ i. record { events = e i; end = cell i }

-- one stop more is served at
pub along_more : (legs : List Leg) (stops : List Stop) (n count : ℕ) (d : Stop) → n < length stops → kept_along legs count (drop n stops) ≡ kept_along legs (serve_on legs (get_or stops n d).cell count) (drop (n + 1) stops)
along_more legs stops n count d within = ap (kept_along legs count) (drop_more stops n d within)

-- behind the last one nothing is
pub along_end : (legs : List Leg) (stops : List Stop) (n count : ℕ) → length stops ≤ n → kept_along legs count (drop n stops) ≡ count
along_end legs stops n count past = ap (kept_along legs count) (drop_all n stops past)

same_get : {A : Type 0} (xs : List A) (n : ℕ) (d e : A) → n < length xs → get_or xs n d ≡ get_or xs n e
same_get [] n d e l = absurd (omega arith)
same_get (x ∷ xs) zero d e l = refl
same_get (x ∷ xs) (suc n) d e l = same_get xs n d e (omega arith)

-- what is there in a list, with any value in the place of what isn't
pub get_or_some : {A : Type 0} (xs : List (Option A)) (n : ℕ) (x : A) (d : Option A) → n < length xs → get_or xs n d ≡ Some x → get_or xs n None ≡ Some x
get_or_some xs n x d within h = sym (same_get xs n d None within) ∙ h

-- the legs of one of the missions, as plain lists of cells
pub plain_at : (site : BuiltSite) (missions : List (List Goal)) (r : ℕ) → plain_legs site (goals_of missions r) ≡ legs_of (plain_missions site missions) r
plain_at site [] r = refl
plain_at site (legs ∷ missions) zero = refl
plain_at site (legs ∷ missions) (suc r) = plain_at site missions r
