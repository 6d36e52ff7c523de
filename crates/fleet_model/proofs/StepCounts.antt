-- A route of two cells has an event, and no route has more than seven for each of its cells.
use Rattle.std.proofs.Common.{◌≡◌, ◌+◌, ◌*◌, ◌≤◌, not, List, [], ◌∷◌, map, length, arith}
use Rattle.std.proofs.lemmas.List.{length-append, length-map}
use Rattle.fleet_base.specs.declared.numbers.CellNo.{CellNo}
use Rattle.fleet_base.specs.declared.numbers.ClaimNo.{ClaimNo}
use Rattle.fleet_base.specs.declared.numbers.Kind.TheVariants.{Acquire, Move, Release}
use Rattle.fleet_model.specs.Sites.{Site, IsSite, footprint_of, has_claim, without, step, steps_from, steps}
use Rattle.fleet_model.proofs.Filters.{length-filter-le}

module _ (site : Site) where
  -- a step moves once, and acquires and releases what the two footprints differ in
  pub length-step : (a b : CellNo) → length (step site a b) ≡ length (without (footprint_of site b) (footprint_of site a)) + (1 + length (without (footprint_of site a) (footprint_of site b)))
  length-step a b =
      let new : List ClaimNo = without (footprint_of site b) (footprint_of site a) in
      let old : List ClaimNo = without (footprint_of site a) (footprint_of site b) in
      let l = length-append (map (λ (c : ClaimNo). Acquire c) new) (Move a b ∷ map (λ (c : ClaimNo). Release c) old) in
      let k = length-map new (λ (c : ClaimNo). Acquire c) in
      let j = length-map old (λ (c : ClaimNo). Release c) in
      omega arith

  -- a step moves
  pub step_long : (a b : CellNo) → 1 ≤ length (step site a b)
  step_long a b = let l = length-step a b in omega arith

  -- a route of at least two cells has an event
  pub steps_long : (route : List CellNo) → 2 ≤ length route → 1 ≤ length (steps site route)
  steps_long [] h = absurd (omega arith)
  steps_long (a ∷ []) h = absurd (omega arith)
  steps_long (a ∷ b ∷ bs) h = let l = length-append (step site a b) (steps_from site b bs) in let k = step_long a b in omega arith

  module _ (is_site : IsSite site) where
    -- a step has at most seven events
    pub step_short : (a b : CellNo) → length (step site a b) ≤ 7
    step_short a b =
        let l = length-step a b in
        let k = is_site.short a in
        let j = is_site.short b in
        let i = length-filter-le (λ (c : ClaimNo). not (has_claim (footprint_of site a) c)) (footprint_of site b) in
        let h = length-filter-le (λ (c : ClaimNo). not (has_claim (footprint_of site b) c)) (footprint_of site a) in
        omega arith

    -- the steps through these cells are at most seven for each
    pub steps_from_short : (a : CellNo) (bs : List CellNo) → length (steps_from site a bs) ≤ 7 * length bs
    steps_from_short a [] = omega arith
    steps_from_short a (b ∷ bs) =
        let l = length-append (step site a b) (steps_from site b bs) in
        let k = step_short a b in
        let j = steps_from_short b bs in
        omega arith

    -- a route has at most seven events for each of its cells
    pub steps_short : (route : List CellNo) → length (steps site route) ≤ 7 * length route
    steps_short [] = omega arith
    steps_short (a ∷ bs) = let l = steps_from_short a bs in omega arith

    -- a route of at most 1,024 cells has at most 7,161 events
    pub steps_few : (route : List CellNo) → length route ≤ 1024 → length (steps site route) ≤ 7161
    steps_few [] h = omega arith
    steps_few (a ∷ bs) h = let l = steps_from_short a bs in omega arith
