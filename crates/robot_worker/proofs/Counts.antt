-- Serving on, leg by leg.
use Rattle.std.proofs.Common.{◌≡◌, ℕ, zero, suc, ◌+◌, ◌<◌, ◌≤◌, Bool, true, false, cond, refl, sym, ap, ◌∙◌, List, [], ◌∷◌, length, drop, map, get_or, arith}
use Rattle.std.proofs.lemmas.List.{at_drop_more, drop_all, length-map, drop-map}
use Rattle.std.specs.Prelude.{slice_get}
use Rattle.std.specs.List.{prefix_len}
use Rattle.fleet_base.specs.declared.numbers.CellNo.{CellNo}
use Rattle.fleet_model.specs.Lists.{has_cell}
use Rattle.mission_model.specs.Stops.{Leg, serve_on}
use Rattle.site_map.specs.Built.{BuiltSite}
use Rattle.site_map.specs.Goals.{goal_cells}
use Rattle.site_map.specs.declared.goal.Goal.{Goal}
use Rattle.robot_worker.specs.Legs.{leg_cells, plain_legs}

module _ (site : BuiltSite) (legs : List Goal) (a : CellNo) (count : ℕ) (d : Goal) where
  abbrev test : Leg → Bool
  test goal = has_cell goal a

  -- the legs from a count on, where one is left
  front : count < length legs → drop count (plain_legs site legs) ≡ goal_cells site (get_or legs count d) ∷ drop (count + 1) (plain_legs site legs)
  front within = drop-map (goal_cells site) count legs ∙ (at_drop_more (map (goal_cells site)) legs count d within ∙ ap (λ xs. goal_cells site (get_or legs count d) ∷ xs) (sym (drop-map (goal_cells site) (count + 1) legs)))

  -- where the next leg's goal contains the cell, one more leg is served
  pub served_more : count < length legs → has_cell (goal_cells site (get_or legs count d)) a ≡ true → serve_on (plain_legs site legs) a count ≡ serve_on (plain_legs site legs) a (count + 1)
  served_more within there =
      ap (λ xs. count + prefix_len test xs) (front within)
      ∙ (ap (λ b. count + cond b (1 + prefix_len test (drop (count + 1) (plain_legs site legs))) 0) there ∙ omega arith)

  -- where it doesn't, none is
  pub served_here : count < length legs → has_cell (goal_cells site (get_or legs count d)) a ≡ false → serve_on (plain_legs site legs) a count ≡ count
  served_here within away =
      ap (λ xs. count + prefix_len test xs) (front within)
      ∙ (ap (λ b. count + cond b (1 + prefix_len test (drop (count + 1) (plain_legs site legs))) 0) away ∙ omega arith)

  -- where no leg is left, none is served
  pub served_all : length legs ≤ count → serve_on (plain_legs site legs) a count ≡ count
  served_all past =
      let long = length-map legs (goal_cells site) in
      ap (λ xs. count + prefix_len test xs) (drop_all count (plain_legs site legs) (omega arith)) ∙ omega arith

-- the cells of the leg at a place
pub leg_plain : (site : BuiltSite) (legs : List Goal) (n : ℕ) → leg_cells site (slice_get legs n) ≡ slice_get (plain_legs site legs) n
leg_plain site [] n = refl
leg_plain site (goal ∷ goals) zero = refl
leg_plain site (goal ∷ goals) (suc n) = leg_plain site goals n
