-- Least routes.
use Rattle.std.specs.Prelude.{◌≡◌, ℕ, zero, suc, ◌+◌, Bool, true, false, ◌&&◌, ◌||◌, ◌==◌, nat_lt, not, List, [], ◌∷◌, map, Option, Some, slice_get}
use Rattle.std.specs.List.{filter, list_all, flat_map}
use Rattle.std.specs.Option.{unwrap_or}
use Rattle.fleet_base.specs.declared.numbers.CellNo.{CellNo}
use Rattle.fleet_model.specs.Lists.{least}
use Rattle.fleet_model.specs.Sites.{Site, cell_count, links_from, link_cost, IsWalk, last_cell}
use Rattle.fleet_model.specs.Cycles.{is_upto}

-- what a walk from a on through these cells costs: the sum of its links
abbrev pub cost_from : Site → CellNo → List CellNo → ℕ
cost_from site a [] = 0
cost_from site a (b ∷ bs) = unwrap_or (link_cost site a b) 0 + cost_from site b bs

abbrev pub walk_cost : Site → List CellNo → ℕ
walk_cost site [] = 0
walk_cost site (a ∷ bs) = cost_from site a bs

-- v costs less than w, or as much and isn't behind it as a list of cells
abbrev pub route_precedes : Site → List CellNo → List CellNo → Bool
route_precedes site v w =
    nat_lt (walk_cost site v) (walk_cost site w)
    || ((walk_cost site v == walk_cost site w) && is_upto (map (λ a. a.0) v) (map (λ a. a.0) w))

-- the walk ends in the goal and has no cell that is to be avoided
abbrev pub leads_to : (CellNo → Bool) → (CellNo → Bool) → List CellNo → Bool
leads_to goal avoid [] = false
leads_to goal avoid (a ∷ bs) = goal (last_cell a bs) && list_all (λ b. not (avoid b)) (a ∷ bs)

-- of all walks from a cell to the goal past the cells to avoid this is the cheapest, and of these the least
pub record IsLeastRoute (site : Site) (goal avoid : CellNo → Bool) (from : CellNo) (route : List CellNo) : Type 0 where
  pub begins : slice_get route 0 ≡ Some from
  pub linked : IsWalk site route
  pub leads : leads_to goal avoid route ≡ true
  pub least : (other : List CellNo) → slice_get other 0 ≡ Some from → IsWalk site other → leads_to goal avoid other ≡ true → route_precedes site route other ≡ true

-- the walks from a of at most n steps
abbrev pub walks : Site → ℕ → CellNo → List (List CellNo)
walks site zero a = (a ∷ []) ∷ []
walks site (suc n) a = (a ∷ []) ∷ flat_map (λ l. map (λ w. a ∷ w) (walks site n l.to)) (links_from site a)

-- the least route, among the walks of at most as many steps as there are cells: a longer one comes to a cell twice
abbrev pub least_route : Site → (CellNo → Bool) → (CellNo → Bool) → CellNo → Option (List CellNo)
least_route site goal avoid from = least (route_precedes site) (filter (leads_to goal avoid) (walks site (cell_count site) from))
