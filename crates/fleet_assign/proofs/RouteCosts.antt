-- What the labels of a search from a goal say of its routes, each of which costs less than 10^12.
use Rattle.std.proofs.Common.{◌≡◌, ℕ, ◌*◌, ◌+◌, ◌<◌, ◌≤◌, ◌⊎◌, Bool, true, not, cond, eqb, inl, inr, List, [], ◌∷◌, length, get_or, Option, Some, None, refl, sym, ap, subst, ◌∙◌, arith}
use Rattle.std.proofs.Math.Path.{fun_ext}
use Rattle.std.specs.FinSet as set
use Rattle.std.specs.FinSet.{contains-empty}
use Rattle.std.specs.Ordering.{nat_cmp}
use Rattle.std.specs.Prelude.{All, IfSome}
use Rattle.std.specs.List.{filter, find, list_all}
use Rattle.std.specs.Option.{option_map, unwrap_or}
use Rattle.std.proofs.lemmas.Bool.{and_from, cases_Bool, cases_lt}
use Rattle.std.proofs.lemmas.List.{get_or_past}
use Rattle.std.proofs.lemmas.List.Elements.{All-get_or, All-head, All-tail}
use Rattle.std.proofs.lemmas.Option.{same_Some}
use Rattle.fleet_base.specs.declared.limits.TheConstants.{MAX_COST}
use Rattle.fleet_base.specs.declared.numbers.CellNo.{CellNo}
use Rattle.fleet_base.specs.declared.numbers.Link.{Link}
use Rattle.fleet_model.specs.Lists.{has_cell}
use Rattle.fleet_model.specs.Sites.{IsSite, cell_count, link_cost, links_from}
use Rattle.fleet_model.specs.Routes.{cost_from, least_route, leads_to, route_precedes, walks}
use Rattle.fleet_model.proofs.Leasts.{least_in}
use Rattle.fleet_model.proofs.LeastRoutes.{least_route_none}
use Rattle.fleet_model.proofs.Lists.{In_unfilter}
use Rattle.fleet_model.proofs.WalkLists.{walks_begin}
use Rattle.route_plan.specs.Labels.{IsLeastWithLabels, LabelledRoute, has, label_at, label_of}
use Rattle.route_plan.proofs.LeastLabels.{label_reached}
use Rattle.site_map.specs.Built.{BuiltSite, links_at}
use Rattle.site_map.specs.Claims.{site_of}
use Rattle.site_map.specs.Goals.{goal_cells}
use Rattle.site_map.specs.Inside.{AreLinks}
use Rattle.site_map.specs.Valid.{IsValidSite}
use Rattle.site_map.specs.declared.goal.Goal.{Goal}
use Rattle.fleet_assign.specs.Tasks.{nowhere, route_cost}

-- a link that is found among these costs at most the greatest cost
found_low : (links : List Link) (to cost : ℕ) → All (λ l. (1 ≤ l.cost) × (l.cost ≤ MAX_COST)) links → option_map (λ l. l.cost) (find (λ l. eqb l.to.0 to) links) ≡ Some cost → cost ≤ 1000000
found_low [] to cost are found = absurd (cc)
found_low (l ∷ links) to cost are found =
    elim (cases_Bool (eqb l.to.0 to)) [
      | inl same ↦
          let is : Some l.cost ≡ Some cost = sym (ap (λ b. option_map (λ (k : Link). k.cost) (cond b (Some l) (find (λ k. eqb k.to.0 to) links))) same) ∙ found in
          let e = same_Some l.cost cost is in
          let low = (All-head (λ (k : Link). (1 ≤ k.cost) × (k.cost ≤ MAX_COST)) l links are).1 in
          omega (arith, e, low)
      | inr other ↦
          found_low links to cost (All-tail (λ (k : Link). (1 ≤ k.cost) × (k.cost ≤ MAX_COST)) l links are)
          (sym (ap (λ b. option_map (λ (k : Link). k.cost) (cond b (Some l) (find (λ k. eqb k.to.0 to) links))) other) ∙ found)
    ]

-- what holds of the value that is there
if_some : (P : ℕ → Type 0) (o : Option ℕ) → ((n : ℕ) → o ≡ Some n → P n) → IfSome o P
if_some P None f = tt
if_some P (Some n) f = f n refl

-- the empty set has no cell
has_none : has set.empty ≡ nowhere
has_none = fun_ext (λ c. contains-empty nat_cmp c.0)

module _ (site : BuiltSite) (valid : IsValidSite site) (is_site : IsSite (site_of site)) where
  link_low : (a b : CellNo) (cost : ℕ) → link_cost (site_of site) a b ≡ Some cost → cost ≤ 1000000
  unfolding link_cost links_from
  link_low a b cost found =
      elim (cases_lt a.0 (length site.links)) [
        | inl within ↦ found_low (links_at site a) b.0 cost (All-get_or (AreLinks site.cells) site.links a.0 [] within valid.linked).costs found
        | inr past ↦
            let none = ap (λ (links : List Link). option_map (λ (l : Link). l.cost) (find (λ l. eqb l.to.0 b.0) links)) (get_or_past site.links a.0 [] past) in
            absurd (cc)
      ]

  step_low : (a b : CellNo) (o : Option ℕ) → link_cost (site_of site) a b ≡ o → unwrap_or o 0 ≤ 1000000
  step_low a b None is = omega arith
  step_low a b (Some cost) is = link_low a b cost is

  -- a walk costs at most the greatest cost for each of its steps
  walk_low : (a : CellNo) (bs : List CellNo) → cost_from (site_of site) a bs ≤ 1000000 * length bs
  walk_low a [] = omega arith
  walk_low a (b ∷ bs) = omega (arith, step_low a b (link_cost (site_of site) a b) refl, walk_low b bs)

  label_low : (goal avoid : CellNo → Bool) (c : CellNo) (n : ℕ) → label_of (site_of site) goal avoid c ≡ Some n → n < 1000000000000
  label_low goal avoid c n h =
      let plain = site_of site in
      let r = label_reached plain goal avoid is_site c n h in
      let found = filter (leads_to goal avoid) (walks plain (cell_count plain) c) in
      let m = In_unfilter (leads_to goal avoid) (walks plain (cell_count plain) c) (least_in (route_precedes plain) found (c ∷ r.cells) r.found) in
      let short : length (c ∷ r.cells) ≤ cell_count plain + 1 = (walks_begin plain (cell_count plain) c (c ∷ r.cells) m.0).2 in
      let small : cell_count plain ≤ 1024 = is_site.small in
      let low = walk_low c r.cells in
      let cost = r.cost in
      omega (arith, short, small, low, cost)

  -- no route costs as much as a task that can't be reached
  pub route_low : (goal : Goal) (c : CellNo) → IfSome (route_cost site goal c) (λ n. n < 1000000000000)
  route_low goal c = if_some (λ n. n < 1000000000000) (route_cost site goal c) (label_low (has_cell (goal_cells site goal)) nowhere c)

-- a search from the cells of a goal, with no cell to avoid
module _ (site : BuiltSite) (goal : Goal) (cells avoid : set.FinSet nat_cmp) (cells_are : (c : CellNo) → has cells c ≡ has_cell (goal_cells site goal) c) (none : avoid ≡ set.empty) where
  nothing_avoided : has avoid ≡ nowhere
  nothing_avoided = ap (λ s. has s) none ∙ has_none

  -- its labels are the costs of the routes
  pub labels_are : (c : CellNo) → label_of (site_of site) (has cells) (has avoid) c ≡ route_cost site goal c
  labels_are c =
      ap (λ (g : CellNo → Bool). label_of (site_of site) g (has avoid) c) (fun_ext cells_are)
      ∙ ap (λ (a : CellNo → Bool). label_of (site_of site) (has_cell (goal_cells site goal)) a c) nothing_avoided
