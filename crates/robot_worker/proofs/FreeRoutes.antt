-- Routes that avoid nothing.
use Rattle.std.proofs.Common.{◌≡◌, false, sym, ap, ◌∙◌, List, Some, nat_cmp}
use Rattle.std.specs.FinSet as set
use Rattle.std.specs.FinSet.{contains-empty}
use Rattle.fleet_base.specs.declared.numbers.CellNo.{CellNo}
use Rattle.fleet_model.specs.Lists.{has_cell}
use Rattle.fleet_model.specs.Sites.{Site}
use Rattle.fleet_model.specs.Routes.{least_route}
use Rattle.route_plan.specs.Labels.{has, LabelledRoute, IsLeastWithLabels}

-- a search to these cells that avoids the empty set is one that avoids nothing
pub free_search : (site : Site) (goal avoid : set.FinSet nat_cmp) (cells : List CellNo) (from : CellNo) → ((c : CellNo) → has goal c ≡ has_cell cells c) → avoid ≡ set.empty → least_route site (has goal) (has avoid) from ≡ least_route site (has_cell cells) (λ a. false) from
free_search site goal avoid cells from goals none =
    let same_goal : has goal ≡ has_cell cells = λ i c. goals c i in
    let nothing : has avoid ≡ (λ a. false) = λ i c. (ap (λ s. has s c) none ∙ contains-empty nat_cmp c.0) i in
    ap (λ g. least_route site g (has avoid) from) same_goal ∙ ap (λ a. least_route site (has_cell cells) a from) nothing

pub free_route : (site : Site) (goal avoid : set.FinSet nat_cmp) (cells : List CellNo) (from : CellNo) (route : LabelledRoute) (path : List CellNo) → ((c : CellNo) → has goal c ≡ has_cell cells c) → avoid ≡ set.empty → IsLeastWithLabels site (has goal) (has avoid) from route → path ≡ route.path
    → Some path ≡ least_route site (has_cell cells) (λ a. false) from
free_route site goal avoid cells from route path goals none is copied =
    ap (λ p. Some p) copied ∙ (sym is.path ∙ free_search site goal avoid cells from goals none)
