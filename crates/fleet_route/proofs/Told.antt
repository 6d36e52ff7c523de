-- What is told of a least route is the text that is due.
use Rattle.std.proofs.Common.{◌≡◌, Bool, ℕ, List, [], ◌++◌, codes, None, sym, ap, subst, ◌∙◌}
use Rattle.std.proofs.Math.Path.{fun_ext}
use Rattle.std.specs.FinSet as set
use Rattle.std.specs.FinSet.{contains-empty}
use Rattle.std.specs.Ordering.{nat_cmp}
use Rattle.fleet_base.specs.declared.numbers.CellNo.{CellNo}
use Rattle.fleet_model.specs.Routes.{least_route, walk_cost}
use Rattle.fleet_names.specs.Names.{Named}
use Rattle.route_plan.specs.Labels.{IsLeastWithLabels, LabelledRoute, has, label_at}
use Rattle.site_map.specs.Built.{BuiltSite}
use Rattle.site_map.specs.Claims.{site_of}
use Rattle.fleet_route.specs.Texts.{label_lines, nowhere, route_line, route_text, told_text}

-- the empty set has no cell
pub has_none : has set.empty ≡ nowhere
has_none = fun_ext (λ c. contains-empty nat_cmp c.0)

module _ (names : Named) (site : BuiltSite) (goal : CellNo → Bool) (from : CellNo) where
  -- the line of the route and the lines of its labels
  pub route_told : (route : LabelledRoute) → IsLeastWithLabels (site_of site) goal nowhere from route
      → route_line names route.cost route.path ++ label_lines names site.cells (label_at route.labels) ≡ route_text names site goal from
  unfolding route_text
  route_told route is =
      ap (λ n. route_line names n route.path ++ label_lines names site.cells (label_at route.labels)) is.cost
      ∙ ap (λ label. route_line names (walk_cost (site_of site) route.path) route.path ++ label_lines names site.cells label) (fun_ext is.labels)
      ∙ ap (told_text names site goal) (sym is.path)

  -- the line that tells that there is none
  pub none_told : least_route (site_of site) goal nowhere from ≡ None → codes "unreachable\n" ≡ route_text names site goal from
  unfolding route_text
  none_told none = ap (told_text names site goal) (sym none)

-- it is the text of what was found for these sets of cells
module _ (names names' : Named) (site site' : BuiltSite) (goal avoid : set.FinSet nat_cmp) (due : CellNo → Bool) (from : CellNo) (names_are : names' ≡ names) (site_is : site' ≡ site) (goal_is : (c : CellNo) → has goal c ≡ due c) (avoid_is : avoid ≡ set.empty) where
  nothing_avoided : has avoid ≡ nowhere
  nothing_avoided = ap (λ s. has s) avoid_is ∙ has_none

  pub found_told : (route : LabelledRoute) (count : ℕ) (begun pushed : List ℕ) → IsLeastWithLabels (site_of site') (has goal) (has avoid) from route → count ≡ site'.cells → begun ≡ []
      → pushed ≡ begun ++ (route_line names' route.cost route.path ++ label_lines names' count (label_at route.labels)) → pushed ≡ route_text names site due from
  found_told route count begun pushed is count_is none told =
      let past : IsLeastWithLabels (site_of site') (has goal) nowhere from route = subst (λ (a : CellNo → Bool). IsLeastWithLabels (site_of site') (has goal) a from route) nothing_avoided is in
      let to_due : IsLeastWithLabels (site_of site') due nowhere from route = subst (λ (g : CellNo → Bool). IsLeastWithLabels (site_of site') g nowhere from route) (fun_ext goal_is) past in
      let here : IsLeastWithLabels (site_of site) due nowhere from route = subst (λ (s : BuiltSite). IsLeastWithLabels (site_of s) due nowhere from route) site_is to_due in
      told
      ∙ ap (λ text. text ++ (route_line names' route.cost route.path ++ label_lines names' count (label_at route.labels))) none
      ∙ ap (λ (ns : Named). route_line ns route.cost route.path ++ label_lines ns count (label_at route.labels)) names_are
      ∙ ap (λ n. route_line names route.cost route.path ++ label_lines names n (label_at route.labels)) (count_is ∙ ap (λ (s : BuiltSite). s.cells) site_is)
      ∙ route_told names site due from route here

  pub unreachable_told : (begun pushed : List ℕ) → least_route (site_of site') (has goal) (has avoid) from ≡ None → begun ≡ [] → pushed ≡ begun ++ codes "unreachable\n" → pushed ≡ route_text names site due from
  unreachable_told begun pushed is none told =
      let here : least_route (site_of site) due nowhere from ≡ None =
      sym (ap (λ (s : BuiltSite). least_route (site_of s) (has goal) (has avoid) from) site_is
      ∙ ap (λ (g : CellNo → Bool). least_route (site_of site) g (has avoid) from) (fun_ext goal_is)
      ∙ ap (λ (a : CellNo → Bool). least_route (site_of site) due a from) nothing_avoided) ∙ is in
      told ∙ ap (λ text. text ++ codes "unreachable\n") none ∙ none_told names site due from here
