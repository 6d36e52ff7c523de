use Rattle.std.proofs.Common.{◌≡◌, ℕ, ◌<◌, ◌≤◌, Bool, true, List, [], ◌∷◌, Some, refl, sym, subst}
use Rattle.std.proofs.lemmas.Option.{same_Some}
use Rattle.std.specs.Prelude.{slice_get}
use Rattle.fleet_base.specs.declared.numbers.CellNo.{CellNo}
use Rattle.fleet_model.specs.Sites.{cell_count, Site, IsSite, IsWalk}
use Rattle.fleet_model.specs.Routes.{leads_to, walk_cost}
use Rattle.route_plan.specs.Labels.{label_of}
use Rattle.route_plan.proofs.LeastLabels.{label_reached, label_of_least}
use Rattle.route_plan.proofs.laws.labels_are_least_costs.Goals as goal

least_of : (site : Site) (goal avoid : CellNo → Bool) (c : CellNo) (walk : List CellNo) → IsSite site → c.0 < cell_count site → slice_get walk 0 ≡ Some c → IsWalk site walk → leads_to goal avoid walk ≡ true → (n : ℕ) × (label_of site goal avoid c ≡ Some n) × (n ≤ walk_cost site walk)
least_of site goal avoid c [] is_site known begins linked leads = absurd (cc)
least_of site goal avoid c (x ∷ cs) is_site known begins linked leads =
    let s = same_Some x c begins in
    let l = label_of_least site goal avoid is_site x cs (subst (λ (y : CellNo). y.0 < cell_count site) (sym s) known) linked leads in
    (l.0, subst (λ y. label_of site goal avoid y ≡ Some l.0) s l.1, l.2)

pub returns-clause-reached : goal.returns-clause-reached
returns-clause-reached c = λ site goal avoid a n is_site h.
    let r = label_reached site goal avoid is_site a n h in
    (a ∷ r.cells, refl, r.walk, r.leads, r.cost)

pub returns-clause-least : goal.returns-clause-least
returns-clause-least c = λ site goal avoid a walk is_site known begins linked leads. least_of site goal avoid a walk is_site known begins linked leads
