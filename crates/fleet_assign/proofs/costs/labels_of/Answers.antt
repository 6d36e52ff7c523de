use Rattle.std.proofs.Common.{◌≡◌, ℕ, ◌<◌, List, Option, sym, subst, ◌∙◌}
use Rattle.std.specs.Prelude.{IfSome}
use Rattle.std.proofs.lemmas.Result.{IfOk-weaker}
use Rattle.fleet_base.specs.declared.numbers.CellNo.{CellNo}
use Rattle.site_map.specs.Claims.{site_of}
use Rattle.route_plan.specs.Labels.{has, label_at, label_of}
use Rattle.fleet_assign.specs.Tasks.{route_cost}
use Rattle.fleet_assign.proofs.RouteCosts.{labels_are, route_low}
use Rattle.fleet_assign.proofs.costs.labels_of.Goals as goal

-- these are the labels of the search
abbrev Found : goal.After-labels_to → List (Option ℕ) → Type 0
Found c labels = (a : CellNo) → label_at labels a ≡ label_of (site_of c.args.site.now) (has c.goal_set-goals.result) (has c.new.result) a

-- and so they are the costs of the routes, which are low
abbrev Told : goal.After-labels_to → List (Option ℕ) → Type 0
Told c labels = (a : CellNo) → label_at labels a ≡ route_cost c.args.site.now c.args.goal a

abbrev Low : List (Option ℕ) → Type 0
Low labels = (a : CellNo) → IfSome (label_at labels a) (λ n. n < 1000000000000)

told : (c : goal.After-labels_to) (labels : List (Option ℕ)) → Found c labels → Told c labels
told c labels found a = found a ∙ labels_are c.args.site.now c.args.goal c.goal_set-goals.result c.new.result c.goal_set-goals.ensures c.new.ensures a

low : (c : goal.After-labels_to) (labels : List (Option ℕ)) → Found c labels → Low labels
low c labels found a =
    subst (λ o. IfSome o (λ n. n < 1000000000000)) (sym (told c labels found a)) (route_low c.args.site.now c.cell_count-count.ensures.valid c.cell_count-count.ensures.site c.args.goal a)

pub returns-clause-labels : goal.returns-clause-labels
returns-clause-labels c = IfOk-weaker c.labels_to.result (Found c) (Told c) (told c) c.labels_to.ensures

pub returns-clause-low : goal.returns-clause-low
returns-clause-low c = IfOk-weaker c.labels_to.result (Found c) Low (low c) c.labels_to.ensures
