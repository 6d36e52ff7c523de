use Rattle.std.proofs.Common.{◌≡◌, ◌<◌, sym, ap, ◌∙◌, subst, Some, arith}
use Rattle.std.proofs.lemmas.Bool.{both_ways}
use Rattle.fleet_base.specs.declared.numbers.CellNo.{CellNo}
use Rattle.fleet_model.specs.Sites.{cell_count}
use Rattle.site_map.specs.Claims.{site_of}
use Rattle.route_plan.specs.Labels.{has, label_at, label_of, LabelledRoute}
use Rattle.route_plan.specs.Tight.{IsDescentFrom}
use Rattle.route_plan.proofs.Agreement.{cells_of}
use Rattle.route_plan.proofs.Checking.{label_same, least_cost, least_steps, passed_least, same_label}
use Rattle.route_plan.proofs.checker.check_route.Goals as goal

pub returns-then-eq : goal.returns-then-eq
returns-then-eq c =
    let site = site_of c.args.site.now in
    let route = c.args.route.now in
    let count = cells_of c.args.site.now in
    let known : c.args.from.0 < cell_count site = omega arith in
    let same : c.as_slice-labels.result.now ≡ route.labels = c.as_slice-labels.ensures.value ∙ ap (λ (r : LabelledRoute). r.labels) c.route.view_is in
    let right = c.are_least.ensures.least.0 c.if-not-are_least.false in
    let cost : label_at route.labels c.args.from ≡ Some route.cost =
    ap (λ labels. label_at labels c.args.from) (sym same)
    ∙ sym c.label_in.ensures
    ∙ same_label c.label_in.result c.route.inside.cost (sym c.eq.ensures ∙ c.if-eq.true)
    ∙ ap (λ (r : LabelledRoute). Some r.cost) c.route.view_is in (
      λ h.
          let steps = c.descends_from.ensures.0 h in
          passed_least site (has c.args.goal.now) (has c.args.avoid.now) c.are_least.ensures.site c.args.from known route
          (subst (λ labels. (a : CellNo) → label_at labels a ≡ label_of site (has c.args.goal.now) (has c.args.avoid.now) a) same right)
          cost
          (subst (λ labels. IsDescentFrom site (label_at labels) c.args.from route.path) same (subst (IsDescentFrom site (label_at c.as_slice-labels.result.now) c.args.from) c.cells.ensures steps)),
      λ least.
          let steps = least_steps site (has c.args.goal.now) (has c.args.avoid.now) c.are_least.ensures.site c.args.from known route least in
          c.descends_from.ensures.1 (subst (IsDescentFrom site (label_at c.as_slice-labels.result.now) c.args.from) (sym c.cells.ensures) (subst (λ labels. IsDescentFrom site (label_at labels) c.args.from route.path) (sym same) steps)),
    )

pub returns-else-eq : goal.returns-else-eq
returns-else-eq c =
    let site = site_of c.args.site.now in
    let route = c.args.route.now in
    let count = cells_of c.args.site.now in
    let known : c.args.from.0 < cell_count site = omega arith in
    let same : c.as_slice-labels.result.now ≡ route.labels = c.as_slice-labels.ensures.value ∙ ap (λ (r : LabelledRoute). r.labels) c.route.view_is in (
      λ h. absurd (both_ways c.eq.result c.if-eq.false h),
      λ least.
          let cost = least_cost site (has c.args.goal.now) (has c.args.avoid.now) c.are_least.ensures.site c.args.from known route least in
          let here : c.label_in.result ≡ Some c.route.inside.cost =
          c.label_in.ensures ∙ ap (λ labels. label_at labels c.args.from) same ∙ cost ∙ ap (λ (r : LabelledRoute). Some r.cost) (sym c.route.view_is) in
          c.eq.ensures ∙ label_same c.label_in.result c.route.inside.cost here,
    )
