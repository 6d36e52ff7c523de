use Rattle.std.proofs.Common.{◌≡◌, ℕ, ◌<◌, Some, None, false, sym, ap, ◌∙◌, subst, arith}
use Rattle.fleet_base.specs.declared.numbers.CellNo.{CellNo}
use Rattle.fleet_model.specs.Sites.{cell_count}
use Rattle.site_map.specs.Claims.{site_of}
use Rattle.route_plan.specs.Labels.{has, label_at, LabelledRoute}
use Rattle.route_plan.specs.Tight.{is_tight, IsDescentFrom}
use Rattle.route_plan.proofs.Agreement.{cells_of, right_labels}
use Rattle.route_plan.proofs.Checking.{passed_least}
use Rattle.route_plan.proofs.LeastLabels.{no_route, no_tight}
use Rattle.route_plan.proofs.finder.least_route.Goals as goal

pub returns-in_default-clause-unreachable : goal.returns-in_default-clause-unreachable
returns-in_default-clause-unreachable c = λ _.
    let site = site_of c.args.site.now in
    let count = cells_of c.args.site.now in
    let known : c.args.from.0 < cell_count site = omega arith in
    let none : label_at c.in_ok-labels.labels.items c.args.from ≡ None = ap (λ ls. label_at ls c.args.from) (sym c.deref.ensures.value) ∙ sym c.label_in.ensures ∙ c.in_default.is in
    no_route site (has c.args.goal.now) (has c.args.avoid.now) c.least_labels.ensures.site c.args.from known (sym (c.in_ok-labels.ensures.least c.args.from) ∙ none)

pub cells_of-requires-clause-ends : goal.cells_of-requires-clause-ends
cells_of-requires-clause-ends c =
    let site = site_of c.args.site.now in
    let goals = has c.args.goal.now in
    let avoid = has c.args.avoid.now in
    let are = right_labels site goals avoid c.least_labels.ensures.site c.in_ok-labels.labels.items c.in_ok-labels.ensures.least in
    subst (λ ls. (a : CellNo) (e : ℕ) → label_at ls a ≡ Some e → ((x : CellNo) → is_tight site (label_at ls) a x ≡ false) → e ≡ 0) (sym c.deref-2.ensures.value)
    (no_tight site goals avoid c.least_labels.ensures.site (label_at c.in_ok-labels.labels.items) are)

pub returns-clause-found : goal.returns-clause-found
returns-clause-found c =
    let site = site_of c.args.site.now in
    let count = cells_of c.args.site.now in
    let known : c.args.from.0 < cell_count site = omega arith in
    let route : LabelledRoute = record { path = c.from_vec-path.result; cost = c.in-Some.cost; labels = c.in_ok-labels.labels.items } in
    let cost : label_at c.in_ok-labels.labels.items c.args.from ≡ Some c.in-Some.cost = ap (λ ls. label_at ls c.args.from) (sym c.deref.ensures.value) ∙ sym c.label_in.ensures ∙ c.in-Some.is in
    let steps : IsDescentFrom site (label_at c.in_ok-labels.labels.items) c.args.from c.from_vec-path.result =
    subst (IsDescentFrom site (label_at c.in_ok-labels.labels.items) c.args.from) (sym c.from_vec-path.ensures)
    (subst (λ ls. IsDescentFrom site (label_at ls) c.args.from c.in_ok-cells_of.field-0.items) c.deref-2.ensures.value c.in_ok-cells_of.ensures) in
    passed_least site (has c.args.goal.now) (has c.args.avoid.now) c.least_labels.ensures.site c.args.from known route c.in_ok-labels.ensures.least cost steps
