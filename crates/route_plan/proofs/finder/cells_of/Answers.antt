use Rattle.std.proofs.Common.{[], append-nil, Some, ap, ◌∙◌, subst}
use Rattle.site_map.specs.Claims.{site_of}
use Rattle.route_plan.specs.Labels.{label_at}
use Rattle.route_plan.specs.Tight.{IsDescentFrom}
use Rattle.route_plan.proofs.finder.cells_of.Goals as goal

pub returns : goal.returns
returns c =
    let labelled = c.loop-next.invariant.labelled in
    let nothing = c.requires.ends c.loop-next.at labelled.0 labelled.1 c.in_default.ensures.next in
    subst (IsDescentFrom (site_of c.args.site.now) (label_at c.args.labels.now) c.args.from) (append-nil c.loop-next.cells.items)
    (c.loop-next.invariant.goes_on [] (labelled.1 ∙ ap (λ n. Some n) nothing))
