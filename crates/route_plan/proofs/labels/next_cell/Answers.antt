use Rattle.std.proofs.Common.{◌≡◌, Bool, Some, None, ◌∙◌, sym, ap, subst, rules, tests}
use Rattle.std.specs.List.{find}
use Rattle.std.specs.Option.{option_map}
use Rattle.std.proofs.lemmas.Iterator.{YieldsList-from_slice}
use Rattle.std.proofs.lemmas.Iterator.Search.{find_from_yields_List}
use Rattle.fleet_base.specs.declared.numbers.Link.{Link}
use Rattle.fleet_model.specs.Sites.{links_from}
use Rattle.site_map.specs.Cells.{LinksRise}
use Rattle.site_map.specs.Claims.{site_of}
use Rattle.route_plan.specs.Labels.{label_at}
use Rattle.route_plan.specs.Tight.{adds_up, IsNextOf}
use Rattle.route_plan.proofs.Agreement.{first_next, no_next}
use Rattle.route_plan.proofs.labels.next_cell.Goals as goal

pub returns-in_err-link-clause-next : goal.returns-in_err-link-clause-next
returns-in_err-link-clause-next c =
    let found = find_from_yields_List (λ (l : Link). adds_up (label_at c.args.labels.now c.args.at) (Some l.cost) (label_at c.args.labels.now l.to)) _ _ c.find.result c.find.ensures.ran (YieldsList-from_slice c.links-links.result.now (cc)) (λ x b q k. search (rules, tests)) in
    let test : Link → Bool = λ l. adds_up (label_at c.args.labels.now c.args.at) (Some l.cost) (label_at c.args.labels.now l.to) in
    let none : find test c.links-links.result.now ≡ None = sym found ∙ ap (option_map (λ y. y.now)) c.in_err-link.was in
    let site = site_of c.args.site.now in
    let label = label_at c.args.labels.now in
    let rise : LinksRise 0 (links_from site c.args.at) = subst (LinksRise 0) c.links-links.ensures.links c.links-links.ensures.ascending in
    subst (IsNextOf site label c.args.at) (sym c.from_residual.ensures) (no_next site label c.args.at rise (subst (λ ls. find test ls ≡ None) c.links-links.ensures.links none))

pub returns-clause-next : goal.returns-clause-next
returns-clause-next c =
    let found = find_from_yields_List (λ (l : Link). adds_up (label_at c.args.labels.now c.args.at) (Some l.cost) (label_at c.args.labels.now l.to)) _ _ c.find.result c.find.ensures.ran (YieldsList-from_slice c.links-links.result.now (cc)) (λ x b q k. search (rules, tests)) in
    let test : Link → Bool = λ l. adds_up (label_at c.args.labels.now c.args.at) (Some l.cost) (label_at c.args.labels.now l.to) in
    let some : find test c.links-links.result.now ≡ Some c.in_ok-link.link.now = sym found ∙ ap (option_map (λ y. y.now)) c.in_ok-link.was in
    let site = site_of c.args.site.now in
    let label = label_at c.args.labels.now in
    let rise : LinksRise 0 (links_from site c.args.at) = subst (LinksRise 0) c.links-links.ensures.links c.links-links.ensures.ascending in
    first_next site label c.args.at rise c.in_ok-link.link.now (subst (λ ls. find test ls ≡ Some c.in_ok-link.link.now) c.links-links.ensures.links some)
