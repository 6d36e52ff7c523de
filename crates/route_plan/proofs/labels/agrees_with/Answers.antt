use Rattle.std.proofs.Common.{◌≡◌, ◌&&◌, Some, ◌∙◌, sym, ap, subst, true, rules, tests}
use Rattle.std.specs.List.{list_all, list_any}
use Rattle.std.specs.Option.{is_none}
use Rattle.std.proofs.lemmas.Iterator.{YieldsList-from_slice}
use Rattle.std.proofs.lemmas.Iterator.Search.{all_from_yields_List, any_from_yields_List}
use Rattle.fleet_base.specs.declared.numbers.Link.{Link}
use Rattle.route_plan.specs.Labels.{label_at}
use Rattle.route_plan.specs.Tight.{adds_up, agrees_with, is_within}
use Rattle.route_plan.proofs.labels.agrees_with.Goals as goal

pub returns-in-None : goal.returns-in-None
returns-in-None c =
    all_from_yields_List (λ (l : Link). is_none (label_at c.args.labels.now l.to)) _ _ c.all.result c.all.ensures.ran (YieldsList-from_slice c.args.links.now cc) (λ x b q k. search (rules, tests))
    ∙ sym (ap (agrees_with (label_at c.args.labels.now) c.args.links.now) c.in-None.is)

pub returns-then-all : goal.returns-then-all
returns-then-all c =
    let cost = c.in-Some.cost in
    let all = all_from_yields_List (λ (l : Link). is_within cost l.cost (label_at c.args.labels.now l.to)) _ _ c.all-in-Some.result c.all-in-Some.ensures.ran (YieldsList-from_slice c.args.links.now cc) (λ x b q k. search (rules, tests)) in
    let holds : list_all (λ (l : Link). is_within cost l.cost (label_at c.args.labels.now l.to)) c.args.links.now ≡ true = sym all ∙ c.if-all.true in
    let any = any_from_yields_List (λ (l : Link). adds_up c.args.label (Some l.cost) (label_at c.args.labels.now l.to)) _ _ c.any.result c.any.ensures.ran (YieldsList-from_slice c.args.links.now cc) (λ x b q k. search (rules, tests)) in
    subst (λ o. c.any.result ≡ list_any (λ (l : Link). adds_up o (Some l.cost) (label_at c.args.labels.now l.to)) c.args.links.now) c.in-Some.is any
    ∙ ap (λ b. b && list_any (λ (l : Link). adds_up (Some cost) (Some l.cost) (label_at c.args.labels.now l.to)) c.args.links.now) (sym holds)
    ∙ sym (ap (agrees_with (label_at c.args.labels.now) c.args.links.now) c.in-Some.is)
