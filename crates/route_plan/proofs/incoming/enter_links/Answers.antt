use Rattle.std.proofs.Common.{◌≡◌, ◌+◌, ◌<◌, List, [], ◌∷◌, ◌++◌, length, take, get_or, set, sym, ap, ◌∙◌, subst, rules}
use Rattle.std.proofs.lemmas.List.{get_or_default, take_more}
use Rattle.std.proofs.lemmas.List.Elements.{All-get_or}
use Rattle.fleet_base.specs.declared.numbers.Link.{Link}
use Rattle.route_plan.specs.declared.incoming.Entry.{Entry}
use Rattle.route_plan.specs.Incoming.{entry, AreEntered}
use Rattle.route_plan.proofs.Entering.{entered_more}
use Rattle.route_plan.proofs.incoming.enter_links.Goals as goal

pub loop-link-preserved : goal.loop-link-preserved
loop-link-preserved c =
    let i = c.loop-link.link-index in
    let l : Link = get_or c.args.links.now i (record { to = record { 0 = 0 }; cost = 0 }) in
    let known : l.to.0 < length c.loop-link.rows = search (rules, All-get_or) in
    let read : get_or c.loop-link.rows l.to.0 c.index-rows-link.result ≡ get_or c.loop-link.rows l.to.0 [] = get_or_default c.loop-link.rows l.to.0 c.index-rows-link.result [] known in
    let pushed : c.push.new.self ≡ get_or c.loop-link.rows l.to.0 [] ++ entry c.args.from l.cost ∷ [] = c.in_ok-push.ensures ∙ ap (λ (r : List Entry). r ++ entry c.args.from l.cost ∷ []) read in
    let more = entered_more c.args.from (take i c.args.links.now) l c.args.rows.now c.loop-link.rows known c.loop-link.invariant in
    subst (λ (r : List Entry). AreEntered c.args.from (take (i + 1) c.args.links.now) c.args.rows.now (set c.loop-link.rows l.to.0 r)) (sym pushed)
    (subst (λ (ls : List Link). AreEntered c.args.from ls c.args.rows.now (set c.loop-link.rows l.to.0 (get_or c.loop-link.rows l.to.0 [] ++ entry c.args.from l.cost ∷ []))) (sym (take_more c.args.links.now i (record { to = record { 0 = 0 }; cost = 0 }) c.loop-link-test.true)) more)
