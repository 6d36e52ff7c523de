use Rattle.std.proofs.Common.{◌≡◌, ◌-◌, ◌∙◌, ap, sym, subst, rules, tests, Some, length}
use Rattle.std.specs.Prelude.{slice_get}
use Rattle.std.specs.List.{filter}
use Rattle.std.proofs.lemmas.Fn.{filter_same}
use Rattle.fleet_model.specs.Plans.{own}
use Rattle.fleet_model.specs.Good.{IsAscending}
use Rattle.event_graph.specs.Graphs.{Graph}
use Rattle.event_graph.proofs.Changes.{stays, cut_good}
use Rattle.event_graph.proofs.Cuts.{cut_none, cut_some}
use Rattle.plain_graph.proofs.graph.PlainGraph.cut_tail.Goals as goal

pub returns-in_default-clause-events : goal.returns-in_default-clause-events
returns-in_default-clause-events c =
    let at = sym c.unfinished.ensures ∙ c.in_default.is in
    sym (cut_none c.args.robot.0 c.args.count c.args.self.now.events (rw c.left.ensures at at))

kept : (c : goal.After-retain) → c.retain.new.self.items ≡ filter (stays c.args.robot.0 c.in-Some.first.no.0) c.self.inside.kept.items
kept c = filter_same _ (stays c.args.robot.0 c.in-Some.first.no.0) _ (λ x b g r. search (rules, tests)) _ _ c.retain.ensures.filtered

pub invariant_of-self : goal.invariant_of-self
invariant_of-self c = rw (kept c) (cut_good _ _ _ _ c.self.invariant c.args.robot.0 c.in-Some.first.no.0)

pub returns-clause-events : goal.returns-clause-events
returns-clause-events c =
    let place : slice_get (own c.args.robot.0 c.args.self.now.events) (length (own c.args.robot.0 c.args.self.now.events) - c.args.count) ≡ Some c.in-Some.first =
    ap (λ n. slice_get (own c.args.robot.0 c.args.self.now.events) (n - c.args.count)) (sym c.left.ensures) ∙ (sym c.unfinished.ensures ∙ c.in-Some.is) in
    kept c ∙ (ap (λ (g : Graph). filter (stays c.args.robot.0 c.in-Some.first.no.0) g.events) c.self.view_is
    ∙ cut_some c.args.robot.0 c.args.count c.args.self.now.events c.in-Some.first (subst (λ (g : Graph). IsAscending 0 g.events) c.self.view_is c.self.invariant.ascends) place)
