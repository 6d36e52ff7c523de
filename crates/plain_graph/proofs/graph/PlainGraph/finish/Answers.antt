use Rattle.std.proofs.Common.{◌≡◌, ◌==◌, not, rules}
use Rattle.std.proofs.lemmas.Fn.{filter_same}
use Rattle.fleet_base.specs.declared.numbers.Event.{Event}
use Rattle.event_graph.specs.Graphs.{without_number}
use Rattle.event_graph.proofs.Changes.{finish_good}
use Rattle.plain_graph.proofs.graph.PlainGraph.finish.Goals as goal

kept : (c : goal.After-retain) → c.retain.new.self.items ≡ without_number c.self.inside.kept.items c.args.event
kept c = filter_same _ (λ (x : Event). not (x.no.0 == c.args.event.0)) _ (λ x b g r. search rules) _ _ c.retain.ensures.filtered

pub invariant_of-self : goal.invariant_of-self
invariant_of-self c = rw (kept c) (finish_good _ _ _ _ c.self.invariant c.args.event (rw (← c.self.view_is) at c.requires))

pub returns-clause-events : goal.returns-clause-events
returns-clause-events c = rw (← c.self.view_is) (kept c)
