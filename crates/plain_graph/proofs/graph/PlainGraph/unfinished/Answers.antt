use Rattle.std.proofs.Common.{◌==◌, ◌∙◌, rules, tests}
use Rattle.std.proofs.lemmas.Iterator.{YieldsList-from_slice}
use Rattle.std.proofs.lemmas.Iterator.Consumers.{nth_from_yields_List, YieldsList-from_filter}
use Rattle.fleet_base.specs.declared.numbers.Event.{Event}
use Rattle.plain_graph.proofs.graph.PlainGraph.unfinished.Goals as goal

pub returns : goal.returns
returns c =
    rw (← c.self.view_is) (c.copied.ensures ∙ nth_from_yields_List c.nth.result c.nth.new.self c.args.index c.nth.ensures.ran
    (YieldsList-from_filter _ (λ (x : Event). x.robot.0 == c.args.robot.0) (YieldsList-from_slice c.self.inside.kept.items (cc)) c.filter.ensures.closure (λ x r q k. search (rules, tests))))
