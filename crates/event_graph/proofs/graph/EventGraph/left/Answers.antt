use Rattle.std.proofs.Common.{length, ap, ◌∙◌}
use Rattle.std.proofs.lemmas.List.{length-map}
use Rattle.fleet_model.specs.Plans.{own}
use Rattle.event_graph.specs.Stores.{events_of}
use Rattle.event_graph.proofs.Owns.{number_of}
use Rattle.event_graph.proofs.graph.EventGraph.left.Goals as goal

pub returns : goal.returns
returns c =
    let robot = rw (← c.self.view_is) at c.requires in
    rw (← c.self.view_is) (c.len.ensures ∙ (ap length (c.self.invariant.keyed.by_robot c.args.robot.0 robot) ∙ length-map (own c.args.robot.0 (events_of c.self.inside.slots.items)) number_of))
