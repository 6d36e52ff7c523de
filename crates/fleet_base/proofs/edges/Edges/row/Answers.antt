use Rattle.std.proofs.Common.{ap, ◌∙◌}
use Rattle.std.specs.FinSet.{contains}
use Rattle.fleet_base.specs.EdgeSets.{edge_place}
use Rattle.fleet_base.proofs.EdgeLemmas.{is_in-row}
use Rattle.fleet_base.proofs.edges.Edges.row.Goals as goal

pub returns : goal.returns
returns c = is_in-row c.args.self.now c.word.result c.args.from.0 c.word.type_inv (λ i below. c.word.ensures i below ∙ ap (λ s. contains s (edge_place c.args.from.0 i)) c.self.view_is)
