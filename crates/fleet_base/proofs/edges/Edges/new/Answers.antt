use Rattle.std.proofs.Common.{ap, ◌∙◌}
use Rattle.fleet_base.specs.EdgeSets.{leads}
use Rattle.fleet_base.proofs.EdgeLemmas.{leads-empty}
use Rattle.fleet_base.proofs.edges.Edges.new.Goals as goal

pub returns : goal.returns
returns c = λ r q. ap (λ e. leads e r q) c.new.ensures ∙ leads-empty r q
