use Rattle.std.proofs.Common.{refl}
use Rattle.fleet_model.specs.Sites.{links_from, link_cost, footprint_of, in_conflict}
use Rattle.fleet_model.proofs.examples.flows_keep_each_other_out.Goals as goal

pub returns : goal.returns
unfolding links_from link_cost footprint_of in_conflict
returns c = record { other = refl; same = refl; answers = refl; waits = refl }
