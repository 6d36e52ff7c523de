use Rattle.std.proofs.Common.{refl}
use Rattle.fleet_model.specs.Sites.{links_from, link_cost, footprint_of, in_conflict}
use Rattle.fleet_model.proofs.examples.second_deferral_closes_cycle.Goals as goal

pub returns : goal.returns
unfolding links_from link_cost footprint_of in_conflict
returns c = record { answers = refl; entries = refl; r1_cycle = refl; r2_cycle = refl; r3_cycle = refl }
