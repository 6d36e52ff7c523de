use Rattle.std.proofs.Common.{refl}
use Rattle.fleet_model.specs.Sites.{links_from, link_cost, footprint_of, in_conflict}
use Rattle.fleet_model.proofs.examples.segments_stand_alone.Goals as goal

pub returns : goal.returns
unfolding links_from link_cost footprint_of in_conflict
returns c = record { opening = refl; entries = refl; other_number = refl; count = refl; next = refl; plan = refl; holds = refl }
