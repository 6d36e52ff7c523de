use Rattle.std.proofs.Common.{refl}
use Rattle.fleet_model.specs.Sites.{links_from, link_cost, footprint_of, in_conflict}
use Rattle.fleet_model.proofs.examples.second_segment_reaches_the_same.Goals as goal

pub returns : goal.returns
unfolding links_from link_cost footprint_of in_conflict
returns c = record { first_checkpoint = refl; entries = refl; marks = refl; next = refl; places = refl; ends = refl; holds = refl; left = refl; pending = refl }
