use Rattle.std.proofs.Common.{refl}
use Rattle.fleet_model.specs.Sites.{links_from, link_cost, footprint_of, in_conflict}
use Rattle.fleet_model.proofs.examples.second_robot_takes_over.Goals as goal

pub returns : goal.returns
unfolding links_from link_cost footprint_of in_conflict
returns c = record { answers = refl; entries = refl; left_before = refl; left = refl; count = refl; next = refl; places = refl; ends = refl; r1_holds = refl; r2_holds = refl }
