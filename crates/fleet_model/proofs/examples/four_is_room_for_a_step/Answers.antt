use Rattle.std.proofs.Common.{refl}
use Rattle.fleet_model.specs.Sites.{links_from, link_cost, footprint_of, in_conflict}
use Rattle.fleet_model.proofs.examples.four_is_room_for_a_step.Goals as goal

pub returns : goal.returns
unfolding links_from link_cost footprint_of in_conflict
returns c = record { answers = refl; owed = refl }
