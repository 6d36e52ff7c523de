use Rattle.std.proofs.Common.{refl}
use Rattle.fleet_model.specs.Sites.{links_from, link_cost, footprint_of, in_conflict}
use Rattle.fleet_model.proofs.examples.deferral_needs_room_for_two.Goals as goal

pub returns : goal.returns
unfolding links_from link_cost footprint_of in_conflict
returns c = record { one = refl; two = refl; retry_full = refl; retry = refl; replan_full = refl; replan = refl }
