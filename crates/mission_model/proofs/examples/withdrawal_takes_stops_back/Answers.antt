use Rattle.std.proofs.Common.{refl}
use Rattle.fleet_model.specs.Sites.{links_from, link_cost, footprint_of, in_conflict}
use Rattle.mission_model.proofs.examples.withdrawal_takes_stops_back.Goals as goal

pub returns : goal.returns
unfolding links_from link_cost footprint_of in_conflict
returns c = record { planned = refl; withdrawn = refl; far = refl; near = refl }
