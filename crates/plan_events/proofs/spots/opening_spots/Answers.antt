use Rattle.std.proofs.Common.{ap, ◌∙◌, map, arith}
use Rattle.std.proofs.lemmas.List.{take_all}
use Rattle.fleet_model.specs.Replays.{standing}
use Rattle.site_map.specs.Claims.{site_of}
use Rattle.plan_events.proofs.KeptSpots.{stand_in}
use Rattle.plan_events.proofs.spots.opening_spots.Goals as goal

pub returns-clause-spots : goal.returns-clause-spots
returns-clause-spots c =
    let site = site_of c.args.site.now in
    stand_in site c.loop-start.spots.items c.args.starts.now (c.loop-start.invariant.0 ∙ ap (map (standing site)) (take_all c.loop-start.start-index c.args.starts.now (omega arith)))
