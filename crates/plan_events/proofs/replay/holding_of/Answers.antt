use Rattle.std.proofs.Common.{ap, ◌∙◌, map, arith}
use Rattle.std.proofs.lemmas.List.{take_all}
use Rattle.fleet_model.specs.Replays.{held_claims, Spot}
use Rattle.site_map.specs.Claims.{site_of}
use Rattle.plan_events.specs.Spots.{shown}
use Rattle.plan_events.proofs.Replaying.{by_robot}
use Rattle.plan_events.proofs.replay.holding_of.Goals as goal

pub returns : goal.returns
returns c =
    let site = site_of c.args.site.now in
    let spots = c.args.spots.now in
    let all = take_all c.loop-spot.spot-index spots (omega arith) in
    let places = c.loop-spot.invariant.0 ∙ (ap (map (λ s. s.cell)) all ∙ by_robot (λ (s : Spot). s.cell) spots) in
    let holdings = c.loop-spot.invariant.1 ∙ (ap (map (λ s. held_claims site (shown s))) all ∙ by_robot (held_claims site) spots) in
    λ i. record { places = places i; holdings = holdings i }
