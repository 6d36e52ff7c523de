use Rattle.std.proofs.Common.{◌≡◌, map, take}
use Rattle.fleet_model.specs.Replays.{held_claims}
use Rattle.site_map.specs.Claims.{site_of}
use Rattle.plan_events.specs.Spots.{shown}
use Rattle.plan_events.proofs.replay.holding_of.Given as goal

abbrev pub invariant-loop-spot : goal.invariant-loop-spot
invariant-loop-spot l =
    (l.places.items ≡ map (λ s. s.cell) (take l.spot-index l.spots))
    × (map (λ v. v.items) l.holdings.items ≡ map (λ s. held_claims (site_of l.site) (shown s)) (take l.spot-index l.spots))
