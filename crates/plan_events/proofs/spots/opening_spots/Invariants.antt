use Rattle.std.proofs.Common.{◌≡◌, ◌<◌, ◌≤◌, map, take}
use Rattle.fleet_model.specs.Replays.{standing}
use Rattle.site_map.specs.Claims.{claim_total, site_of}
use Rattle.plan_events.specs.Spots.{shown}
use Rattle.plan_events.proofs.spots.opening_spots.Given as goal

abbrev pub invariant-loop-start : goal.invariant-loop-start
invariant-loop-start l = (map shown l.spots.items ≡ map (standing (site_of l.site)) (take l.start-index l.starts)) × (0 < l.start-index → claim_total l.site ≤ 1280)
