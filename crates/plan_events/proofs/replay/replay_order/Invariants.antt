use Rattle.std.proofs.Common.{◌≡◌, length, drop}
use Rattle.fleet_model.specs.Replays.{opening}
use Rattle.site_map.specs.Claims.{site_of}
use Rattle.plan_events.specs.Spots.{spot_of}
use Rattle.plan_events.proofs.Replaying.{IsReplayed}
use Rattle.plan_events.proofs.replay.replay_order.Given as goal

abbrev pub invariant-loop-event : goal.invariant-loop-event
invariant-loop-event l =
    (length l.spots.items ≡ length l.starts)
    × IsReplayed (site_of l.site) (length l.starts) (opening (site_of l.site) l.starts) l.events (spot_of l.spots.items) (drop l.event-index l.events)
