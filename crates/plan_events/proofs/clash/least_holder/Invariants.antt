use Rattle.std.proofs.Common.{◌≡◌, ℕ, ◌<◌, false, not, ◌&&◌, ◌==◌}
use Rattle.site_map.specs.Claims.{site_of}
use Rattle.plan_events.specs.Clashes.{holds_against}
use Rattle.plan_events.specs.Spots.{spot_of}
use Rattle.plan_events.proofs.clash.least_holder.Given as goal

abbrev pub invariant-loop-place : goal.invariant-loop-place
invariant-loop-place l = (q : ℕ) → q < l.place → (not (q == l.robot.0) && holds_against (site_of l.site) (spot_of l.spots q) l.claim) ≡ false
