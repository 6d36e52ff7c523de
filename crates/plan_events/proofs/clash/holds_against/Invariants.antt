use Rattle.std.proofs.Common.{◌≡◌, ℕ, ◌<◌, false}
use Rattle.site_map.specs.Claims.{site_of}
use Rattle.plan_events.specs.Spots.{shown}
use Rattle.plan_events.proofs.Finding.{is_against}
use Rattle.plan_events.proofs.clash.holds_against.Given as goal

abbrev pub invariant-loop-number : goal.invariant-loop-number
invariant-loop-number l = (n : ℕ) → n < l.number → is_against (site_of l.site) (shown l.spot) l.claim (record { 0 = n }) ≡ false
