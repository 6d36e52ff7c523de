use Rattle.std.proofs.Common.{◌≡◌, ◌<◌, false}
use Rattle.fleet_base.specs.declared.numbers.ClaimNo.{ClaimNo}
use Rattle.plan_events.specs.Spots.{is_missing, shown}
use Rattle.plan_events.proofs.clash.least_missing.Given as goal

abbrev pub invariant-loop-number : goal.invariant-loop-number
invariant-loop-number l = (c : ClaimNo) → c.0 < l.number → is_missing (shown l.spot) l.left l.entered c ≡ false
