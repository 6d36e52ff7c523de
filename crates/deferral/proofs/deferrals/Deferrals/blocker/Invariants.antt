use Rattle.std.proofs.Common.{◌≡◌, ℕ, ◌-◌, ◌<◌, ◌≤◌, false}
use Rattle.deferral.specs.Backlogs.{blocks}
use Rattle.deferral.proofs.deferrals.Deferrals.blocker.Given as goal

abbrev pub invariant-loop-claim : goal.invariant-loop-claim
invariant-loop-claim l = (l.from.0 ≤ 1280) × ((c q : ℕ) → c < l.from.0 → blocks l.self l.robot.0 l.needs c q ≡ false)

abbrev pub decreases-loop-claim : goal.decreases-loop-claim
decreases-loop-claim l = 1280 - l.from.0
