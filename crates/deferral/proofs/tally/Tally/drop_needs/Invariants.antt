use Rattle.std.proofs.Common.{◌≡◌, ◌-◌, ◌≤◌, ◌==◌, ◌&&◌, false}
use Rattle.std.specs.Prelude.{nat_lt}
use Rattle.std.specs.FinSet.{contains}
use Rattle.deferral.specs.Tallies.{IsRemarked}
use Rattle.deferral.proofs.tally.Tally.drop_needs.Given as goal

abbrev pub invariant-loop-claim : goal.invariant-loop-claim
invariant-loop-claim l =
    (l.from.0 ≤ 1280)
    × (l.self.kept ≡ l.fn.self.kept)
    × IsRemarked l.fn.self.needed l.self.needed (λ c r. (r == l.robot.0) && (nat_lt c l.from.0 && contains l.needs c)) false

abbrev pub decreases-loop-claim : goal.decreases-loop-claim
decreases-loop-claim l = 1280 - l.from.0
