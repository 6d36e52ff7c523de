use Rattle.std.proofs.Common.{◌≡◌, ◌==◌, ◌&&◌, take, true}
use Rattle.deferral.specs.Backlogs.{is_kept}
use Rattle.deferral.specs.Tallies.{IsRemarked}
use Rattle.deferral.proofs.keeping.keep_all.Given as goal

abbrev pub invariant-loop-claim : goal.invariant-loop-claim
invariant-loop-claim l =
    (l.tally.needed ≡ l.fn.tally.needed)
    × IsRemarked l.fn.tally.kept l.tally.kept (λ c r. (r == l.robot.0) && is_kept l.groups (take l.claim-index l.claims) c) true
