use Rattle.std.proofs.Common.{◌≡◌, false, take}
use Rattle.std.specs.List.{list_any}
use Rattle.deferral.specs.Backlogs.{is_kept_from}
use Rattle.coordinator.proofs.shut.keeps_any.Given as goal

abbrev pub invariant-loop-claim : goal.invariant-loop-claim
invariant-loop-claim l = list_any (λ c. is_kept_from l.deferrals l.robot.0 c.0) (take l.claim-index l.claims) ≡ false
