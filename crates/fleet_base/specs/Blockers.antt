-- Blockers as pairs.
use Rattle.std.specs.Prelude.{ℕ}
use Rattle.fleet_base.specs.declared.answers.Blocker.{Blocker}
use Rattle.fleet_base.specs.declared.numbers.ClaimNo.{ClaimNo}

-- the claim and the number of the robot
abbrev pub pair_of : Blocker → ClaimNo × ℕ
pair_of blocker = (blocker.claim, blocker.by.0)
