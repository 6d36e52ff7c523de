use Rattle.std.proofs.Common.{◌≡◌, take}
use Rattle.robot_tables.proofs.tables.held_of.Given as goal

abbrev pub invariant-loop-claim : goal.invariant-loop-claim
invariant-loop-claim l = l.held ≡ take l.claim-index l.claims
