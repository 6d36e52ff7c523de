use Rattle.std.proofs.Common.{◌≡◌, ℕ, length, Some}
use Rattle.std.specs.Prelude.{slice_get}
use Rattle.fleet_base.specs.declared.numbers.ClaimGroup.{ClaimGroup}
use Rattle.claim_reach.specs.declared.Reach.{Reach}
use Rattle.claim_reach.specs.Reaches.{SpansGroup}
use Rattle.claim_reach.proofs.reaches.Given as goal

abbrev pub invariant-loop-claim : goal.invariant-loop-claim
invariant-loop-claim l = record {
  long : length l.reaches.items ≡ l.claim-index;
  spans : (c : ℕ) (g : ClaimGroup) (reach : Reach) → slice_get l.groups c ≡ Some g → slice_get l.reaches.items c ≡ Some reach → SpansGroup l.groups g.group reach;
}
