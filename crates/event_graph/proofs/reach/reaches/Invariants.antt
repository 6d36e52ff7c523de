use Rattle.std.proofs.Common.{◌≡◌, ℕ, Some, length}
use Rattle.std.specs.Prelude.{slice_get}
use Rattle.fleet_base.specs.declared.numbers.ClaimGroup.{ClaimGroup}
use Rattle.event_graph.specs.declared.reach.Reach.{Reach}
use Rattle.event_graph.specs.Reaches.{IsReachOf}
use Rattle.event_graph.proofs.reach.reaches.Given as goal

abbrev pub invariant-loop-claim : goal.invariant-loop-claim
invariant-loop-claim l = record {
  long : length l.reaches.items ≡ l.claim-index;
  within : (c : ℕ) (g : ClaimGroup) (reach : Reach) → slice_get l.groups c ≡ Some g → slice_get l.reaches.items c ≡ Some reach → IsReachOf l.groups g reach;
}
