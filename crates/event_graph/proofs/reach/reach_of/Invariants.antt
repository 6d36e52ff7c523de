use Rattle.std.proofs.Common.{◌≡◌, ℕ, ◌<◌, ◌≤◌, Some}
use Rattle.std.specs.Prelude.{slice_get}
use Rattle.fleet_base.specs.declared.numbers.ClaimGroup.{ClaimGroup}
use Rattle.event_graph.proofs.reach.reach_of.Given as goal

abbrev pub invariant-loop-place : goal.invariant-loop-place
invariant-loop-place l = record {
  end : l.end ≤ l.place;
  within : (d : ℕ) (g : ClaimGroup) → d < l.place → slice_get l.groups d ≡ Some g → g.group ≡ l.group → (l.first ≤ d) × (d < l.end);
}
