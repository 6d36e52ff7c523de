use Rattle.std.proofs.Common.{◌≡◌, ◌≤◌, length, take}
use Rattle.fleet_model.specs.Sites.{without}
use Rattle.plan_events.proofs.steps.count_without.Given as goal

abbrev pub invariant-loop-claim : goal.invariant-loop-claim
invariant-loop-claim l = record {
  counted : l.count ≡ length (without (take l.claim-index l.claims) l.others);
  few : l.count ≤ l.claim-index;
}
