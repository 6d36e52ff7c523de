use Rattle.std.proofs.Common.{◌≡◌, ◌++◌, map, take}
use Rattle.fleet_base.specs.declared.numbers.Kind.TheVariants.{Acquire}
use Rattle.fleet_model.specs.Sites.{without}
use Rattle.plan_events.proofs.steps.push_acquires.Given as goal

abbrev pub invariant-loop-claim : goal.invariant-loop-claim
invariant-loop-claim l = l.kinds.items ≡ l.fn.kinds.items ++ map (λ c. Acquire c) (without (take l.claim-index l.claims) l.held)
