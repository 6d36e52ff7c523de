use Rattle.std.proofs.Common.{◌≡◌, List, ◌++◌, map}
use Rattle.shared_fleet.specs.Tokens.{Token}
use Rattle.shared_fleet.specs.Resting.{note}
use Rattle.shared_fleet.proofs.shared.take_in.Given as goal

abbrev pub invariant-loop-pass : goal.invariant-loop-pass
invariant-loop-pass l = (back : List Token) × (l.initial.passes.items ≡ l.passes.items ++ back) × (l.first ≡ record l.initial.first { joined = map note back })

abbrev pub decreases-loop-pass : goal.decreases-loop-pass
decreases-loop-pass l = goal.left-loop-pass l
