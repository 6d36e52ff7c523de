use Rattle.compare_graphs.specs.Pairs.{IsPair}
use Rattle.compare_graphs.proofs.steps.make_steps.Given as goal

abbrev pub invariant-loop-step : goal.invariant-loop-step
invariant-loop-step l = IsPair l.pair
