use Rattle.compare_graphs.proofs.Fits.{AreFitBelow}
use Rattle.compare_graphs.proofs.fitting.are_fit.Given as goal

abbrev pub invariant-loop-place : goal.invariant-loop-place
invariant-loop-place l = AreFitBelow l.claims l.kinds l.place
