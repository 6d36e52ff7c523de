use Rattle.std.proofs.Common.{◌≡◌, [], None, replicate}
use Rattle.deferral.proofs.deferrals.Deferrals.new.Given as goal

abbrev pub invariant-loop-robot : goal.invariant-loop-robot
invariant-loop-robot l = (l.pending.items ≡ replicate l._robot None) × (l.ends.items ≡ replicate l._robot [])
