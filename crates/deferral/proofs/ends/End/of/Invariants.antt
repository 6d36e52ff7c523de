use Rattle.std.proofs.Common.{◌≡◌, length, take}
use Rattle.deferral.proofs.ends.End.of.Given as goal

abbrev pub invariant-loop-place : goal.invariant-loop-place
invariant-loop-place l = (length l.places ≡ 3) × (take l.place l.places ≡ take l.place l.claims)
