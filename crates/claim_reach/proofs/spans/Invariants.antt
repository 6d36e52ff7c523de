use Rattle.std.proofs.Common.{ℕ}
use Rattle.std.specs.HashMap.{get}
use Rattle.std.specs.Prelude.{nat_eq}
use Rattle.claim_reach.proofs.Widening.{IsSpanBelow}
use Rattle.claim_reach.proofs.spans.Given as goal

abbrev pub invariant-loop-place : goal.invariant-loop-place
invariant-loop-place l = (group : ℕ) → IsSpanBelow l.groups l.place group (get nat_eq l.spans group)
