use Rattle.std.proofs.Common.{refl}
use Rattle.deferral.proofs.Blanks.{count_at-blank, matrix-blank}
use Rattle.deferral.proofs.matrix.Matrix.new.Goals as goal

pub invariant_of-result : goal.invariant_of-result
invariant_of-result c = matrix-blank c.in_ok-vec.field-0.items c.new.result 4096 refl (c.in_ok-vec.ensures.items_if_clones_equal (λ y e. e)) c.new.ensures

pub returns : goal.returns
returns c = λ r q. count_at-blank c.in_ok-vec.field-0.items 4096 r q (c.in_ok-vec.ensures.items_if_clones_equal (λ y e. e))
