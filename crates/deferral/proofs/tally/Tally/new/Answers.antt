use Rattle.deferral.proofs.Blanks.{tally-blank}
use Rattle.deferral.proofs.tally.Tally.new.Goals as goal

pub invariant_of-result : goal.invariant_of-result
invariant_of-result c = tally-blank c.in_ok-vec.field-0.items c.in_ok-vec-2.field-0.items c.in_ok-new.field-0 c.args.claims c.requires (c.in_ok-vec.ensures.items_if_clones_equal (λ y e. e)) (c.in_ok-vec-2.ensures.items_if_clones_equal (λ y e. e)) c.in_ok-new.ensures
