use Rattle.std.proofs.Common.{[], ◌∷◌, ◌++◌, ap, sym, ◌∙◌, arith}
use Rattle.coordinator.proofs.Searches.{take_next}
use Rattle.site_map.specs.Claims.{groups_of}
use Rattle.coordinator.proofs.opening.groups_of.Goals as goal

pub loop-claim-preserved : goal.loop-claim-preserved
loop-claim-preserved c = (
  c.push_reserved.ensures.items ∙ ap (λ gs. gs ++ c.group.result ∷ []) c.loop-claim.invariant.0 ∙ sym (take_next (groups_of c.args.site.now) c.loop-claim.claim c.group.result c.group.ensures),
  omega (arith, c.push_reserved.ensures.len, c.loop-claim.invariant.1),
  omega (arith, c.push_reserved.ensures.capacity, c.loop-claim.invariant.2),
)
