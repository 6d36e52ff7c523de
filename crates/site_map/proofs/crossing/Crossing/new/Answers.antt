use Rattle.std.proofs.Common.{true, sym, subst}
use Rattle.site_map.specs.Inside.{IsCrossing}
use Rattle.site_map.proofs.CrossingLemmas.{IsCrossing-new}
use Rattle.site_map.proofs.crossing.Crossing.new.Goals as goal

pub invariant_of-result : goal.invariant_of-result
invariant_of-result c =
    subst (λ lines. IsCrossing c.args.cells lines c.args.members true) (sym c.new.ensures.items)
    (IsCrossing-new c.args.cells c.args.members c.requires.some c.requires.known c.requires.members)
