use Rattle.std.proofs.Common.{map}
use Rattle.site_map.specs.Crossings.{completed}
use Rattle.site_map.proofs.ClaimLemmas.{AreNumberedBelow}
use Rattle.site_map.proofs.numbering.number_claims.Given as goal

abbrev pub invariant-loop-number : goal.invariant-loop-number
invariant-loop-number l = AreNumberedBelow (map completed l.crossings) l.firsts l.owners l.next l.number
