use Rattle.std.specs.FinSet as set
use Rattle.site_map.specs.declared.places.Places.TheVariants.{Free}
use Rattle.site_map.proofs.PlaceLemmas.{Marks, IsChangedBelow}
use Rattle.site_map.proofs.places.mark.Given as goal

abbrev pub invariant-loop-number : goal.invariant-loop-number
invariant-loop-number l = IsChangedBelow (Marks (set.contains l.members) l.crossing l.line) l.number Free l.initial.places l.places
