use Rattle.std.specs.FinSet as set
use Rattle.site_map.specs.declared.places.Places.TheVariants.{Free}
use Rattle.site_map.proofs.PlaceLemmas.{Enters, IsChangedBelow}
use Rattle.site_map.proofs.places.enter.Given as goal

abbrev pub invariant-loop-number : goal.invariant-loop-number
invariant-loop-number l = IsChangedBelow (Enters (set.contains l.members) l.crossing) l.number Free l.initial.places l.places
