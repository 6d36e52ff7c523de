use Rattle.std.proofs.Common.{ap, arith}
use Rattle.fleet_names.specs.declared.thing.Thing.TheVariants.{Crossing}
use Rattle.fleet_names.specs.Things.{is_crossing}
use Rattle.fleet_names.specs.Names.{count_of}
use Rattle.fleet_names.proofs.Keeping.{kind_counted, kind_fits}
use Rattle.fleet_names.proofs.names.Names.count_crossings.Goals as goal

pub overflow_cast-result : goal.overflow_cast-result
overflow_cast-result c = let fits = kind_fits c.self.inside (Crossing 0) c.self.invariant in omega arith

pub returns : goal.returns
returns c =
    let counted = kind_counted c.self.inside (Crossing 0) c.self.invariant in
    let same = ap (count_of is_crossing) c.self.view_is in
    omega (arith, c.self.inside.places.crossings.ok.0)
