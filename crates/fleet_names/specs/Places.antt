-- Where the things of each kind stand among all names.
use Rattle.std.specs.Prelude.{ℕ, ◌+◌, if◌then◌else◌, Bool, List, [], ◌∷◌}
use Rattle.fleet_names.specs.declared.thing.Thing.{Thing}
use Rattle.fleet_names.specs.declared.thing.Thing.TheVariants.{Cell, Crossing, Area, Robot}
use Rattle.fleet_names.specs.declared.places.Places.{Places}
use Rattle.fleet_names.specs.Names.{Named}

-- the places that are kept for the kind of a thing
abbrev pub places_in : Places → Thing → List ℕ
places_in places (Cell n) = places.cells.items
places_in places (Crossing n) = places.crossings.items
places_in places (Area n) = places.areas.items
places_in places (Robot n) = places.robots.items

-- the places of the things of a kind, where the first name has the place p
abbrev pub places_of : (Thing → Bool) → ℕ → Named → List ℕ
places_of test p [] = []
places_of test p (e ∷ es) = if test e.1 then p ∷ places_of test (p + 1) es else places_of test (p + 1) es
