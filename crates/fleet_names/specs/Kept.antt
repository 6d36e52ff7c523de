-- How names are kept.
use Rattle.std.specs.Prelude.{◌≡◌, ℕ, ◌^◌, ◌<◌, List, length, map, Vec}
use Rattle.std.specs.Global.{Global}
use Rattle.fleet_names.specs.declared.thing.Thing.{Thing}
use Rattle.fleet_names.specs.declared.names.Names.TheInside.{Inside}
use Rattle.fleet_names.specs.Things.{same_kind}
use Rattle.fleet_names.specs.Names.{Named, AreDeclared}
use Rattle.fleet_names.specs.Places.{places_in, places_of}

-- an entry of the map as a name and what it names
abbrev pub named : Vec ℕ Global × Thing → List ℕ × Thing
named e = (e.0.items, e.1)

-- the names and what they name
abbrev pub shown : Inside → Named
shown n = map named n.things.entries

-- The places are those of the names, and fit.
pub record IsKept (n : Inside) : Type 0 where
  pub declared : AreDeclared (shown n)
  pub placed : (thing : Thing) → places_in n.places thing ≡ places_of (same_kind thing) 0 (shown n)
  pub small : length (shown n) < 2 ^ 32
