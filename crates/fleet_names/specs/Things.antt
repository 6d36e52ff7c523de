-- The kinds and numbers of things.
use Rattle.std.specs.Prelude.{ℕ, ◌==◌, ◌&&◌, Bool, true, false}
use Rattle.fleet_names.specs.declared.thing.Thing.{Thing}
use Rattle.fleet_names.specs.declared.thing.Thing.TheVariants.{Cell, Crossing, Area, Robot}

-- the number of a thing among those of its kind
abbrev pub number_of : Thing → ℕ
number_of (Cell n) = n
number_of (Crossing n) = n
number_of (Area n) = n
number_of (Robot n) = n

abbrev pub is_cell : Thing → Bool
is_cell (Cell n) = true
is_cell (Crossing n) = false
is_cell (Area n) = false
is_cell (Robot n) = false

abbrev pub is_crossing : Thing → Bool
is_crossing (Cell n) = false
is_crossing (Crossing n) = true
is_crossing (Area n) = false
is_crossing (Robot n) = false

abbrev pub is_area : Thing → Bool
is_area (Cell n) = false
is_area (Crossing n) = false
is_area (Area n) = true
is_area (Robot n) = false

abbrev pub is_robot : Thing → Bool
is_robot (Cell n) = false
is_robot (Crossing n) = false
is_robot (Area n) = false
is_robot (Robot n) = true

-- whether another thing is of the kind of this one
abbrev pub same_kind : Thing → Thing → Bool
same_kind (Cell n) = is_cell
same_kind (Crossing n) = is_crossing
same_kind (Area n) = is_area
same_kind (Robot n) = is_robot

-- whether two things are one thing
abbrev pub same_thing : Thing → Thing → Bool
same_thing thing other = same_kind thing other && number_of thing == number_of other
