-- Words for small runs with missions.
use Rattle.std.specs.Prelude.{ℕ, List, [], ◌∷◌, map}
use Rattle.std.specs.List.{range_with_len}
use Rattle.fleet_base.specs.declared.entries.Act.TheVariants.{Merged, Reported, Withdrawn}
use Rattle.fleet_base.specs.declared.entries.Entry.{Entry}
use Rattle.fleet_model.specs.Sites.{Site}
use Rattle.fleet_model.specs.Examples.{a, b, c, d, r1, cell, cells, event, entry, to, alone, own_claims}
use Rattle.mission_model.specs.Stops.{Leg, Missions, Stop}

-- a leg to this cell
abbrev pub visit : ℕ → Leg
visit n = cells (n ∷ [])

-- robot r reports the events from the first on, so many
abbrev pub reports_from : ℕ → ℕ → ℕ → List Entry
reports_from r first count = map (λ n. entry r (Reported (event n))) (range_with_len first count)

-- two cells with a lane between them
abbrev pub pair : Site
pair = record {
  links = (to b 1 ∷ []) ∷ (to a 1 ∷ []) ∷ [];
  footprints = own_claims 2;
  groups = alone 2;
}

-- the track: cells a b c; lanes between a and b, b and c
abbrev pub track : Site
track = record {
  links = (to b 1 ∷ []) ∷ (to a 1 ∷ to c 1 ∷ []) ∷ (to b 1 ∷ []) ∷ [];
  footprints = own_claims 3;
  groups = alone 3;
}

-- the track with one link alone, from a to b
abbrev pub broken_track : Site
broken_track = record {
  links = (to b 1 ∷ []) ∷ [] ∷ [] ∷ [];
  footprints = own_claims 3;
  groups = alone 3;
}

-- r1 in a of the junction, to visit b
abbrev pub one_to_b : Missions
one_to_b = (visit b ∷ []) ∷ []

-- r1 in a of the junction, to visit b and then a
abbrev pub there_and_home : Missions
there_and_home = (visit b ∷ visit a ∷ []) ∷ []

-- r1 in a and r2 in b of the pair, each to visit the other's cell
abbrev pub to_each_other : Missions
to_each_other = (visit b ∷ []) ∷ (visit a ∷ []) ∷ []

-- r1 in b without a mission, and r2 in a to visit c
abbrev pub second_to_c : Missions
second_to_c = [] ∷ (visit c ∷ []) ∷ []

-- r1 in b and r2 in c of the bypass, each to go past the other
abbrev pub past_each_other : Missions
past_each_other = (visit d ∷ []) ∷ (visit a ∷ []) ∷ []

-- a stop in this cell behind the event of this number
abbrev pub stop : ℕ → ℕ → Stop
stop n cell_number = record { number = n; cell = cell cell_number }

-- r1 proposes from a by b to c, acquires b and withdraws
abbrev pub step_begun : List Entry
step_begun = entry r1 (Merged (cells (a ∷ b ∷ c ∷ [])) (event 1)) ∷ entry r1 (Reported (event 1)) ∷ entry r1 (Withdrawn 3 (cell b)) ∷ []
