-- Missions, the stops of a robot, and the legs that are served at them.
use Rattle.std.specs.Prelude.{ℕ, ◌+◌, ◌==◌, nat_le, if◌then◌else◌, List, [], ◌∷◌, ◌++◌, drop, Option, slice_get, slice_index_or}
use Rattle.std.specs.List.{filter, prefix_len}
use Rattle.fleet_base.specs.declared.entries.Act.{Act}
use Rattle.fleet_base.specs.declared.entries.Act.TheVariants.{Merged, Deferred, Retried, Canceled, Withdrawn, Replanned, Reported}
use Rattle.fleet_base.specs.declared.entries.Entry.{Entry}
use Rattle.fleet_base.specs.declared.numbers.CellNo.{CellNo}
use Rattle.fleet_base.specs.declared.numbers.Event.{Event}
use Rattle.fleet_model.specs.Lists.{has_cell}
use Rattle.fleet_model.specs.Plans.{Fleet, own, end_of}
use Rattle.fleet_model.specs.States.{State}
use Rattle.fleet_model.specs.Journals.{turn_at}

-- a leg: the cells of its goal
abbrev pub Leg : Type 0
Leg = List CellNo

-- the legs of each robot, in order
abbrev pub Missions : Type 0
Missions = List (List Leg)

-- the legs of robot r
abbrev pub legs_of : Missions → ℕ → List Leg
legs_of missions r = slice_index_or missions r []

-- a place in a robot's plan at which it stops: the number of the last event in front of it, and the cell
pub record Stop : Type 0 where
  pub number : ℕ
  pub cell : CellNo

-- the number of the last of these events; n where there is none
abbrev pub last_number : ℕ → List Event → ℕ
last_number n [] = n
last_number n (e ∷ es) = last_number e.no.0 es

-- the stop of robot r behind all its events in the plan
abbrev pub last_stop : Fleet → ℕ → Stop
last_stop m r = record { number = last_number 0 (own r m.plan); cell = end_of m r }

-- the stops of robot r once an act of its own has led to this plan: a merge appends its last stop; a withdrawal removes those behind the robot's last event, and then appends it
abbrev pub stops_after : Fleet → ℕ → Act → List Stop → List Stop
stops_after m r (Merged route first) stops = stops ++ last_stop m r ∷ []
stops_after m r (Retried first) stops = stops ++ last_stop m r ∷ []
stops_after m r (Replanned route first) stops = stops ++ last_stop m r ∷ []
stops_after m r (Withdrawn removed end) stops = filter (λ stop. nat_le stop.number (last_number 0 (own r m.plan))) stops ++ last_stop m r ∷ []
stops_after m r (Deferred route cycle) stops = stops
stops_after m r Canceled stops = stops
stops_after m r (Reported event) stops = stops

-- the stops of robot r behind these entries, from the state and the stops in front of them on
abbrev pub stops_from : State → ℕ → List Stop → List Entry → List Stop
stops_from s r stops [] = stops
stops_from s r stops (entry ∷ entries) =
    stops_from (turn_at s entry).after r (if entry.robot.0 == r then stops_after (turn_at s entry).after.fleet r entry.act stops else stops) entries

-- the stops of robot r in a journal from an opening state: the first is where it opens
abbrev pub stops_of : State → List Entry → ℕ → List Stop
stops_of opening journal r = stops_from opening r (record { number = 0; cell = end_of opening.fleet r } ∷ []) journal

-- serving on from a count at a cell: as long as a leg is left and the next leg's goal contains the cell, that leg is served
abbrev pub serve_on : List Leg → CellNo → ℕ → ℕ
serve_on legs a count = count + prefix_len (λ goal. has_cell goal a) (drop count legs)

-- serving on at each of these stops, in order
abbrev pub serve_along : List Leg → ℕ → List Stop → ℕ
serve_along legs count [] = count
serve_along legs count (stop ∷ stops) = serve_along legs (serve_on legs stop.cell count) stops

-- how many of these legs of robot r are served after a journal from an opening state
abbrev pub served : List Leg → State → List Entry → ℕ → ℕ
served legs opening journal r = serve_along legs 0 (stops_of opening journal r)

-- the next of these legs of robot r; None where none is left
abbrev pub next_leg : List Leg → State → List Entry → ℕ → Option Leg
next_leg legs opening journal r = slice_get legs (served legs opening journal r)
