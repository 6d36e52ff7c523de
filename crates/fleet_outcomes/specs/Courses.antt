-- What is kept of a robot while its journal is read.
use Rattle.std.specs.Prelude.{◌≡◌, ℕ, ◌+◌, ◌-◌, ◌≤◌, nat_le, List, [], ◌∷◌, ◌++◌, length, take, Option, Some, None}
use Rattle.std.specs.List.{filter}
use Rattle.fleet_base.specs.declared.entries.Act.{Act}
use Rattle.fleet_base.specs.declared.entries.Act.TheVariants.{Merged, Deferred, Retried, Canceled, Withdrawn, Replanned, Reported}
use Rattle.fleet_base.specs.declared.numbers.CellNo.{CellNo}
use Rattle.fleet_base.specs.declared.numbers.Event.{Event}
use Rattle.fleet_model.specs.Sites.{Site, last_cell, steps}
use Rattle.mission_model.specs.Stops.{Leg, Stop as PlainStop, last_number, serve_on}
use Rattle.plan_events.specs.Shapes.{shape_cause}
use Rattle.fleet_outcomes.specs.declared.stops.Stop.{Stop}
use Rattle.fleet_outcomes.specs.declared.stops.Way.{Way}

-- the stops of a robot, the number of its events in the plan, and its pending route
pub record Course : Type 0 where
  pub stops : List Stop
  pub events : ℕ
  pub pending : Way

-- a route of no cell
abbrev pub no_way : Way
no_way = record { events = 0; end = record { 0 = 0 } }

-- how many events a route has, and the cell that it ends in
abbrev pub way_of : Site → List CellNo → Way
way_of site [] = no_way
way_of site (a ∷ bs) = record { events = length (steps site (a ∷ bs)); end = last_cell a bs }

-- that of a pending route
abbrev pub way_pending : Site → Option (List CellNo) → Way
way_pending site None = no_way
way_pending site (Some route) = way_of site route

-- the course of a robot that starts in this cell, with this pending route
abbrev pub first_course : CellNo → Way → Course
first_course start pending = record { stops = record { events = 0; cell = start } ∷ []; events = 0; pending = pending }

-- with so many events and a stop behind them
abbrev pub stopping : Course → ℕ → CellNo → List Stop → Course
stopping course events cell stops = record course { stops = stops ++ record { events = events; cell = cell } ∷ []; events = events }

-- with the route in the plan
abbrev pub grown : Way → Course → Course
grown way course = stopping course (course.events + way.events) way.end course.stops

-- without the last of the events, so many, so that the robot ends in this cell
abbrev pub cut : ℕ → CellNo → Course → Course
cut removed end course = stopping course (course.events - removed) end (filter (λ stop. nat_le stop.events (course.events - removed)) course.stops)

-- the course behind an act of the robot's own
abbrev pub course_after : Site → Act → Course → Course
course_after site (Merged route first) course = grown (way_of site route) course
course_after site (Deferred route cycle) course = record course { pending = way_of site route }
course_after site (Retried first) course = grown course.pending course
course_after site Canceled course = course
course_after site (Withdrawn removed end) course = cut removed end course
course_after site (Replanned route first) course = grown (way_of site route) course
course_after site (Reported event) course = course

-- the act may follow: its route has the shape of one, and no more events go than there are
abbrev pub MayFollow : Site → Act → Course → Type 0
MayFollow site (Merged route first) course = shape_cause site route ≡ None
MayFollow site (Deferred route cycle) course = shape_cause site route ≡ None
MayFollow site (Retried first) course = Unit {0}
MayFollow site Canceled course = Unit {0}
MayFollow site (Withdrawn removed end) course = removed ≤ course.events
MayFollow site (Replanned route first) course = shape_cause site route ≡ None
MayFollow site (Reported event) course = Unit {0}

-- the kept stops are these of a robot with these events in the plan: each is kept with the number of the robot's events in front of it
abbrev pub AreStops : List Event → List PlainStop → List Stop → Type 0
AreStops events [] [] = Unit {0}
AreStops events [] (k ∷ ks) = ⊥
AreStops events (s ∷ ss) [] = ⊥
AreStops events (s ∷ ss) (k ∷ ks) =
    (k.events ≤ length events) × (s.number ≡ last_number 0 (take k.events events)) × (s.cell ≡ k.cell) × AreStops events ss ks

-- serving on at each of these stops, in order
abbrev pub kept_along : List Leg → ℕ → List Stop → ℕ
kept_along legs count [] = count
kept_along legs count (stop ∷ stops) = kept_along legs (serve_on legs stop.cell count) stops
