-- Serial journals, and journals that are true to missions.
use Rattle.std.specs.Prelude.{◌≡◌, ℕ, zero, suc, ◌-◌, ◌<◌, false, List, [], ◌∷◌, ◌++◌, length, map, Option, Some, None}
use Rattle.fleet_base.specs.declared.entries.Act.{Act}
use Rattle.fleet_base.specs.declared.entries.Act.TheVariants.{Merged, Deferred, Retried, Canceled, Withdrawn, Replanned, Reported}
use Rattle.fleet_base.specs.declared.entries.Entry.{Entry}
use Rattle.fleet_base.specs.declared.limits.TheConstants.{MAX_COUNT}
use Rattle.fleet_model.specs.Lists.{first_some, numbers_below}
use Rattle.fleet_model.specs.Plans.{Fleet}
use Rattle.fleet_model.specs.States.{State}
use Rattle.fleet_model.specs.Journals.{state_after}
use Rattle.mission_model.specs.Stops.{Leg, Missions, legs_of, next_leg}
use Rattle.mission_model.specs.Policies.{route_to, detour_to, goes_on, can_go_on, IsQuiet}

-- the entry is the policy act of the least robot that can go on
pub record IsNext (missions : Missions) (opening : State) (journal : List Entry) (entry : Entry) : Type 0 where
  pub goes : goes_on missions opening journal entry.robot.0 ≡ Some entry
  pub least : (r : ℕ) → r < entry.robot.0 → can_go_on missions opening journal r ≡ false

-- behind the journal each of these entries is the policy act of the least robot that can go on before it
abbrev pub AreSerial : Missions → State → List Entry → List Entry → Type 0
AreSerial missions opening journal [] = Unit {0}
AreSerial missions opening journal (entry ∷ entries) = IsNext missions opening journal entry × AreSerial missions opening (journal ++ entry ∷ []) entries

-- by these entries the robots go on serially from the journal until no robot can
pub record IsSerialRun (missions : Missions) (opening : State) (journal entries : List Entry) : Type 0 where
  pub serial : AreSerial missions opening journal entries
  pub quiet : IsQuiet missions opening (journal ++ entries)

-- the serial journal from an opening state
abbrev pub IsSerialJournal : Missions → State → List Entry → Type 0
IsSerialJournal missions opening journal = IsSerialRun missions opening [] journal

-- the policy act of the least robot that can go on
abbrev pub next_entry : Missions → State → List Entry → Option Entry
next_entry missions opening journal = first_some (map (goes_on missions opening journal) (numbers_below (length opening.fleet.starts)))

-- the first n of the entries by which robots go on serially from the journal; the next one is handed in
abbrev pub entries_on : ℕ → Missions → State → List Entry → Option Entry → List Entry
entries_on n missions opening journal None = []
entries_on zero missions opening journal (Some entry) = []
entries_on (suc n) missions opening journal (Some entry) = entry ∷ entries_on n missions opening (journal ++ entry ∷ []) (next_entry missions opening (journal ++ entry ∷ []))

-- the entries by which the robots go on serially from the journal; there are no more of them than a run may still come to
abbrev pub serial_entries : Missions → State → List Entry → List Entry
serial_entries missions opening journal = entries_on (MAX_COUNT - (state_after opening journal).count) missions opening journal (next_entry missions opening journal)

-- the act is one that a robot true to its mission makes, where this is its next leg: it proposes the least route to the leg's goal, replans to the detour there, retries and reports, and never cancels or withdraws
abbrev pub IsTrueAct : Fleet → ℕ → Option Leg → Act → Type 0
IsTrueAct m r leg (Merged route first) = route_to m r leg ≡ Some route
IsTrueAct m r leg (Deferred route cycle) = route_to m r leg ≡ Some route
IsTrueAct m r leg (Retried first) = Unit {0}
IsTrueAct m r leg Canceled = ⊥
IsTrueAct m r leg (Withdrawn removed end) = ⊥
IsTrueAct m r leg (Replanned route first) = detour_to m r leg ≡ Some route
IsTrueAct m r leg (Reported event) = Unit {0}

-- the entry is true to its robot's mission behind the journal
abbrev pub IsTrueEntry : Missions → State → List Entry → Entry → Type 0
IsTrueEntry missions opening journal entry = IsTrueAct (state_after opening journal).fleet entry.robot.0 (next_leg (legs_of missions entry.robot.0) opening journal entry.robot.0) entry.act

-- behind the journal each of these entries is true to its robot's mission
abbrev pub AreTrue : Missions → State → List Entry → List Entry → Type 0
AreTrue missions opening journal [] = Unit {0}
AreTrue missions opening journal (entry ∷ entries) = IsTrueEntry missions opening journal entry × AreTrue missions opening (journal ++ entry ∷ []) entries

-- the journal is true to the missions
abbrev pub IsMissionTrue : Missions → State → List Entry → Type 0
IsMissionTrue missions opening journal = AreTrue missions opening [] journal
