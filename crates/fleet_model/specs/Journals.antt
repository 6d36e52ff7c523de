-- Journals: which are legal from an opening state, and the state that they reach.
use Rattle.std.specs.Prelude.{◌≡◌, List, [], ◌∷◌, map, Some}
use Rattle.fleet_base.specs.declared.entries.Act.{Act}
use Rattle.fleet_base.specs.declared.entries.Act.TheVariants.{Merged, Deferred, Retried, Canceled, Withdrawn, Replanned, Reported}
use Rattle.fleet_base.specs.declared.entries.Entry.{Entry}
use Rattle.fleet_base.specs.declared.numbers.CellNo.{CellNo}
use Rattle.fleet_base.specs.declared.numbers.Event.{Event}
use Rattle.fleet_model.specs.Sites.{last_cell}
use Rattle.fleet_model.specs.States.{State}
use Rattle.fleet_model.specs.Calls.{Call, Propose, Retry, Cancel, Withdraw, Replan, Report, Turn, turn}

-- the last cell of a route, as a list
abbrev pub last_of : List CellNo → List CellNo
last_of [] = []
last_of (a ∷ bs) = last_cell a bs ∷ []

-- the call that an entry records; that of a replan has the route's last cell as its goal
abbrev pub call_of : Act → Call
call_of (Merged route first) = Propose route
call_of (Deferred route cycle) = Propose route
call_of (Retried first) = Retry
call_of Canceled = Cancel
call_of (Withdrawn removed end) = Withdraw
call_of (Replanned route first) = Replan (last_of route)
call_of (Reported event) = Report event

-- what the machine gives where the entry's call is made
abbrev pub turn_at : State → Entry → Turn
turn_at s entry = turn s entry.robot.0 (call_of entry.act)

-- each entry is that of an accepted call at the state that the entries before it leave
abbrev pub IsJournal : State → List Entry → Type 0
IsJournal s [] = Unit {0}
IsJournal s (entry ∷ entries) = ((turn_at s entry).entry ≡ Some entry) × IsJournal (turn_at s entry).after entries

-- the state that a legal journal reaches
abbrev pub state_after : State → List Entry → State
state_after s [] = s
state_after s (entry ∷ entries) = state_after (turn_at s entry).after entries

-- the entries of reports of these events, in this order
abbrev pub report_entries : List Event → List Entry
report_entries order = map (λ e. record { robot = e.robot; act = Reported e.no }) order
