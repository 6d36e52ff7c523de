-- What a journal keeps at each of its places.
use Rattle.std.specs.Prelude.{◌≡◌, ◌≢◌, ◌↔◌, ℕ, true, false, ◌⊎◌, List, [], ◌∷◌, ◌++◌}
use Rattle.fleet_base.specs.declared.entries.Act.{Act}
use Rattle.fleet_base.specs.declared.entries.Act.TheVariants.{Merged, Deferred, Retried, Canceled, Withdrawn, Replanned}
use Rattle.fleet_base.specs.declared.entries.Entry.{Entry}
use Rattle.fleet_base.specs.declared.numbers.CellNo.{CellNo}
use Rattle.fleet_base.specs.declared.numbers.Event.{Event}
use Rattle.fleet_base.specs.declared.numbers.EventNo.{EventNo}
use Rattle.fleet_base.specs.declared.numbers.RobotNo.{RobotNo}
use Rattle.fleet_base.specs.Lists.{numbers_of}
use Rattle.fleet_model.specs.Lists.{In}
use Rattle.fleet_model.specs.Plans.{IsReady, IsBehind, IsSafe, IsAllowed, Insertion, IsInsertion, IsSafeInsertion, route_events, is_done}
use Rattle.fleet_model.specs.Cycles.{is_cycle}
use Rattle.fleet_model.specs.States.{State, is_deferred_on}
use Rattle.fleet_model.specs.Journals.{state_after, turn_at}

-- different robots, each deferred on the next and the last on the first
abbrev pub IsCycle : State → List ℕ → Type 0
IsCycle s [] = ⊥
IsCycle s (r ∷ rs) = is_cycle (is_deferred_on s) r (r ∷ rs) ≡ true

-- the act is a merge
abbrev pub IsMerge : Act → Type 0
IsMerge (Merged route first) = Unit {0}
IsMerge (Retried first) = Unit {0}
IsMerge (Replanned route first) = Unit {0}
IsMerge _ = ⊥

-- the act may end a cycle that its robot is in
abbrev pub IsChange : Act → Type 0
IsChange Canceled = Unit {0}
IsChange (Withdrawn removed end) = Unit {0}
IsChange (Replanned route first) = Unit {0}
IsChange _ = ⊥

-- the act is a deferral
abbrev pub IsDeferral : Act → Type 0
IsDeferral (Deferred route cycle) = Unit {0}
IsDeferral _ = ⊥

-- the act is a withdrawal
abbrev pub IsWithdrawal : Act → Type 0
IsWithdrawal (Withdrawn removed end) = Unit {0}
IsWithdrawal _ = ⊥

-- no member cancels, withdraws or replans
abbrev pub IsTrueTo : List ℕ → List Entry → Type 0
IsTrueTo members journal = (entry : Entry) → In entry journal → In entry.robot.0 members → IsChange entry.act → ⊥

-- no member defers a route
abbrev pub NoneDefers : List ℕ → List Entry → Type 0
NoneDefers members journal = (entry : Entry) → In entry journal → In entry.robot.0 members → IsDeferral entry.act → ⊥

-- some insertion of the route is safe
abbrev pub CanInsert : State → ℕ → List CellNo → Type 0
CanInsert s r route = (pairs : Insertion) × IsInsertion s.fleet (route_events s.fleet r route) pairs × IsSafeInsertion s.fleet (route_events s.fleet r route) pairs

-- at this state: every allowed order is safe, and where an event is unfinished, some event is ready
pub record IsSoundState (s : State) : Type 0 where
  pub safe : IsSafe s.fleet
  pub ready : (e : Event) → In e s.fleet.plan → is_done s.fleet.finished e ≡ false → (f : Event) × IsReady (IsBehind s.fleet.site.groups) s.fleet.plan s.fleet.finished f

-- the entry at this state: a merge removes no allowed order, and a proposal is deferred exactly where no insertion of it is safe; the deferral names a cycle exactly where there is one through its robot
pub record IsSoundEntry (s : State) (entry : Entry) : Type 0 where
  pub allows : IsMerge entry.act → (order : List Event) → IsAllowed s.fleet order → IsAllowed (turn_at s entry).after.fleet order
  pub merges : (route : List CellNo) (first : EventNo) → entry.act ≡ Merged route first → CanInsert s entry.robot.0 route
  pub defers : (route : List CellNo) (cycle : List RobotNo) → entry.act ≡ Deferred route cycle → CanInsert s entry.robot.0 route → ⊥
  pub names : (route : List CellNo) (cycle : List RobotNo) → entry.act ≡ Deferred route cycle
      → (cycle ≢ []) ↔ ((others : List ℕ) × IsCycle (turn_at s entry).after (entry.robot.0 ∷ others))

-- the last deferral by a member, and that it names a cycle
pub record IsReported (members : List ℕ) (journal : List Entry) : Type 0 where
  pub before : List Entry
  pub robot : RobotNo
  pub route : List CellNo
  pub cycle : List RobotNo
  pub behind : List Entry
  pub splits : journal ≡ before ++ record { robot = robot; act = Deferred route cycle } ∷ behind
  pub member : In robot.0 members
  pub last : NoneDefers members behind
  pub named : cycle ≢ []

-- the act is none by which a member would get on: a merge or a new deferral
abbrev pub IsBound : Act → Type 0
IsBound act = (IsMerge act → ⊥) × (IsDeferral act → ⊥)

-- after a journal from an opening state: each cycle of deferrals was named by the last deferral of a member, or it stood at the opening and no member has deferred since; and a cycle that a deferral named, and whose members made no change since, stands, and its members got no further
pub record AreCyclesSound (opening : State) (journal : List Entry) : Type 0 where
  pub reported : (members : List ℕ) → IsCycle (state_after opening journal) members → (IsCycle opening members × NoneDefers members journal) ⊎ IsReported members journal
  pub binding : (before behind : List Entry) (robot : RobotNo) (route : List CellNo) (cycle : List RobotNo) → journal ≡ before ++ record { robot = robot; act = Deferred route cycle } ∷ behind
      → cycle ≢ [] → IsTrueTo (numbers_of cycle) behind
      → IsCycle (state_after opening journal) (numbers_of cycle) × ((entry : Entry) → In entry behind → In entry.robot.0 (numbers_of cycle) → IsBound entry.act)

-- a journal from an opening state is sound: this holds at each of its places
pub record IsSoundJournal (opening : State) (journal : List Entry) : Type 0 where
  pub states : (before behind : List Entry) → journal ≡ before ++ behind → IsSoundState (state_after opening before)
  pub entries : (before : List Entry) (entry : Entry) (behind : List Entry) → journal ≡ before ++ entry ∷ behind → IsSoundEntry (state_after opening before) entry
  pub cycles : (before behind : List Entry) → journal ≡ before ++ behind → AreCyclesSound opening before
