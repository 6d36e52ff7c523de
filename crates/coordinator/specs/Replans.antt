-- Replans, and the cells that other robots' ends shut.
use Rattle.std.specs.Prelude.{◌≡◌, ◌<◌, ℕ, ◌⊎◌, Bool, true, false, List, length, Some, Result, Ok, Err}
use Rattle.std.specs.List.{list_any}
use Rattle.std.specs.Option.{is_some}
use Rattle.fleet_base.specs.declared.answers.ReplanRefused.{ReplanRefused}
use Rattle.fleet_base.specs.declared.answers.ReplanRefused.TheVariants.{UnknownRobot, NoPending, AtGoal, NoDetour, Full, NoMemory}
use Rattle.fleet_base.specs.declared.numbers.CellNo.{CellNo}
use Rattle.fleet_base.specs.declared.numbers.Span.{Span}
use Rattle.fleet_model.specs.Sites.{Site, footprint_of}
use Rattle.fleet_model.specs.Plans.{end_of}
use Rattle.deferral.specs.Backlogs.{Backlog, is_kept_from}
use Rattle.fleet_model.specs.States.{State, pending_of}
use Rattle.fleet_model.specs.Calls.{detour_of}

-- the machine's answer comes behind the search for a detour, which takes memory
abbrev pub IsBehindSearch : Result Span ReplanRefused → Type 0
IsBehindSearch (Ok span) = Unit {0}
IsBehindSearch (Err UnknownRobot) = ⊥
IsBehindSearch (Err NoPending) = ⊥
IsBehindSearch (Err AtGoal) = ⊥
IsBehindSearch (Err NoDetour) = Unit {0}
IsBehindSearch (Err Full) = Unit {0}
IsBehindSearch (Err NoMemory) = ⊥

-- the answer is the machine's; want of memory may stand in the place of one that comes behind the search
abbrev pub IsReplanAnswer : Result Span ReplanRefused → Result Span ReplanRefused → Type 0
IsReplanAnswer answer due = (answer ≡ due) ⊎ ((answer ≡ Err NoMemory) × IsBehindSearch due)

-- robot r has a route pending and doesn't end in the goal, and this is its detour there
pub record IsDetour (s : State) (r : ℕ) (goal : CellNo → Bool) (route : List CellNo) : Type 0 where
  pub robot : r < length s.fleet.starts
  pub pending : is_some (pending_of s r) ≡ true
  pub away : goal (end_of s.fleet r) ≡ false
  pub found : detour_of s.fleet r goal ≡ Some route

-- the cell has a claim that the end of a robot other than r keeps
abbrev pub is_shut_in : Backlog → Site → ℕ → CellNo → Bool
is_shut_in b site r a = list_any (λ c. is_kept_from b r c.0) (footprint_of site a)
