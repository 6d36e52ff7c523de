-- The first entry of a journal that the machine doesn't give.
use Rattle.std.specs.Prelude.{ℕ, ◌+◌, ◌-◌, ◌≤◌, ◌==◌, ◌&&◌, if◌then◌else◌, Bool, true, false, List, [], ◌∷◌, length, map, take, Option, Some, None}
use Rattle.std.specs.Str.{bytes_eq}
use Rattle.fleet_base.specs.declared.entries.Act.{Act}
use Rattle.fleet_base.specs.declared.entries.Act.TheVariants.{Merged, Deferred, Retried, Canceled, Withdrawn, Replanned, Reported}
use Rattle.fleet_base.specs.declared.entries.Entry.{Entry}
use Rattle.fleet_base.specs.declared.numbers.CellNo.{CellNo}
use Rattle.fleet_base.specs.declared.numbers.RobotNo.{RobotNo}
use Rattle.fleet_model.specs.Journals.{IsJournal, turn_at}
use Rattle.fleet_model.specs.States.{State}

-- the entries before this one, counted from 1, are a legal journal, and with it they aren't
pub record DiffersAt (s : State) (entries : List Entry) (n : ℕ) : Type 0 where
  pub place : (1 ≤ n) × (n ≤ length entries)
  pub before : IsJournal s (take (n - 1) entries)
  pub differs : IsJournal s (take n entries) → ⊥

-- The same as a function: entries are compared.

-- lists of cells, and of robots, that are the same
abbrev pub same_cells : List CellNo → List CellNo → Bool
same_cells xs ys = bytes_eq (map (λ c. c.0) xs) (map (λ c. c.0) ys)

abbrev pub same_robots : List RobotNo → List RobotNo → Bool
same_robots xs ys = bytes_eq (map (λ r. r.0) xs) (map (λ r. r.0) ys)

-- acts that are the same
abbrev pub same_act : Act → Act → Bool
same_act (Merged route first) (Merged route' first') = same_cells route route' && first.0 == first'.0
same_act (Deferred route cycle) (Deferred route' cycle') = same_cells route route' && same_robots cycle cycle'
same_act (Retried first) (Retried first') = first.0 == first'.0
same_act Canceled Canceled = true
same_act (Withdrawn removed end) (Withdrawn removed' end') = removed == removed' && end.0 == end'.0
same_act (Replanned route first) (Replanned route' first') = same_cells route route' && first.0 == first'.0
same_act (Reported event) (Reported event') = event.0 == event'.0
same_act one other = false

-- the entry that a call gives is this one
abbrev pub is_entry : Option Entry → Entry → Bool
is_entry None entry = false
is_entry (Some given) entry = given.robot.0 == entry.robot.0 && same_act given.act entry.act

-- the machine gives the entry at this state
abbrev pub is_given : State → Entry → Bool
is_given s entry = is_entry (turn_at s entry).entry entry

-- the first of these entries that isn't given, counted from n; None where each is
abbrev pub differs_from : ℕ → State → List Entry → Option ℕ
differs_from n s [] = None
differs_from n s (entry ∷ entries) = if is_given s entry then differs_from (n + 1) (turn_at s entry).after entries else Some n

abbrev pub first_differing : State → List Entry → Option ℕ
first_differing s entries = differs_from 1 s entries
