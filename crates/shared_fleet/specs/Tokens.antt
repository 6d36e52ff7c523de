-- What callers see of a shared fleet, of its passes and of a book.
use Rattle.std.specs.Prelude.{◌≡◌, ℕ, Option, Some, List, [], length, map}
use Rattle.std.specs.List.{range_with_len}
use Rattle.std.specs.Prelude.{All}
use Rattle.atomic_table.specs.Seated.{TableId}
use Rattle.coordinator.specs.Books.{Book}
use Rattle.fleet_base.specs.declared.entries.Entry.{Entry}
use Rattle.turn_lock.specs.Locks.{entries_of}

-- a book: the coordinator, and how many entries its journal had when the book was opened
pub record Opened : Type 0 where
  pub fleet : Book
  pub opened : ℕ

-- a shared fleet: its lock, the coordinator that it was set up with, and how many entries that one's journal had when its book was opened
pub record Shared : Type 0 where
  pub lock : TableId
  pub opening : Book
  pub opened : ℕ

-- a pass: its lock, and the coordinator that this lock was set up with; its robot; how many turns it has had; what it has seen of the journal; and its own entries behind the opening ones
pub record Token : Type 0 where
  pub lock : TableId
  pub opening : Option Book
  pub robot : ℕ
  pub turns : ℕ
  pub seen : List Entry
  pub mine : List Entry

-- the entries of a robot
abbrev pub of_robot : ℕ → List Entry → List Entry
of_robot robot entries = entries_of (λ e. e.robot.0) robot entries

-- what no call changes: the site, the opening state and the cap
abbrev pub without_entries : Book → Book
without_entries book = record book { journal = [] }

-- the pass is one of this fleet
pub record IsOf (fleet : Shared) (pass : Token) : Type 0 where
  pub lock_is : pass.lock ≡ fleet.lock
  pub opening_is : pass.opening ≡ Some fleet.opening

-- the pass of a robot of a fleet that was set up: it has had no turn, has seen the opening journal, and has no entries of its own
abbrev pub fresh_pass : Shared → ℕ → Token
fresh_pass fleet robot = record { lock = fleet.lock; opening = Some fleet.opening; robot = robot; turns = 0; seen = fleet.opening.journal; mine = [] }

-- the passes of a fleet that was set up, one for each robot, in order
abbrev pub fresh_passes : Shared → List Token
fresh_passes fleet = map (fresh_pass fleet) (range_with_len 0 (length fleet.opening.starts))

-- the list has the pass of each robot of this fleet, in order
pub record ArePasses (fleet : Shared) (passes : List Token) : Type 0 where
  pub own : All (IsOf fleet) passes
  pub robots : map (λ p. p.robot) passes ≡ range_with_len 0 (length fleet.opening.starts)
