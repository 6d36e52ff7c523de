-- How shared fleets and passes are kept.
use Rattle.std.specs.Prelude.{◌≡◌, ◌⊎◌, ℕ, ◌+◌, ◌<◌, true, None, List, [], ◌∷◌, length}
use Rattle.std.specs.Option.{ForSome, option_map}
use mathlib.Core.List.{IsPrefix}
use Rattle.fleet_base.specs.declared.entries.Entry.{Entry}
use Rattle.fleet_model.specs.Journals.{IsJournal}
use Rattle.fleet_model.specs.States.{is_robot}
use Rattle.coordinator.specs.Books.{Book, opening_of, state_of}
use Rattle.turn_lock.specs.Locks.{Known, Lock, Seat, behind}
use Rattle.shared_fleet.specs.declared.kept.Kept.{Kept}
use Rattle.shared_fleet.specs.Tokens.{Shared, Token, of_robot, without_entries}

-- the lock's value
abbrev pub holding : Book → Kept
holding book = record { fleet = book }

-- what callers see of a shared fleet with this lock
abbrev pub shared_of : Lock Kept → ℕ → Shared
shared_of lock opened = record { lock = lock.id; opening = lock.opening.fleet; opened = opened }

-- what callers see of a pass with this seat
abbrev pub token_of : Seat Kept Entry → Token
token_of seat = record { lock = seat.lock; opening = option_map (λ k. k.fleet) seat.opening; robot = seat.number; turns = seat.turns; seen = seat.seen; mine = seat.own }

-- what a pass with this seat keeps, in a fleet that was set up with o: the robot is one of the fleet; what was seen begins with the opening journal, and behind it the robot's entries are the pass's own; and the first robot's pass made those of all the others
pub record Fits (o : Book) (seat : Seat Kept Entry) : Type 0 where
  pub robot : seat.number < length o.starts
  pub opens : IsPrefix o.journal seat.seen
  pub mine : of_robot seat.number (behind o.journal seat.seen) ≡ seat.own
  pub leads : seat.number ≡ 0 → seat.made + 1 ≡ length o.starts

-- between two calls: the seat has taken nothing and joined none, and fits its fleet
pub record Rests (seat : Seat Kept Entry) : Type 0 where
  pub idle : seat.taken ≡ None
  pub alone : seat.joined ≡ []
  pub fits : ForSome seat.opening (λ k. Fits k.fleet seat)

-- what a seat that rests finds, in its turn, in a fleet that was set up with o
pub record IsFound (o : Book) (seat : Seat Kept Entry) (book : Book) : Type 0 where
  pub same : without_entries book ≡ without_entries o
  pub legal : IsJournal (opening_of book) book.journal
  pub opens : IsPrefix o.journal book.journal
  pub begins : IsPrefix seat.seen book.journal
  pub mine : of_robot seat.number (behind o.journal book.journal) ≡ seat.own
  pub known : is_robot (state_of book) seat.number ≡ true

-- no entry, or one of this robot
abbrev pub IsOwn : ℕ → List Entry → Type 0
IsOwn robot added = (added ≡ []) ⊎ ((e : Entry) × (e.robot.0 ≡ robot) × (added ≡ e ∷ []))

-- what the first seat keeps of a pass
abbrev pub note : Token → Known Entry
note pass = record { number = pass.robot; seen = pass.seen; own = pass.mine }
