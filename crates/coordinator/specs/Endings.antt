-- What a report and a withdrawal find: the event that may be reported, and what may be removed, with the cell in which the robot then ends.
use Rattle.std.specs.Prelude.{◌≡◌, ℕ, ◌-◌, ◌<◌, List, length, map, take, Option, Some, None}
use Rattle.fleet_base.specs.declared.answers.Withdrawn.{Withdrawn}
use Rattle.fleet_base.specs.declared.numbers.CellNo.{CellNo}
use Rattle.fleet_base.specs.declared.numbers.Event.{Event}
use Rattle.fleet_base.specs.declared.numbers.EventNo.{EventNo}
use Rattle.fleet_base.specs.declared.numbers.Kind.{Kind}
use Rattle.fleet_base.specs.declared.numbers.Kind.TheVariants.{Acquire, Move, Release}
use Rattle.fleet_model.specs.Sites.{last_cell, moved_to}
use Rattle.fleet_model.specs.Plans.{Fleet, cell_of, own, removable_tail, unfinished}
use Rattle.fleet_model.specs.Calls.{next_event, waits_on}
use Rattle.coordinator.specs.Books.{Book, state_of}

-- the kinds of the first so many of these events
abbrev pub first_kinds : ℕ → List Event → List Kind
first_kinds n events = map (λ e. e.kind) (take n events)

-- the cell in which robot r would end without its last so many events
abbrev pub end_without : Fleet → ℕ → ℕ → CellNo
end_without m r count = last_cell (cell_of m r) (moved_to (first_kinds (length (own r (unfinished m)) - count) (own r (unfinished m))))

-- the cell that a kind moves to
abbrev pub kind_target : Kind → Option CellNo
kind_target (Acquire c) = None
kind_target (Move a b) = Some b
kind_target (Release c) = None

-- the cell that the event moves to, where there is an event and it is a move
abbrev pub target_of : Option Event → Option CellNo
target_of None = None
target_of (Some e) = kind_target e.kind

-- event e has the number n, is the robot's next one, and waits for no other
pub record IsReportable (book : Book) (r : ℕ) (n : EventNo) (e : Event) : Type 0 where
  pub known : r < length book.starts
  pub next : next_event (state_of book).fleet r ≡ Some e
  pub number : e.no ≡ n
  pub free : waits_on (state_of book).fleet e ≡ None

-- so many events are the robot's removable tail, at least one, and without them it ends in this cell
pub record IsRemoval (book : Book) (r : ℕ) (w : Withdrawn) : Type 0 where
  pub known : r < length book.starts
  pub some : 0 < w.removed
  pub tail : w.removed ≡ length (removable_tail (state_of book).fleet r)
  pub end : w.end ≡ end_without (state_of book).fleet r w.removed
