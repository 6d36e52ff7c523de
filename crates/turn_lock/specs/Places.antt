-- How seats and locks are kept, and what single steps ask of a seat.
use Rattle.std.specs.Prelude.{◌≡◌, ℕ, ◌++◌, ◌<◌, ◌^◌, Option, Some, None, List, [], ◌∷◌, length}
use Rattle.atomic_table.specs.Table.{Me}
use Rattle.turn_lock.specs.declared.view.View.{View}
use Rattle.turn_lock.specs.declared.view.Stage.{Stage}
use Rattle.turn_lock.specs.declared.view.Stage.TheVariants.{Free, Waits, Has, Spent}
use Rattle.atomic_table.specs.Seated.{TableId}
use Rattle.turn_lock.specs.Locks as lock

module _ {T : Type 0} where
  -- the value that the seat took and hasn't given back
  abbrev pub taken_of : Stage T → Option T
  taken_of Free = None
  taken_of Waits = None
  taken_of (Has x) = Some x
  taken_of Spent = None

  -- between two calls a seat has no ticket and no slot, or it has the turn and the slot, from which it took the value
  abbrev pub Rests : Stage T → List (ℕ × Option T) → Type 0
  Rests Free slots = slots ≡ []
  Rests Waits slots = ⊥
  Rests (Has x) slots = slots ≡ (0, None) ∷ []
  Rests Spent slots = ⊥

-- what callers see of a seat of this table with this view and these slots
abbrev pub seat_of : {T E : Type 0} → TableId → Me (Option T) (View T E) → lock.Seat T E
seat_of id me = record {
  lock = id;
  opening = me.0.opening;
  number = me.0.number;
  made = me.0.made;
  turns = me.0.turns;
  taken = taken_of me.0.stage;
  seen = me.0.notes.seen;
  own = me.0.notes.own;
  joined = me.0.notes.joined;
}

module _ {T E F : Type 0} (history : T → List E) (maker : E → ℕ) (fixed : T → F) where
  -- the value in the slot has one entry of the seat more than the one that was taken
  abbrev pub Raises : Me (Option T) (View T E) → Type 0
  Raises m = (x y : T) × (e : E) × (m.0.stage ≡ Has x) × (m.1 ≡ (0, Some y) ∷ []) × (m.0.notes.seen ≡ history x) × (fixed y ≡ fixed x) × (history y ≡ history x ++ e ∷ []) × (maker e ≡ m.0.number) × (length (history y) < 2 ^ 64)

module _ {T E F : Type 0} (history : T → List E) (fixed : T → F) where
  -- the value in the slot has the history that the seat has made known
  abbrev pub Passes : Me (Option T) (View T E) → Type 0
  Passes m = (x y : T) × (m.0.stage ≡ Has x) × (m.1 ≡ (0, Some y) ∷ []) × (fixed y ≡ fixed x) × (history y ≡ history x)
