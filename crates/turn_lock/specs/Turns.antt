-- The rule of the lock, and what each kind of step tells.
-- Word 0 is the number of tickets drawn, word 1 the number of turns that have ended, both modulo 2 ^ 64, and word 2 the length of the one history. The slot has the value, or nothing while a seat has taken it out.
use Rattle.std.specs.Prelude.{◌≡◌, ◌≢◌, ℕ, suc, ◌+◌, ◌%◌, ◌^◌, ◌<◌, ◌≤◌, ◌⊎◌, Option, Some, None, List, [], ◌∷◌, ◌++◌, length, sum_by}
use mathlib.Core.Option.{some, none}
use mathlib.Core.Option as maybe
use mathlib.Core.List.{IsPrefix}
use lib.ListN.{get_elem?}
use Rattle.atomic_table.specs.Table.{State, Me, Step, rest}
use Rattle.turn_lock.specs.Locks.{Known, behind, entries_of}
use Rattle.turn_lock.specs.declared.view.View.{View}
use Rattle.turn_lock.specs.declared.view.Stage.{Stage}
use Rattle.turn_lock.specs.declared.view.Stage.TheVariants.{Free, Waits, Has, Spent}

module _ {T : Type 0} where
  -- 1 of a seat that has a ticket
  abbrev pub in_line : Stage T → ℕ
  in_line Free = 0
  in_line Waits = 1
  in_line (Has x) = 1
  in_line Spent = 0

  -- 1 of a seat that has the turn
  abbrev pub has_turn : Stage T → ℕ
  has_turn Free = 0
  has_turn Waits = 0
  has_turn (Has x) = 1
  has_turn Spent = 0

  -- 1 of a seat that was not joined into another
  abbrev pub alive : Stage T → ℕ
  alive Free = 1
  alive Waits = 1
  alive (Has x) = 1
  alive Spent = 0

-- Of a lock that was set up with o; log is the one history
module _ {T E F : Type 0} (history : T → List E) (maker : E → ℕ) (fixed : T → F) (o : T) where
  -- the seat k has the number k and the opening value of the lock, and the history agrees with what it knows
  abbrev pub Knows : List E → ℕ → View T E → Type 0
  Knows log k v = (v.number ≡ k) × (v.opening ≡ Some o) × IsPrefix v.notes.seen log × (entries_of maker k (behind (history o) log) ≡ v.notes.own)

  -- how the seat k stands: one that waits has a ticket from the one that is served on; one that has the turn has the ticket that is served, and keeps the history and the fixed part
  abbrev pub Stands : List E → ℕ → ℕ → ℕ → View T E → Stage T → Type 0
  Stands log served drawn k v Free = Knows log k v
  Stands log served drawn k v Waits = Knows log k v × ((served ≤ v.ticket) × (v.ticket < drawn))
  Stands log served drawn k v (Has x) = Knows log k v × ((v.ticket ≡ served) × (served < drawn) × (history x ≡ log) × (fixed x ≡ fixed o))
  Stands log served drawn k v Spent = Unit {0}

  -- the value is at home, and no seat has the turn
  abbrev pub AtHome : List E → List (maybe.Option (Option T)) → List (View T E) → Type 0
  AtHome log homes views = ((x : T) × (homes ≡ some (Some x) ∷ []) × (history x ≡ log) × (fixed x ≡ fixed o)) × ((k : ℕ) (v : View T E) → get_elem? views k ≡ some v → has_turn v.stage ≡ 0)

  -- a seat has the turn, and the slot with it
  abbrev pub Away : List (maybe.Option (Option T)) → List (View T E) → Type 0
  Away homes views = (homes ≡ none ∷ []) × ((k : ℕ) × (v : View T E) × (get_elem? views k ≡ some v) × (has_turn v.stage ≡ 1))

  -- what the first seat keeps of a seat that was joined: one of those that were made, and the history agrees with what it knew
  abbrev pub Kept : List E → ℕ → List (View T E) → Known E → Type 0
  Kept log made views g = ((0 < g.number) × (g.number ≤ made)) × IsPrefix g.seen log × (entries_of maker g.number (behind (history o) log) ≡ g.own) × ((w : View T E) → get_elem? views g.number ≡ some w → alive w.stage ≡ 0)

  -- the first seat knows how many were made, and keeps what each seat knew that was joined
  abbrev pub First : List E → ℕ → List (View T E) → View T E → Type 0
  First log made views v = (v.made ≡ made) × (alive v.stage ≡ 1) × (sum_by (λ (u : View T E). alive u.stage) views + length v.notes.joined ≡ suc made)
      × ((i : ℕ) (g : Known E) → get_elem? v.notes.joined i ≡ some g → Kept log made views g)

  -- the rule: the words are the tickets drawn, the turns ended and the length of the one history, which begins with the opening one; each ticket that is not served yet is that of one seat; each seat stands as it should; the value is at home, or a seat has it; and a number that was not made has no entry
  pub record Turns (s : State (Option T) (View T E)) : Type 0 where
    pub drawn : ℕ
    pub served : ℕ
    pub made : ℕ
    pub log : List E
    pub words : s.words ≡ drawn % 2 ^ 64 ∷ served % 2 ^ 64 ∷ length log ∷ []
    pub begins : IsPrefix (history o) log
    pub line : drawn ≡ served + sum_by (λ (u : View T E). in_line u.stage) s.views
    pub many : length s.views ≡ suc made
    pub few : made < 2 ^ 32
    pub seats : (k : ℕ) (v : View T E) → get_elem? s.views k ≡ some v → Stands log served drawn k v v.stage
    pub tickets : (j k : ℕ) (v w : View T E) → get_elem? s.views j ≡ some v → get_elem? s.views k ≡ some w → in_line v.stage ≡ 1 → in_line w.stage ≡ 1 → v.ticket ≡ w.ticket → j ≡ k
    pub slot : AtHome log s.homes s.views ⊎ Away s.homes s.views
    pub unmade : (n : ℕ) → made < n → entries_of maker n (behind (history o) log) ≡ []
    pub first : (v : View T E) → get_elem? s.views 0 ≡ some v → First log made s.views v

abbrev pub Seated : Type 0 → Type 0 → Type 0
Seated T E = Me (Option T) (View T E)

module _ {T E : Type 0} where
  -- the view of the first seat
  abbrev pub opened : T → List E → View T E
  opened o l = record { opening = Some o; number = 0; made = 0; turns = 0; ticket = 0; stage = Free; notes = record { marker = record {}; seen = l; own = []; joined = [] } }

  -- with this ticket
  abbrev pub waiting : View T E → ℕ → View T E
  waiting v t = record v { turns = v.turns + 1; ticket = t; stage = Waits }

  -- with the turn, at this value
  abbrev pub having : View T E → T → View T E
  having v x = record v { stage = Has x }

  -- with its turn ended
  abbrev pub free : View T E → View T E
  free v = record v { stage = Free }

  -- it has seen this history
  abbrev pub caught_up : View T E → List E → View T E
  caught_up v l = record v { notes = record v.notes { seen = l } }

  -- the history of y is now the one history, and what it has more is the seat's
  abbrev pub raising : View T E → T → List E → View T E
  raising v y l = record v { stage = Has y; notes = record v.notes { seen = l; own = v.notes.own ++ behind v.notes.seen l } }

  -- it has made one seat more
  abbrev pub parent : View T E → View T E
  parent v = record v { made = v.made + 1 }

  -- the seat that it made
  abbrev pub child : View T E → View T E
  child v = record { opening = v.opening; number = v.made + 1; made = 0; turns = 0; ticket = 0; stage = Free; notes = record { marker = record {}; seen = v.notes.seen; own = []; joined = [] } }

  -- it keeps what the other seat knew
  abbrev pub both : View T E → View T E → View T E
  both v w = record v { notes = record v.notes { joined = record { number = w.number; seen = w.notes.seen; own = w.notes.own } ∷ v.notes.joined } }

  -- what is left of a seat that was joined
  abbrev pub spent : View T E
  spent = record { opening = None; number = 0; made = 0; turns = 0; ticket = 0; stage = Spent; notes = record { marker = record {}; seen = []; own = []; joined = [] } }

  -- a draw: the number found is that of the seat's ticket
  abbrev pub drew : Step (Option T) → Seated T E → ℕ → Seated T E → Type 0
  drew st m n m' = (t : ℕ) × (t % 2 ^ 64 ≡ n) × (m' ≡ (waiting m.0 t, m.1))

  -- the slot is given back
  abbrev pub passed : Step (Option T) → Seated T E → ℕ → Seated T E → Type 0
  passed st m n m' = m' ≡ (free m.0, rest m.1)

module _ {T E F : Type 0} (history : T → List E) (maker : E → ℕ) (fixed : T → F) where
  -- what the value x that a turn gives has to do with what the seat knew
  abbrev pub Fits : View T E → T → Type 0
  Fits v x = IsPrefix v.notes.seen (history x) × ((o : T) → v.opening ≡ Some o → IsPrefix (history o) (history x) × (fixed x ≡ fixed o) × (entries_of maker v.number (behind (history o) (history x)) ≡ v.notes.own))

  -- a look: where the number found is the seat's ticket it has the turn and the slot, else nothing changed
  abbrev pub looked : Step (Option T) → Seated T E → ℕ → Seated T E → Type 0
  looked st m n m' = (n ≡ m.0.ticket % 2 ^ 64 → (x : T) × (m' ≡ (having m.0 x, (0, Some x) ∷ m.1)) × Fits m.0 x) × (n ≢ m.0.ticket % 2 ^ 64 → m' ≡ m)

module _ {T E : Type 0} (history : T → List E) where
  -- the number found is the length of the history, which the seat has seen
  abbrev pub counted : Step (Option T) → Seated T E → ℕ → Seated T E → Type 0
  counted st m n m' = (x : T) × (m.0.stage ≡ Has x) × (n ≡ length (history x)) × (m' ≡ (caught_up m.0 (history x), m.1))

  -- the history of the value in the slot is the one history
  abbrev pub raised : Step (Option T) → Seated T E → ℕ → Seated T E → Type 0
  raised st m n m' = (y : T) × (m.1 ≡ (0, Some y) ∷ []) × (m' ≡ (raising m.0 y (history y), m.1))

module _ {T E F : Type 0} (history : T → List E) (maker : E → ℕ) (fixed : T → F) where
  -- the last value x has the opening value's fixed part; its history begins with the opening one, agrees with what the first seat v knows and with what each seat knew that it joined, and has no entry of a number that was not made
  abbrev pub Closes : T → View T E → T → Type 0
  Closes o v x = (fixed x ≡ fixed o) × IsPrefix (history o) (history x) × (IsPrefix v.notes.seen (history x) × (entries_of maker 0 (behind (history o) (history x)) ≡ v.notes.own))
      × ((i : ℕ) (g : Known E) → get_elem? v.notes.joined i ≡ some g → IsPrefix g.seen (history x) × (entries_of maker g.number (behind (history o) (history x)) ≡ g.own))
      × ((n : ℕ) → v.made < n → entries_of maker n (behind (history o) (history x)) ≡ [])
