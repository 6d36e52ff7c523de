-- What callers see of a lock and of its seats.
use Rattle.std.specs.Prelude.{◌≡◌, ℕ, ◌+◌, ◌==◌, ◌⊎◌, Option, Some, None, List, [], ◌∷◌, ◌++◌, length, drop, filter, refl}
use Rattle.std.specs.Coded.{Coded, code_by, coded×, coded_ℕ, coded_list, coded_option}
use mathlib.Core.List.{IsPrefix}
use Rattle.atomic_table.specs.Seated.{TableId, table_id_coded}

-- the entries of the maker n
abbrev pub entries_of : {E : Type 0} → (E → ℕ) → ℕ → List E → List E
entries_of maker n entries = filter (λ e. maker e == n) entries

-- the entries behind the opening ones
abbrev pub behind : {E : Type 0} → List E → List E → List E
behind opening entries = drop (length opening) entries

-- the history has gone on by nothing, or by one entry of the maker n
abbrev pub IsGrown : {E : Type 0} → (E → ℕ) → ℕ → List E → List E → Type 0
IsGrown {E} maker n before after = (after ≡ before) ⊎ ((e : E) × (maker e ≡ n) × (after ≡ before ++ e ∷ []))

-- what a seat knows of the history: its number, what it has seen, and its own entries behind the opening
pub record Known (E : Type 0) : Type 0 where
  pub number : ℕ
  pub seen : List E
  pub own : List E

-- it is stored as the tuple of its fields
abbrev pub known_code : {E : Type 0} → Coded E → Coded (Known E)
known_code {E} entry =
    code_by (ℕ × (List E × List E)) (coded× coded_ℕ (coded× (coded_list entry) (coded_list entry)))
    (λ k. (k.number, (k.seen, k.own))) (λ p. record { number = p.0; seen = p.1.0; own = p.1.1 }) (λ _. refl)

-- the history agrees with what a seat knows: it begins with what was seen, and its entries of the seat's number behind the opening are the seat's own
pub record Agrees {E : Type 0} (maker : E → ℕ) (opening history : List E) (known : Known E) : Type 0 where
  pub seen : IsPrefix known.seen history
  pub own : entries_of maker known.number (behind opening history) ≡ known.own

-- a lock: which one it is, and the value that it was set up with
pub record Lock (T : Type 0) : Type 0 where
  pub id : TableId
  pub opening : T

-- it is stored as the pair of its fields
abbrev pub lock_code : {T : Type 0} → Coded T → Coded (Lock T)
lock_code {T} value = code_by (TableId × T) (coded× table_id_coded value) (λ l. (l.id, l.opening)) (λ p. record { id = p.0; opening = p.1 }) (λ _. refl)

-- a seat: which lock it is of, and the value that this lock was set up with; its number, how many seats it has made, and how many turns; the value that it took and hasn't given back; what it has seen of the history, and its own entries behind the opening; and what each seat knew that it joined, the last first
pub record Seat (T E : Type 0) : Type 0 where
  pub lock : TableId
  pub opening : Option T
  pub number : ℕ
  pub made : ℕ
  pub turns : ℕ
  pub taken : Option T
  pub seen : List E
  pub own : List E
  pub joined : List (Known E)

-- it is stored as the tuple of its fields
abbrev pub seat_code : {T E : Type 0} → Coded T → Coded E → Coded (Seat T E)
seat_code {T} {E} value entry =
    code_by (TableId × (Option T × (ℕ × (ℕ × (ℕ × (Option T × (List E × (List E × List (Known E)))))))))
    (coded× table_id_coded (coded× (coded_option value) (coded× coded_ℕ (coded× coded_ℕ (coded× coded_ℕ (coded× (coded_option value) (coded× (coded_list entry) (coded× (coded_list entry) (coded_list (known_code entry))))))))))
    (λ s. (s.lock, (s.opening, (s.number, (s.made, (s.turns, (s.taken, (s.seen, (s.own, s.joined)))))))))
    (λ p. record { lock = p.0; opening = p.1.0; number = p.1.1.0; made = p.1.1.1.0; turns = p.1.1.1.1.0; taken = p.1.1.1.1.1.0; seen = p.1.1.1.1.1.1.0; own = p.1.1.1.1.1.1.1.0; joined = p.1.1.1.1.1.1.1.1 })
    (λ _. refl)

-- the seat is one of this lock
pub record IsOf {T E : Type 0} (lock : Lock T) (seat : Seat T E) : Type 0 where
  pub lock_is : seat.lock ≡ lock.id
  pub opening_is : seat.opening ≡ Some lock.opening

-- the first seat of a lock that was set up, by the opening history: it has made no seat and had no turn, and has seen that history
abbrev pub first_seat : {T E : Type 0} → Lock T → List E → Seat T E
first_seat lock history = record { lock = lock.id; opening = Some lock.opening; number = 0; made = 0; turns = 0; taken = None; seen = history; own = []; joined = [] }

-- the next seat that this one makes: it has seen what this one has, and had no turn
abbrev pub next_seat : {T E : Type 0} → Seat T E → Seat T E
next_seat seat = record { lock = seat.lock; opening = seat.opening; number = seat.made + 1; made = 0; turns = 0; taken = None; seen = seat.seen; own = []; joined = [] }

-- what the seat knows
abbrev pub known : {T E : Type 0} → Seat T E → Known E
known seat = record { number = seat.number; seen = seat.seen; own = seat.own }

-- the seat once it has taken this value
abbrev pub with_turn : {T E : Type 0} → Seat T E → T → Seat T E
with_turn seat value = record seat { turns = seat.turns + 1; taken = Some value }

-- the seat once it has given a value back: before is the history of the one that it took, and after that of the one that it gave
abbrev pub with_history : {T E : Type 0} → Seat T E → List E → List E → Seat T E
with_history seat before after = record seat { taken = None; seen = after; own = seat.own ++ behind before after }
