-- The first entry that differs, as a function and as a fact.
use Rattle.std.proofs.Common.{◌≡◌, ℕ, zero, suc, ◌+◌, ◌-◌, ◌≤◌, ◌<◌, ◌==◌, Bool, true, false, ◌&&◌, if◌then◌else◌, List, [], ◌∷◌, length, map, take, Option, Some, None, refl, sym, ap, subst, ◌∙◌, arith}
use Rattle.std.proofs.lemmas.Bool.{and_from, and_parts, both_ways, eqb-true, eq-eqb}
use Rattle.std.proofs.lemmas.List.{take-take}
use Rattle.std.proofs.lemmas.Slice.Eq.{bytes_eq-Decides}
use Rattle.fleet_base.specs.declared.entries.Act.{Act}
use Rattle.fleet_base.specs.declared.entries.Act.TheVariants.{Merged, Deferred, Retried, Canceled, Withdrawn, Replanned, Reported}
use Rattle.fleet_base.specs.declared.entries.Entry.{Entry}
use Rattle.fleet_base.specs.declared.numbers.CellNo.{CellNo}
use Rattle.fleet_base.specs.declared.numbers.EventNo.{EventNo}
use Rattle.fleet_base.specs.declared.numbers.RobotNo.{RobotNo}
use Rattle.fleet_model.specs.Journals.{IsJournal, turn_at}
use Rattle.fleet_model.specs.States.{State}
use Rattle.fleet_model.proofs.SameNumbers.{same_cell, same_number, same_cells as same_numbers}
use Rattle.fleet_model.specs.Journals.{IsJournal}
use Rattle.journal_replay.specs.Differing.{DiffersAt, differs_from, first_differing, is_entry, is_given, same_act, same_cells, same_robots}
use Rattle.journal_replay.specs.Taken.{IsGiven}

-- Entries that are the same.

robot_numbers : (v w : List RobotNo) → map (λ r. r.0) v ≡ map (λ r. r.0) w → v ≡ w
robot_numbers [] [] e = refl
robot_numbers [] (b ∷ bs) e = absurd (cc)
robot_numbers (a ∷ cs) [] e = absurd (cc)
robot_numbers (a ∷ cs) (b ∷ bs) e =
    let first : a.0 ≡ b.0 = cc in
    let rest : map (λ r. r.0) cs ≡ map (λ r. r.0) bs = cc in
    joined a b cs bs first (robot_numbers cs bs rest)
  where
    joined : (a b : RobotNo) (cs bs : List RobotNo) → a.0 ≡ b.0 → cs ≡ bs → a ∷ cs ≡ b ∷ bs
    joined a b cs bs first rest = let same : a ≡ b = λ i. record { 0 = first i } in ap (λ x. x ∷ cs) same ∙ ap (λ xs. b ∷ xs) rest

cells_are : (v w : List CellNo) → same_cells v w ≡ true → v ≡ w
cells_are v w is = same_numbers v w ((bytes_eq-Decides (map (λ c. c.0) v) (map (λ c. c.0) w)).0 is)

cells_same : (v : List CellNo) → same_cells v v ≡ true
cells_same v = (bytes_eq-Decides (map (λ c. c.0) v) (map (λ c. c.0) v)).1 refl

robots_are : (v w : List RobotNo) → same_robots v w ≡ true → v ≡ w
robots_are v w is = robot_numbers v w ((bytes_eq-Decides (map (λ r. r.0) v) (map (λ r. r.0) w)).0 is)

robots_same : (v : List RobotNo) → same_robots v v ≡ true
robots_same v = (bytes_eq-Decides (map (λ r. r.0) v) (map (λ r. r.0) v)).1 refl

-- a route and a number that are the same
routed_is : (make : List CellNo → EventNo → Act) (v w : List CellNo) (m n : EventNo) → (same_cells v w && m.0 == n.0) ≡ true → make v m ≡ make w n
routed_is make v w m n h =
    let parts = and_parts (same_cells v w) (m.0 == n.0) h in
    ap (λ r. make r m) (cells_are v w parts.0) ∙ ap (make w) (same_number m n (eqb-true m.0 n.0 parts.1))

routed_same : (v : List CellNo) (n : EventNo) → (same_cells v v && n.0 == n.0) ≡ true
routed_same v n = and_from (same_cells v v) (n.0 == n.0) (cells_same v) (eq-eqb n.0 n.0 refl)

act_is : (a b : Act) → same_act a b ≡ true → a ≡ b
act_is (Merged route first) (Merged route' first') h = routed_is Merged route route' first first' h
act_is (Deferred route cycle) (Deferred route' cycle') h =
    let parts = and_parts (same_cells route route') (same_robots cycle cycle') h in
    ap (λ r. Deferred r cycle) (cells_are route route' parts.0) ∙ ap (Deferred route') (robots_are cycle cycle' parts.1)
act_is (Retried first) (Retried first') h = ap Retried (same_number first first' (eqb-true first.0 first'.0 h))
act_is Canceled Canceled h = refl
act_is (Withdrawn removed end) (Withdrawn removed' end') h =
    let parts = and_parts (removed == removed') (end.0 == end'.0) h in
    ap (λ n. Withdrawn n end) (eqb-true removed removed' parts.0) ∙ ap (Withdrawn removed') (same_cell end end' (eqb-true end.0 end'.0 parts.1))
act_is (Replanned route first) (Replanned route' first') h = routed_is Replanned route route' first first' h
act_is (Reported event) (Reported event') h = ap Reported (same_number event event' (eqb-true event.0 event'.0 h))
act_is a b h = absurd (cc)

act_same : (a : Act) → same_act a a ≡ true
act_same (Merged route first) = routed_same route first
act_same (Deferred route cycle) = and_from (same_cells route route) (same_robots cycle cycle) (cells_same route) (robots_same cycle)
act_same (Retried first) = eq-eqb first.0 first.0 refl
act_same Canceled = refl
act_same (Withdrawn removed end) = and_from (removed == removed) (end.0 == end.0) (eq-eqb removed removed refl) (eq-eqb end.0 end.0 refl)
act_same (Replanned route first) = routed_same route first
act_same (Reported event) = eq-eqb event.0 event.0 refl

entry_is : (o : Option Entry) (entry : Entry) → is_entry o entry ≡ true → o ≡ Some entry
entry_is None entry h = absurd (cc)
entry_is (Some given) entry h =
    let parts = and_parts (given.robot.0 == entry.robot.0) (same_act given.act entry.act) h in
    let number = eqb-true given.robot.0 entry.robot.0 parts.0 in
    let robot : given.robot ≡ entry.robot = λ i. record { 0 = number i } in
    let act = act_is given.act entry.act parts.1 in
    ap (λ r. Some (record { robot = r; act = given.act })) robot ∙ ap (λ a. Some (record { robot = entry.robot; act = a })) act

entry_same : (entry : Entry) → is_entry (Some entry) entry ≡ true
entry_same entry = and_from (entry.robot.0 == entry.robot.0) (same_act entry.act entry.act) (eq-eqb entry.robot.0 entry.robot.0 refl) (act_same entry.act)

pub given_is : (s : State) (entry : Entry) → is_given s entry ≡ true → IsGiven s entry
given_is s entry h = entry_is (turn_at s entry).entry entry h

pub given_same : (s : State) (entry : Entry) → IsGiven s entry → is_given s entry ≡ true
given_same s entry g = ap (λ o. is_entry o entry) g ∙ entry_same entry

-- Entries one after the other.

-- the first entries of a legal journal are one
pub front_legal : (s : State) (n : ℕ) (entries : List Entry) → IsJournal s entries → IsJournal s (take n entries)
front_legal s zero entries is = tt
front_legal s (suc n) [] is = tt
front_legal s (suc n) (entry ∷ entries) is = (is.0, front_legal (turn_at s entry).after n entries is.1)

-- where no entry differs, the journal is legal
none_from : (n : ℕ) (s : State) (entries : List Entry) → differs_from n s entries ≡ None → IsJournal s entries
none_from n s [] is = tt
none_from n s (entry ∷ entries) is = by_given (is_given s entry) refl is (none_from (n + 1) (turn_at s entry).after entries)
  where
    by_given : (b : Bool) → is_given s entry ≡ b → (if b then differs_from (n + 1) (turn_at s entry).after entries else Some n) ≡ None → (differs_from (n + 1) (turn_at s entry).after entries ≡ None → IsJournal (turn_at s entry).after entries) → IsJournal s (entry ∷ entries)
    by_given true given none rest = (given_is s entry given, rest none)
    by_given false given none rest = absurd (cc)

pub none_differs : (s : State) (entries : List Entry) → first_differing s entries ≡ None → IsJournal s entries
none_differs s entries is = none_from 1 s entries is

-- and where it is, none differs
from_none : (n : ℕ) (s : State) (entries : List Entry) → IsJournal s entries → differs_from n s entries ≡ None
from_none n s [] is = refl
from_none n s (entry ∷ entries) is = rw (given_same s entry is.0) (from_none (n + 1) (turn_at s entry).after entries is.1)

pub legal_none : (s : State) (entries : List Entry) → IsJournal s entries → first_differing s entries ≡ None
legal_none s entries is = from_none 1 s entries is

-- the first that differs, counted from n, is behind so many others
record DiffersBehind (n : ℕ) (s : State) (entries : List Entry) (k : ℕ) : Type 0 where
  others : ℕ
  place : k ≡ n + others
  few : others + 1 ≤ length entries
  before : IsJournal s (take others entries)
  differs : IsJournal s (take (suc others) entries) → ⊥

differs_behind : (n : ℕ) (s : State) (entries : List Entry) (k : ℕ) → differs_from n s entries ≡ Some k → DiffersBehind n s entries k
differs_behind n s [] k is = absurd (cc)
differs_behind n s (entry ∷ entries) k is = by_given (is_given s entry) refl is (differs_behind (n + 1) (turn_at s entry).after entries k)
  where
    by_given : (b : Bool) → is_given s entry ≡ b → (if b then differs_from (n + 1) (turn_at s entry).after entries else Some n) ≡ Some k
        → (differs_from (n + 1) (turn_at s entry).after entries ≡ Some k → DiffersBehind (n + 1) (turn_at s entry).after entries k) → DiffersBehind n s (entry ∷ entries) k
    by_given true given there rest =
        let d = rest there in
        let place = d.place in
        let few = d.few in
        record {
          others = suc d.others;
          place = omega (arith, place);
          few = omega (arith, few);
          before = (given_is s entry given, d.before);
          differs = λ is. d.differs is.1;
        }
    by_given false given there rest =
        let same : n ≡ k = cc in
        record {
          others = zero;
          place = omega (arith, same);
          few = omega arith;
          before = tt;
          differs = λ is. both_ways (is_given s entry) given (given_same s entry is.0);
        }

pub first_differs : (s : State) (entries : List Entry) (n : ℕ) → first_differing s entries ≡ Some n → DiffersAt s entries n
first_differs s entries n is =
    let d = differs_behind 1 s entries n is in
    let place = d.place in
    let few = d.few in
    let before : n - 1 ≡ d.others = omega (arith, place) in
    let number : n ≡ suc d.others = omega (arith, place) in
    record {
      place = (omega (arith, place), omega (arith, place, few));
      before = subst (λ k. IsJournal s (take k entries)) (sym before) d.before;
      differs = λ is. d.differs (subst (λ k. IsJournal s (take k entries)) number is);
    }

-- so many first entries are a legal journal where more are
fewer : (s : State) (entries : List Entry) (m n : ℕ) → m ≤ n → IsJournal s (take n entries) → IsJournal s (take m entries)
fewer s entries m n le is = subst (IsJournal s) (take-take m n entries le) (front_legal s m (take n entries) is)

-- one entry alone is the first that differs
same_place : (s : State) (entries : List Entry) (m n : ℕ) → DiffersAt s entries m → DiffersAt s entries n → (m < n → ⊥)
same_place s entries m n one other less = one.differs (fewer s entries m (n - 1) (omega (arith, less)) other.before)

pub one_differs : (s : State) (entries : List Entry) (n : ℕ) → DiffersAt s entries n → first_differing s entries ≡ Some n
one_differs s entries n d = by_first (first_differing s entries) refl
  where
    by_first : (o : Option ℕ) → first_differing s entries ≡ o → o ≡ Some n
    by_first None is = absurd (d.differs (front_legal s n entries (none_differs s entries is)))
    by_first (Some k) is =
        let found = first_differs s entries k is in
        let below = same_place s entries k n found d in
        let above = same_place s entries n k d found in
        ap (λ x. Some x) (omega (arith, below, above))
