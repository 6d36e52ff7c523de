-- Every legal journal is sound.
use Rattle.std.proofs.Common.{◌≡◌, ◌≢◌, ℕ, true, false, ◌==◌, ◌&&◌, ◌⊎◌, inl, inr, refl, sym, ap, ◌∙◌, subst, List, [], ◌∷◌, ◌++◌, length, Some}
use Rattle.std.proofs.lemmas.Bool.{cases_Bool, both_ways, eqb-true, and_parts}
use Rattle.std.specs.List.{list_any}
use Rattle.fleet_base.specs.Lists.{robots_of, numbers_of}
use Rattle.fleet_base.specs.declared.entries.Act.{Act}
use Rattle.fleet_base.specs.declared.entries.Act.TheVariants.{Merged, Deferred, Canceled, Withdrawn, Reported}
use Rattle.fleet_base.specs.declared.entries.Entry.{Entry}
use Rattle.fleet_base.specs.declared.numbers.CellNo.{CellNo}
use Rattle.fleet_base.specs.declared.numbers.EventNo.{EventNo}
use Rattle.fleet_base.specs.declared.numbers.RobotNo.{RobotNo}
use Rattle.fleet_model.specs.Lists.{In}
use Rattle.fleet_model.specs.Sites.{IsSite}
use Rattle.fleet_model.specs.Plans.{IsAllowed}
use Rattle.fleet_model.specs.Cycles.{are_distinct, leads, is_cycle}
use Rattle.fleet_model.specs.States.{State, is_deferred_on, cycle_of}
use Rattle.fleet_model.specs.Calls.{deferring}
use Rattle.fleet_model.specs.Good.{IsGood}
use Rattle.fleet_model.specs.Journals.{turn_at, IsJournal, state_after}
use Rattle.fleet_model.specs.Sound.{IsCycle, IsMerge, IsDeferral, IsTrueTo, NoneDefers, IsSoundState, IsSoundEntry, IsBound, AreCyclesSound, IsSoundJournal}
use Rattle.fleet_model.proofs.Tests.{any_In}
use Rattle.fleet_model.proofs.Lists.{In_either}
use Rattle.fleet_model.proofs.Good.{good_safe, ready_event}
use Rattle.fleet_model.proofs.Merge.{allowed_still}
use Rattle.fleet_model.proofs.Insert.{blocked_unsafe}
use Rattle.fleet_model.proofs.LeastMerge.{unblocked_safe}
use Rattle.fleet_model.proofs.Distinct.{absent_out}
use Rattle.fleet_model.proofs.Rotations.{least_is_cycle, cycle_of_some, deferrals_turn}
use Rattle.fleet_model.proofs.Deferrals.{cycle_of_least}
use Rattle.fleet_model.proofs.GoodStates.{accepts_at, turn_good, journal_good}
use Rattle.fleet_model.proofs.Bindings.{cycle_binds, cycle_stood}
use Rattle.fleet_model.proofs.Changes.{Change, Grew, Kept, Dropped, Cut, Did, changed, CanChange, Accepts, Tells}
use Rattle.fleet_base.specs.RobotLists.{numbers_of-robots_of}

-- a good state is sound
pub sound_state : (s : State) → IsSite s.fleet.site → IsGood s → IsSoundState s
sound_state s is_site good = record {
  safe = good_safe s.fleet is_site good.plan;
  ready = λ e i u. ready_event s.fleet good.plan e i u;
}

-- a merge put a route into the plan
merge_grew : (s : State) (r : ℕ) (c : Change) (a : Act) → Tells s r c a → IsMerge a → (route : List CellNo) × (c ≡ Grew route)
merge_grew s r (Grew route) a t m = (route, refl)
merge_grew s r (Kept route) (Deferred cells cycle) t m = absurd m
merge_grew s r Dropped Canceled t m = absurd m
merge_grew s r Cut (Withdrawn removed end) t m = absurd m
merge_grew s r (Did e) (Reported event) t m = absurd m
merge_grew s r c a t m = absurd t

-- an entry Merged put its route into the plan
merged_grew : (s : State) (r : ℕ) (c : Change) (cells : List CellNo) (first : EventNo) → CanChange s r c → Tells s r c (Merged cells first) → CanChange s r (Grew cells)
merged_grew s r (Grew route) cells first can t = subst (λ x. CanChange s r (Grew x)) t.0 can
merged_grew s r c cells first can t = absurd t

-- an entry Deferred kept its route, and names the cycle in the state behind it
record IsKeptAs (s : State) (r : ℕ) (c : Change) (cells : List CellNo) (cycle : List RobotNo) : Type 0 where
  can : CanChange s r (Kept cells)
  is : c ≡ Kept cells
  names : cycle ≡ robots_of (cycle_of (deferring s r cells) r)

-- an entry Deferred kept its route as pending, and names the cycle through its robot
deferred_kept : (s : State) (r : ℕ) (c : Change) (cells : List CellNo) (cycle : List RobotNo) → CanChange s r c → Tells s r c (Deferred cells cycle) → IsKeptAs s r c cells cycle
deferred_kept s r (Kept route) cells cycle can t = record {
  can = subst (λ x. CanChange s r (Kept x)) t.0 can;
  is = ap (λ x. Kept x) t.0;
  names = t.1 ∙ ap (λ x. robots_of (cycle_of (deferring s r x) r)) t.0;
}
deferred_kept s r c cells cycle can t = absurd t

-- where some robots are listed, some numbers are
some_robots : (numbers : List ℕ) → robots_of numbers ≢ [] → numbers ≢ []
some_robots numbers n e = n (ap robots_of e)

-- where some numbers are listed, some robots are
some_numbers : (numbers : List ℕ) → numbers ≢ [] → robots_of numbers ≢ []
some_numbers [] n e = n refl
some_numbers (x ∷ xs) n e = cc

-- the cycle through a robot is a cycle
cycle_of_stands : (s : State) (r : ℕ) → length s.pending ≡ length s.fleet.starts → cycle_of s r ≢ [] → IsCycle s (cycle_of s r)
cycle_of_stands s r places some = at (cycle_of s r) (least_is_cycle (is_deferred_on s) r (cycle_of s r) (cycle_of_least s r places) some)
  where
    -- the state in front of it
    at : (xs : List ℕ) → is_cycle (is_deferred_on s) r xs ≡ true → IsCycle s xs
    at [] h = absurd (both_ways false refl h)
    at (x ∷ xs) h = let same : x ≡ r = eqb-true x r (and_parts (x == r) (are_distinct (x ∷ xs) && leads (is_deferred_on s) r (x ∷ xs)) h).0 in subst (λ y. is_cycle (is_deferred_on s) y (x ∷ xs) ≡ true) (sym same) h

module _ (s : State) (entry : Entry) (is_site : IsSite s.fleet.site) (good : IsGood s) (told : (turn_at s entry).entry ≡ Some entry) where
  -- the robot of the entry
  abbrev robot : ℕ
  robot = entry.robot.0

  -- what the call of the entry did
  known : Accepts s entry.robot.0 entry (turn_at s entry).after
  known = accepts_at s entry is_site good told

  -- what the entry tells, where its act is known
  tells_as : (a : Act) → entry.act ≡ a → Tells s entry.robot.0 known.change a
  unfolding known
  tells_as a e = subst (λ x. Tells s entry.robot.0 known.change x) e known.tells

  -- what an entry Deferred tells
  kept_as : (route : List CellNo) (cycle : List RobotNo) → entry.act ≡ Deferred route cycle → IsKeptAs s entry.robot.0 known.change route cycle
  kept_as route cycle e = deferred_kept s entry.robot.0 known.change route cycle known.can (tells_as (Deferred route cycle) e)

  -- behind a deferral stands the cycle through its robot
  pub names_cycle : (route : List CellNo) (cycle : List RobotNo) → entry.act ≡ Deferred route cycle → cycle ≡ robots_of (cycle_of (turn_at s entry).after entry.robot.0)
  names_cycle route cycle e =
      let k = kept_as route cycle e in
      k.names ∙ ap (λ n. robots_of (cycle_of n entry.robot.0)) (sym (known.after_is ∙ ap (λ c. record (changed s entry.robot.0 c) { base = known.base }) k.is))

  -- behind the entry each robot has its place for a pending route
  places_after : length (turn_at s entry).after.pending ≡ length (turn_at s entry).after.fleet.starts
  places_after = (turn_good s entry is_site good told).0.places

  -- an entry of a legal journal is sound at its state
  pub sound_entry : IsSoundEntry s entry
  sound_entry = record {
    allows = λ m order allowed.
        let g = merge_grew s entry.robot.0 known.change entry.act known.tells m in
        subst (λ n. IsAllowed n order) (ap (λ n. n.fleet) (sym (known.after_is ∙ ap (λ c. record (changed s entry.robot.0 c) { base = known.base }) g.1))) (allowed_still s.fleet entry.robot.0 g.0 order good.plan allowed);
    merges = λ route first e.
        let can = merged_grew s entry.robot.0 known.change route first known.can (tells_as (Merged route first) e) in
        unblocked_safe s.fleet entry.robot.0 route is_site good.plan can.0.0 can.0.1 can.1 can.2;
    defers = λ route cycle e insert.
        let can = (kept_as route cycle e).can in
        blocked_unsafe s.fleet entry.robot.0 route is_site good.plan insert.0 insert.1 can.2.0 can.2.1 can.2.2 insert.2;
    names = λ route cycle e.
        let is = names_cycle route cycle e in
        let some = cycle_of_some (turn_at s entry).after entry.robot.0 places_after in (
          λ n. some.0 (some_robots (cycle_of (turn_at s entry).after entry.robot.0) (λ z. n (is ∙ z))),
          λ c z. some_numbers (cycle_of (turn_at s entry).after entry.robot.0) (some.1 c) (sym is ∙ z),
        );
  }

pub state_after-append : (s : State) (before behind : List Entry) → state_after s (before ++ behind) ≡ state_after (state_after s before) behind
state_after-append s [] behind = refl
state_after-append s (x ∷ xs) behind = state_after-append (turn_at s x).after xs behind

-- a journal's parts are journals, each from the state that it begins at
pub journal_parts : (s : State) (before behind : List Entry) → IsJournal s (before ++ behind) → IsJournal s before × IsJournal (state_after s before) behind
journal_parts s [] behind h = (tt, h)
journal_parts s (x ∷ xs) behind h = let p = journal_parts (turn_at s x).after xs behind h.1 in ((h.0, p.0), p.1)

-- the last deferral of a member, or none
record LastDeferral (members : List ℕ) (journal : List Entry) : Type 0 where
  before : List Entry
  robot : RobotNo
  route : List CellNo
  cycle : List RobotNo
  behind : List Entry
  splits : journal ≡ before ++ record { robot = robot; act = Deferred route cycle } ∷ behind
  member : In robot.0 members
  last : NoneDefers members behind

-- where one more entry is no deferral of a member, none of the entries is one
none_more : (members : List ℕ) (entry : Entry) (entries : List Entry) → (In entry.robot.0 members → IsDeferral entry.act → ⊥) → NoneDefers members entries → NoneDefers members (entry ∷ entries)
none_more members entry entries first rest other i m d =
    In_either i (λ e. first (subst (λ (x : Entry). In x.robot.0 members) e m) (subst (λ (x : Entry). IsDeferral x.act) e d)) (λ j. rest other j m d)

-- in front of entries that have no deferral of a member, one more entry is the last such or none is
last_first : (members : List ℕ) (robot : RobotNo) (act : Act) (entries : List Entry) → NoneDefers members entries → (list_any (λ q. q == robot.0) members ≡ true) ⊎ (list_any (λ q. q == robot.0) members ≡ false)
    → NoneDefers members (record { robot = robot; act = act } ∷ entries) ⊎ LastDeferral members (record { robot = robot; act = act } ∷ entries)
last_first members robot (Deferred route cycle) entries none (inl t) =
    let m = any_In (λ q. q == robot.0) members t in
    inr (record { before = []; robot = robot; route = route; cycle = cycle; behind = entries; splits = refl; member = subst (λ x. In x members) (eqb-true m.0 robot.0 m.2) m.1; last = none })
last_first members robot act entries none (inr f) = inl (none_more members (record { robot = robot; act = act }) entries (λ m d. absent_out robot.0 members f m) none)
last_first members robot act entries none t = inl (none_more members (record { robot = robot; act = act }) entries (λ m d. d) none)

-- a journal has a last deferral of a member, or none
last_deferral : (members : List ℕ) (journal : List Entry) → NoneDefers members journal ⊎ LastDeferral members journal
last_deferral members [] = inl (λ entry i. elim i [ ])
last_deferral members (entry ∷ entries) =
    elim (last_deferral members entries) [
      | inl none ↦ last_first members entry.robot entry.act entries none (cases_Bool (list_any (λ q. q == entry.robot.0) members))
      | inr d ↦ inr (record { before = entry ∷ d.before; robot = d.robot; route = d.route; cycle = d.cycle; behind = d.behind; splits = ap (λ es. entry ∷ es) d.splits; member = d.member; last = d.last })
    ]

-- the state in front of a deferral, and the cycle that stands behind it
module _ (opening : State) (is_site : IsSite opening.fleet.site) (good : IsGood opening) (before : List Entry) (robot : RobotNo) (route : List CellNo) (cycle : List RobotNo) (behind : List Entry)
    (legal : IsJournal opening (before ++ record { robot = robot; act = Deferred route cycle } ∷ behind)) where
  -- the entry of the deferral
  abbrev deferral : Entry
  deferral = record { robot = robot; act = Deferred route cycle }

  -- the state in front of it
  abbrev at : State
  at = state_after opening before

  -- the state behind it
  abbrev later : State
  later = (turn_at at deferral).after

  -- the parts of the journal are journals
  parts : IsJournal opening before × IsJournal at (deferral ∷ behind)
  parts = journal_parts opening before (deferral ∷ behind) legal

  -- the state in front of it is good
  good_at : IsGood at × IsSite at.fleet.site
  good_at = journal_good opening before is_site good parts.0

  -- the state behind it is good
  good_later : IsGood later × IsSite later.fleet.site
  good_later = turn_good at deferral good_at.1 good_at.0 parts.1.0

  names_later : cycle ≡ robots_of (cycle_of later robot.0)
  names_later = names_cycle at deferral good_at.1 good_at.0 parts.1.0 route cycle refl

  reaches : state_after opening (before ++ deferral ∷ behind) ≡ state_after later behind
  reaches = state_after-append opening before (deferral ∷ behind)

  -- a cycle that stands at the end, and that no member has deferred in since, was named by the deferral of its member
  pub named : (members : List ℕ) → IsCycle (state_after opening (before ++ deferral ∷ behind)) members → In robot.0 members → NoneDefers members behind → cycle ≢ []
  named members stands member none empty =
      let stood : IsCycle later members = cycle_stood later members behind good_later.1 good_later.0 parts.1.1 (subst (λ n. IsCycle n members) reaches stands) none in
      let turned = deferrals_turn later members robot.0 stood member in
      some_numbers (cycle_of later robot.0) ((cycle_of_some later robot.0 good_later.0.places).1 (turned.0, turned.1)) (sym names_later ∙ empty)

  -- the cycle that the deferral names stands behind it
  stands_later : cycle ≢ [] → IsCycle later (numbers_of cycle)
  stands_later some =
      let is : numbers_of cycle ≡ cycle_of later robot.0 = ap numbers_of names_later ∙ numbers_of-robots_of (cycle_of later robot.0) in
      subst (λ xs. IsCycle later xs) (sym is) (cycle_of_stands later robot.0 good_later.0.places (some_robots (cycle_of later robot.0) (λ e. some (names_later ∙ e))))

  -- a cycle that a deferral names binds until a member changes
  pub binds : cycle ≢ [] → IsTrueTo (numbers_of cycle) behind
      → IsCycle (state_after opening (before ++ deferral ∷ behind)) (numbers_of cycle) × ((entry : Entry) → In entry behind → In entry.robot.0 (numbers_of cycle) → (n : EventNo) × (entry.act ≡ Reported n))
  binds some true_to =
      let b = cycle_binds later (numbers_of cycle) behind good_later.1 good_later.0 (stands_later some) parts.1.1 true_to in
      (subst (λ n. IsCycle n (numbers_of cycle)) (sym reaches) b.0, b.1)

-- a report is no way on
reports_are_bound : (act : Act) (n : EventNo) → act ≡ Reported n → IsBound act
reports_are_bound act n e = subst IsBound (sym e) (λ m. m, λ d. d)

-- after a legal journal, cycles of deferrals were reported, and bind
pub cycles_sound : (opening : State) → IsSite opening.fleet.site → IsGood opening → (journal : List Entry) → IsJournal opening journal → AreCyclesSound opening journal
cycles_sound opening is_site good journal legal = record {
  reported = λ members stands. elim (last_deferral members journal) [
    | inl none ↦ inl (cycle_stood opening members journal is_site good legal stands none, none)
    | inr d ↦ inr (record {
      before = d.before;
      robot = d.robot;
      route = d.route;
      cycle = d.cycle;
      behind = d.behind;
      splits = d.splits;
      member = d.member;
      last = d.last;
      named = named opening is_site good d.before d.robot d.route d.cycle d.behind (subst (λ j. IsJournal opening j) d.splits legal) members (subst (λ j. IsCycle (state_after opening j) members) d.splits stands) d.member d.last;
    })
  ];
  binding = λ before behind robot route cycle splits some true_to.
      let b = binds opening is_site good before robot route cycle behind (subst (λ j. IsJournal opening j) splits legal) some true_to in (
        subst (λ j. IsCycle (state_after opening j) (numbers_of cycle)) (sym splits) b.0,
        λ entry i m. let r = b.1 entry i m in reports_are_bound entry.act r.0 r.1,
      );
}

-- a legal journal from a good state is sound
pub journal_sound : (opening : State) → IsSite opening.fleet.site → IsGood opening → (journal : List Entry) → IsJournal opening journal → IsSoundJournal opening journal
journal_sound opening is_site good journal legal = record {
  states = λ before behind splits.
      let g = journal_good opening before is_site good (journal_parts opening before behind (subst (λ j. IsJournal opening j) splits legal)).0 in
      sound_state (state_after opening before) g.1 g.0;
  entries = λ before entry behind splits.
      let p = journal_parts opening before (entry ∷ behind) (subst (λ j. IsJournal opening j) splits legal) in
      let g = journal_good opening before is_site good p.0 in
      sound_entry (state_after opening before) entry g.1 g.0 p.1.0;
  cycles = λ before behind splits. cycles_sound opening is_site good before (journal_parts opening before behind (subst (λ j. IsJournal opening j) splits legal)).0;
}
