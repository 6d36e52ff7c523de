-- The entries of a legal journal can be printed.
use Rattle.std.proofs.Common.{◌≡◌, ℕ, ◌+◌, ◌<◌, ◌≤◌, List, [], ◌∷◌, length, Option, Some, None, refl, sym, ap, subst, ◌∙◌, arith, ltb-true}
use Rattle.std.specs.Prelude.{not, slice_get}
use Rattle.std.specs.List.{AllByRecursion}
use Rattle.std.proofs.lemmas.Bool.{not-false}
use Rattle.std.proofs.lemmas.List.{length-map, length-set}
use Rattle.fleet_base.specs.Lists.{robots_of}
use Rattle.fleet_base.specs.declared.answers.Block.{Block}
use Rattle.fleet_base.specs.declared.answers.CancelRefused.TheVariants as cancel_refused
use Rattle.fleet_base.specs.declared.answers.ProposeRefused.TheVariants as propose_refused
use Rattle.fleet_base.specs.declared.answers.ReplanRefused.TheVariants as replan_refused
use Rattle.fleet_base.specs.declared.answers.ReportRefused.TheVariants as report_refused
use Rattle.fleet_base.specs.declared.answers.RetryRefused.TheVariants as retry_refused
use Rattle.fleet_base.specs.declared.answers.WithdrawRefused.TheVariants as withdraw_refused
use Rattle.fleet_base.specs.declared.entries.Act.{Act}
use Rattle.fleet_base.specs.declared.entries.Act.TheVariants.{Merged, Deferred, Retried, Canceled, Withdrawn, Replanned, Reported}
use Rattle.fleet_base.specs.declared.entries.Entry.{Entry}
use Rattle.fleet_base.specs.declared.numbers.CellNo.{CellNo}
use Rattle.fleet_base.specs.declared.numbers.Event.{Event}
use Rattle.fleet_base.specs.declared.numbers.EventNo.{EventNo}
use Rattle.fleet_base.specs.declared.numbers.RobotNo.{RobotNo}
use Rattle.fleet_model.specs.Calls.{accepted, cancel_refusals, deferring, first_of, in_segment, merge_growth, moved, next_event, propose, propose_outcome, propose_refusals, replan, report_refusals, reported, retry, retry_refusals, span_of, turn, with_route, withdraw, withdraw_refusals}
use Rattle.fleet_model.specs.Cycles.{IsLeastCycle}
use Rattle.fleet_model.specs.Good.{IsGood}
use Rattle.fleet_model.specs.Journals.{IsJournal, call_of, last_of, turn_at}
use Rattle.fleet_model.specs.Lists.{In, has_cell, here, there, when}
use Rattle.fleet_model.specs.Plans.{IsRoute, end_of, removable_tail, withdrawn}
use Rattle.fleet_model.specs.Sites.{IsSite, IsWalk, IsWalkFrom, Site, cell_count}
use Rattle.fleet_model.specs.States.{State, block_of, cycle_of, is_deferred_on, is_robot, pending_route}
use Rattle.fleet_model.proofs.Accepted.{nothing, replanned, start_of, told, unless_accepted}
use Rattle.fleet_model.proofs.Changes.{CanChange, Change, Cut, Did, Dropped, Grew, Kept, Tells, changed_cap, changed_site, changed_starts}
use Rattle.fleet_model.proofs.Cycles.{cycle_distinct, cycle_next}
use Rattle.fleet_model.proofs.Deferrals.{cycle_of_least, deferred_below, deferred_true}
use Rattle.fleet_model.proofs.Distinct.{distinct_length}
use Rattle.fleet_model.proofs.GoodStates.{accepts_at, turn_good}
use Rattle.fleet_model.proofs.Options.{when_none}
use Rattle.fleet_model.proofs.Room.{length-withdrawn}
use Rattle.fleet_model.proofs.Shortcuts.{link_within}
use Rattle.fleet_model.proofs.Withdraw.{withdrawn_good}
use Rattle.fleet_names.specs.Names.{AreDeclared, Named, count_of}
use Rattle.fleet_names.specs.Things as things
use Rattle.coordinator.proofs.EndCells.{end_known}
use Rattle.plan_journal.specs.Printable.{IsCell, IsPrintable, IsPrintableAct, IsRobot}
use Rattle.fleet_replay.proofs.ShortLines.{IsSmall, line_short}

-- A call that adds an entry is one of a known robot.
known : {E : Type 0} (s : State) (r : ℕ) (unknown : E) → when (not (is_robot s r)) unknown ≡ None → r < length s.fleet.starts
known s r unknown none = ltb-true r (length s.fleet.starts) (not-false (is_robot s r) (when_none (not (is_robot s r)) unknown none))

module _ (s : State) (r : ℕ) (entry : Entry) where
  proposal_known : (cells : List CellNo) → (propose s r cells).entry ≡ Some entry → r < length s.fleet.starts
  proposal_known cells h =
      let block = block_of (deferring s r cells) r cells in
      known s r propose_refused.UnknownRobot (unless_accepted (propose_refusals s r cells block) s (propose_outcome s r cells block) entry h).none.0

  robot_known : (act : Act) → (turn s r (call_of act)).entry ≡ Some entry → r < length s.fleet.starts
  robot_known (Merged route first) h = proposal_known route h
  robot_known (Deferred route cycle) h = proposal_known route h
  robot_known (Retried first) h =
      let route = pending_route s r in
      known s r retry_refused.UnknownRobot
      (unless_accepted (retry_refusals s r route) s (accepted (span_of s route) r (Retried (first_of s)) (in_segment s (merge_growth s route) (with_route s r route))) entry h).none.0
  robot_known Canceled h = known s r cancel_refused.UnknownRobot (unless_accepted (cancel_refusals s r) s (accepted nothing r Canceled (moved s s.fleet r None)) entry h).none.0
  robot_known (Withdrawn removed end) h =
      let tail = removable_tail s.fleet r in
      let fleet = withdrawn s.fleet tail in
      known s r withdraw_refused.UnknownRobot
      (unless_accepted (withdraw_refusals s r tail) s (accepted (record { removed = length tail; end = end_of fleet r }) r (Withdrawn (length tail) (end_of fleet r)) (moved s fleet r None)) entry h).none.0
  robot_known (Replanned route first) h = known s r replan_refused.UnknownRobot (replanned s r (has_cell (last_of route)) entry h).none.0
  robot_known (Reported event) h =
      let next = next_event s.fleet r in
      known s r report_refused.UnknownRobot
      (unless_accepted (report_refusals s r event next) s (accepted nothing r (Reported event) (record s { fleet = reported s.fleet next; count = s.count + 1 })) entry h).none.0

  -- The number of a merge is the next one.
  merged_first : (route : List CellNo) (first : EventNo) → entry.act ≡ Merged route first → (propose s r route).entry ≡ Some entry → first ≡ first_of s
  merged_first route first is h = by_block block (unless_accepted (propose_refusals s r route block) s (propose_outcome s r route block) entry h).told
    where
      block : Option Block
      block = block_of (deferring s r route) r route

      by_block : (o : Option Block) → (propose_outcome s r route o).entry ≡ Some entry → first ≡ first_of s
      by_block None g = (let both = sym is ∙ (told r (Merged route (first_of s)) entry g).1 in cc)
      by_block (Some b) g = absurd (let both = sym is ∙ (told r (Deferred route b.cycle) entry g).1 in cc)

  retried_first : (first : EventNo) → entry.act ≡ Retried first → (retry s r).entry ≡ Some entry → first ≡ first_of s
  retried_first first is h =
      let route = pending_route s r in
      let made = unless_accepted (retry_refusals s r route) s (accepted (span_of s route) r (Retried (first_of s)) (in_segment s (merge_growth s route) (with_route s r route))) entry h in
      (let both = sym is ∙ (told r (Retried (first_of s)) entry made.told).1 in cc)

  replanned_first : (route : List CellNo) (first : EventNo) → entry.act ≡ Replanned route first → (replan s r (has_cell (last_of route))).entry ≡ Some entry → first ≡ first_of s
  replanned_first route first is h = (let both = sym is ∙ (replanned s r (has_cell (last_of route)) entry h).act in cc)

  -- A withdrawal tells how many events it took, and the new end.
  withdrawn_is : (removed : ℕ) (end : CellNo) → entry.act ≡ Withdrawn removed end → (withdraw s r).entry ≡ Some entry → (removed ≡ length (removable_tail s.fleet r)) × (end ≡ end_of (withdrawn s.fleet (removable_tail s.fleet r)) r)
  withdrawn_is removed end is h =
      let tail = removable_tail s.fleet r in
      let fleet = withdrawn s.fleet tail in
      let made = unless_accepted (withdraw_refusals s r tail) s (accepted (record { removed = length tail; end = end_of fleet r }) r (Withdrawn (length tail) (end_of fleet r)) (moved s fleet r None)) entry h in
      let both = sym is ∙ (told r (Withdrawn (length tail) (end_of fleet r)) entry made.told).1 in
      (let one : removed ≡ length tail = cc in one, let other : end ≡ end_of fleet r = cc in other)

-- The route of an entry is legal.
merged_route : (s : State) (r : ℕ) (c : Change) (route : List CellNo) (first : EventNo) → CanChange s r c → Tells s r c (Merged route first) → IsRoute s.fleet r route
merged_route s r (Grew x) route first can tells = subst (IsRoute s.fleet r) tells.0 can.1
merged_route s r (Kept x) route first can tells = absurd tells
merged_route s r Dropped route first can tells = absurd tells
merged_route s r Cut route first can tells = absurd tells
merged_route s r (Did e) route first can tells = absurd tells

replanned_route : (s : State) (r : ℕ) (c : Change) (route : List CellNo) (first : EventNo) → CanChange s r c → Tells s r c (Replanned route first) → IsRoute s.fleet r route
replanned_route s r (Grew x) route first can tells = subst (IsRoute s.fleet r) tells.0 can.1
replanned_route s r (Kept x) route first can tells = absurd tells
replanned_route s r Dropped route first can tells = absurd tells
replanned_route s r Cut route first can tells = absurd tells
replanned_route s r (Did e) route first can tells = absurd tells

deferred_route : (s : State) (r : ℕ) (c : Change) (route : List CellNo) (cycle : List RobotNo) → CanChange s r c → Tells s r c (Deferred route cycle) → IsRoute s.fleet r route × (cycle ≡ robots_of (cycle_of (deferring s r route) r))
deferred_route s r (Grew x) route cycle can tells = absurd tells
deferred_route s r (Kept x) route cycle can tells = (subst (IsRoute s.fleet r) tells.0 can.1, tells.1 ∙ ap (λ cells. robots_of (cycle_of (deferring s r cells) r)) tells.0)
deferred_route s r Dropped route cycle can tells = absurd tells
deferred_route s r Cut route cycle can tells = absurd tells
deferred_route s r (Did e) route cycle can tells = absurd tells

-- A reported event is one of the plan.
reported_event : (s : State) (r : ℕ) (c : Change) (event : EventNo) → CanChange s r c → Tells s r c (Reported event) → (e : Event) × In e s.fleet.plan × (e.no ≡ event)
reported_event s r (Grew x) event can tells = absurd tells
reported_event s r (Kept x) event can tells = absurd tells
reported_event s r Dropped event can tells = absurd tells
reported_event s r Cut event can tells = absurd tells
reported_event s r (Did e) event can tells = (e, can.1.planned, tells)

-- The cells of a route are cells of the site.
walk_known : (site : Site) → IsSite site → (a : CellNo) (bs : List CellNo) → IsWalkFrom site a bs → a.0 < cell_count site → AllByRecursion (λ (c : CellNo). c.0 < cell_count site) (a ∷ bs)
walk_known site is a [] walk within = (within, tt)
walk_known site is a (b ∷ bs) walk within = (within, walk_known site is b bs walk.1 (link_within site is a b walk.0).1)

route_known : (site : Site) → IsSite site → (route : List CellNo) → 2 ≤ length route → IsWalk site route → AllByRecursion (λ (c : CellNo). c.0 < cell_count site) route
route_known site is [] long walk = tt
route_known site is (a ∷ []) long walk = absurd (omega arith)
route_known site is (a ∷ b ∷ bs) long walk = walk_known site is a (b ∷ bs) walk (link_within site is a b walk.0).0

-- The robots of a cycle are known, and no more than there are.
record AreMembers (s : State) (members : List ℕ) : Type 0 where
  few : length members ≤ length s.fleet.starts
  known_all : AllByRecursion (λ (r : RobotNo). r.0 < length s.fleet.starts) (robots_of members)

all_known : (n : ℕ) (members : List ℕ) → ((x : ℕ) → In x members → x < n) → AllByRecursion (λ (r : RobotNo). r.0 < n) (robots_of members)
all_known n [] below = tt
all_known n (x ∷ xs) below = (below x (here refl), all_known n xs (λ y i. below y (there i)))

cycle_known : (s : State) (r : ℕ) → length s.pending ≡ length s.fleet.starts → AreMembers s (cycle_of s r)
cycle_known s r places = go (cycle_of s r) (cycle_of_least s r places)
  where
    go : (members : List ℕ) → IsLeastCycle (is_deferred_on s) r members → AreMembers s members
    go [] least = record { few = omega arith; known_all = tt }
    go (x ∷ xs) least =
        let below : (y : ℕ) → In y (x ∷ xs) → y < length s.fleet.starts =
        λ y i. (let next = cycle_next (is_deferred_on s) r (x ∷ xs) least.0 y i in (deferred_below s y next.0 places (deferred_true s y next.0 next.2)).0)
        in
        record {
          few = distinct_length (length s.fleet.starts) (x ∷ xs) (cycle_distinct (is_deferred_on s) r (x ∷ xs) least.0) below;
          known_all = all_known (length s.fleet.starts) (x ∷ xs) below;
        }

-- A state whose robots and cells have names.
pub record IsNamed (names : Named) (s : State) : Type 0 where
  pub site : IsSite s.fleet.site
  pub good : IsGood s
  pub cells : cell_count s.fleet.site ≡ count_of things.is_cell names
  pub robots : length s.fleet.starts ≡ count_of things.is_robot names
  pub few : length s.fleet.starts ≤ 64
  pub starts : (r : ℕ) (a : CellNo) → slice_get s.fleet.starts r ≡ Some a → a.0 < cell_count s.fleet.site
  pub cap : s.cap ≤ 1000000

module _ (names : Named) (s : State) (named : IsNamed names s) where
  -- each number that was given has at most 15 digits
  next_short : s.fleet.next ≤ 999999999999999
  next_short =
      let good = named.good in
      let numbers = good.numbers in
      let first = good.first in
      let total = good.total in
      omega (arith, numbers, first, total)

  first_short : (first : EventNo) → first ≡ first_of s → first.0 ≤ 999999999999999
  first_short first is = let same = ap (λ (n : EventNo). n.0) is in let short = next_short in omega (arith, same, short)

  cells_named : (route : List CellNo) → AllByRecursion (λ (c : CellNo). c.0 < cell_count s.fleet.site) route → AllByRecursion (IsCell names) route
  cells_named route known_all = subst (λ n. AllByRecursion (λ (c : CellNo). c.0 < n) route) named.cells known_all

  robots_named : (robots : List RobotNo) → AllByRecursion (λ (r : RobotNo). r.0 < length s.fleet.starts) robots → AllByRecursion (IsRobot names) robots
  robots_named robots known_all = subst (λ n. AllByRecursion (λ (r : RobotNo). r.0 < n) robots) named.robots known_all

  -- a legal route, and a number, can be printed
  routed : (r : ℕ) (route : List CellNo) (first : EventNo) → IsRoute s.fleet r route → first ≡ first_of s
      → (((1 ≤ length route) × AllByRecursion (IsCell names) route) × (first.0 ≤ 999999999999999)) × ((length route ≤ 1024) × (first.0 ≤ 999999999999999))
  routed r route first legal is =
      let long = legal.long in
      let short = first_short first is in
      (((omega (arith, long), cells_named route (route_known s.fleet.site named.site route legal.long legal.linked)), short), (legal.short, short))

  module _ (entry : Entry) (given : (turn_at s entry).entry ≡ Some entry) where
    abbrev r : ℕ
    r = entry.robot.0

    by_act : (act : Act) → entry.act ≡ act → (turn s r (call_of act)).entry ≡ Some entry → (c : Change) → CanChange s r c → Tells s r c act → IsPrintableAct names act × IsSmall act
    by_act (Merged route first) is h c can tells = routed r route first (merged_route s r c route first can tells) (merged_first s r entry route first is h)
    by_act (Deferred route cycle) is h c can tells =
        let found = deferred_route s r c route cycle can tells in
        let long = found.0.long in
        let places : length (deferring s r route).pending ≡ length s.fleet.starts = length-set s.pending r (Some route) ∙ named.good.places in
        let members = cycle_known (deferring s r route) r places in
        let few = members.few in
        let robots = named.few in
        let count : length (robots_of (cycle_of (deferring s r route) r)) ≤ 64 = omega (arith, length-map (cycle_of (deferring s r route) r) (λ (n : ℕ). let robot : RobotNo = record { 0 = n } in robot), few, robots) in
        let all : AllByRecursion (IsRobot names) cycle = subst (AllByRecursion (IsRobot names)) (sym found.1) (robots_named (robots_of (cycle_of (deferring s r route) r)) members.known_all) in
        let short : length cycle ≤ 64 = subst (λ (rs : List RobotNo). length rs ≤ 64) (sym found.1) count in (
          ((omega (arith, long), cells_named route (route_known s.fleet.site named.site route found.0.long found.0.linked)), short, all),
          (found.0.short, short),
        )
    by_act (Retried first) is h c can tells = let short = first_short first (retried_first s r entry first is h) in (short, short)
    by_act Canceled is h c can tells = (tt, tt)
    by_act (Withdrawn removed end) is h c can tells =
        let found = withdrawn_is s r entry removed end is h in
        let good = named.good in
        let left = length-withdrawn s.fleet r good.plan in
        let room = good.room in
        let base = good.base in
        let cap = named.cap in
        let count = found.0 in
        let few : removed ≤ 1000000 = omega (arith, left, room, base, cap, count) in
        let start = start_of s.fleet.starts r (robot_known s r entry (Withdrawn removed end) h) in
        let within : (end_of (withdrawn s.fleet (removable_tail s.fleet r)) r).0 < cell_count s.fleet.site =
        end_known (withdrawn s.fleet (removable_tail s.fleet r)) named.site (withdrawn_good s.fleet r good.plan) r start.0 start.1 (named.starts r start.0 start.1)
        in
        let end_is = ap (λ (a : CellNo). a.0) found.1 in
        let cells = named.cells in
        ((few, omega (arith, within, end_is, cells)), few)
    by_act (Replanned route first) is h c can tells = routed r route first (replanned_route s r c route first can tells) (replanned_first s r entry route first is h)
    by_act (Reported event) is h c can tells =
        let found = reported_event s r c event can tells in
        let below = named.good.plan.next found.0 found.1 in
        let same = ap (λ (n : EventNo). n.0) found.2 in
        let next = next_short in
        let short : event.0 ≤ 999999999999999 = omega (arith, below, same, next) in
        (short, short)

    -- the entry can be printed
    entry_printable : AreDeclared names → IsPrintable names entry
    entry_printable declared =
        let a = accepts_at s entry named.site named.good given in
        let fits = by_act entry.act refl given a.change a.can a.tells in
        let robot = robot_known s r entry entry.act given in
        let count = named.robots in
        record { robot = omega (arith, robot, count); act = fits.0; short = line_short names declared entry fits.1 }

    -- and what it leaves has names too
    named_on : IsNamed names (turn_at s entry).after
    named_on =
        let a = accepts_at s entry named.site named.good given in
        let good = turn_good s entry named.site named.good given in
        let site : (turn_at s entry).after.fleet.site ≡ s.fleet.site = ap (λ (t : State). t.fleet.site) a.after_is ∙ changed_site s r a.change in
        let starts : (turn_at s entry).after.fleet.starts ≡ s.fleet.starts = ap (λ (t : State). t.fleet.starts) a.after_is ∙ changed_starts s r a.change in
        let cap : (turn_at s entry).after.cap ≡ s.cap = ap (λ (t : State). t.cap) a.after_is ∙ changed_cap s r a.change in
        let most = named.cap in
        record {
          site = good.1;
          good = good.0;
          cells = ap cell_count site ∙ named.cells;
          robots = ap length starts ∙ named.robots;
          few = subst (λ (cells : List CellNo). length cells ≤ 64) (sym starts) named.few;
          starts = λ q b at.
              subst (λ (x : Site). b.0 < cell_count x) (sym site) (named.starts q b (ap (λ (cells : List CellNo). slice_get cells q) (sym starts) ∙ at));
          cap = omega (arith, cap, most);
        }

pub legal_printable : (names : Named) → AreDeclared names → (s : State) (entries : List Entry) → IsNamed names s → IsJournal s entries → AllByRecursion (IsPrintable names) entries
legal_printable names declared s [] named is = tt
legal_printable names declared s (entry ∷ entries) named is =
    (entry_printable names s named entry is.0 declared, legal_printable names declared (turn_at s entry).after entries (named_on names s named entry is.0) is.1)
