-- The machine goes alike where calls are counted from another number, as long as there is room.
use Rattle.std.proofs.Common.{◌≡◌, ℕ, ◌+◌, ◌<◌, ◌≤◌, Bool, true, false, cond, not, ◌||◌, ◌&&◌, ◌==◌, ◌⊎◌, inl, inr, refl, sym, ap, ◌∙◌, subst, List, [], ◌∷◌, ◌++◌, length, arith, eq-eqb, Option, Some, None}
use Rattle.std.proofs.lemmas.Bool.{both_ways, cases_lt, eqb-true, le-ltb, lt-ltb, ltb-false, not-false, not-true, not_from_true, or_from, or_parts}
use Rattle.std.proofs.lemmas.List.{nil_from_length}
use Rattle.std.specs.Prelude.{nat_lt}
use Rattle.std.specs.Option.{unwrap_or}
use Rattle.fleet_base.specs.declared.answers.Block.{Block}
use Rattle.fleet_base.specs.declared.answers.ProposeRefused.TheVariants as propose_refused
use Rattle.fleet_base.specs.declared.answers.ReplanRefused.{ReplanRefused}
use Rattle.fleet_base.specs.declared.answers.ReplanRefused.TheVariants as replan_refused
use Rattle.fleet_base.specs.declared.answers.ReportRefused.{ReportRefused}
use Rattle.fleet_base.specs.declared.answers.RetryRefused.{RetryRefused}
use Rattle.fleet_base.specs.declared.answers.RetryRefused.TheVariants as retry_refused
use Rattle.fleet_base.specs.declared.answers.WithdrawRefused.{WithdrawRefused}
use Rattle.fleet_base.specs.declared.answers.Withdrawn.{Withdrawn as Removed}
use Rattle.fleet_base.specs.declared.entries.Act.TheVariants.{Retried, Canceled, Withdrawn, Replanned, Reported}
use Rattle.fleet_base.specs.declared.entries.Entry.{Entry}
use Rattle.fleet_base.specs.declared.limits.TheConstants.{MAX_COUNT}
use Rattle.fleet_base.specs.declared.marks.Mark.{Mark}
use Rattle.fleet_base.specs.declared.numbers.CellNo.{CellNo}
use Rattle.fleet_base.specs.declared.numbers.Event.{Event}
use Rattle.fleet_base.specs.declared.numbers.EventNo.{EventNo}
use Rattle.fleet_base.specs.declared.numbers.Span.{Span}
use Rattle.fleet_model.specs.Lists.{has_cell, when}
use Rattle.fleet_model.specs.Plans.{end_of, removable_tail, unfinished, withdrawn}
use Rattle.fleet_model.specs.States.{State, base_behind, block_of, is_full, is_past, is_robot, owed, pending_route}
use Rattle.fleet_model.specs.Calls.{Call, Propose, Retry, Cancel, Withdraw, Replan, Report, LookAt, Step, accepted, cancel_refusals, deferring, detour_of, first_of, in_segment, merge_growth, moved, next_event, propose_growth, propose_outcome, propose_refusals, replan_refusals, report_refusals, reported, retry_refusals, span_of, turn, unless, with_route, withdraw_refusals}
use Rattle.fleet_model.specs.Journals.{IsJournal, call_of, state_after, turn_at}
use Rattle.fleet_model.specs.Segments.{inner_marks, mark_at, opens_segment}
use Rattle.fleet_model.proofs.Accepted.{AllNone, no_entry, nothing, unless_accepted}
use Rattle.fleet_model.proofs.Options.{when_none}
use Rattle.fleet_model.proofs.Segments.{room_behind}
use Rattle.fleet_model.proofs.Turns.{unless_none}

-- the state with its calls counted otherwise, and another number as the run's first
abbrev pub recounted : State → ℕ → ℕ → ℕ → State
recounted x first count base = record x { fleet = record x.fleet { first = first }; count = count; base = base }

-- which bases two steps leave: those that stood there, or those behind an outcome that isn't refused for want of room
abbrev Bases : State → State → State → State → Type 0
Bases s u after other = ((after.base ≡ s.base) × (other.base ≡ u.base)) ⊎ ((growth : ℕ) × (is_full s growth ≡ false) × (after.base ≡ base_behind s growth) × (other.base ≡ base_behind u growth))

-- two steps add the same entry, and leave states that differ in how calls are counted
pub record IsRecounted (s u : State) (entry told : Option Entry) (after other : State) : Type 0 where
  pub same_entry : told ≡ entry
  pub count : after.count ≡ s.count + 1
  pub first : after.fleet.first ≡ s.fleet.first
  pub same : other ≡ recounted after u.fleet.first (u.count + 1) other.base
  pub bases : Bases s u after other

-- what holds of two steps holds where they are behind refusals that aren't there
taken : {A E : Type 0} (s u : State) (x y z w : Step A E) → x ≡ y → z ≡ w → IsRecounted s u y.entry w.entry y.after w.after → IsRecounted s u x.entry z.entry x.after z.after
taken s u x y z w e g h = subst (λ a. IsRecounted s u a.entry z.entry a.after z.after) (sym e) (subst (λ b. IsRecounted s u y.entry b.entry y.after b.after) (sym g) h)

module _ (s : State) (first count base : ℕ) (room : (growth : ℕ) → is_full s growth ≡ false → is_full (recounted s first count base) growth ≡ false) (r : ℕ) where
  abbrev u : State
  u = recounted s first count base

  -- the two steps of a call are one but for the count
  abbrev AreRecounted : Call → Type 0
  AreRecounted call = IsRecounted s u (turn s r call).entry (turn u r call).entry (turn s r call).after (turn u r call).after

  proposal_none : (cells : List CellNo) (o : Option Block) → AllNone (propose_refusals s r cells o) → is_full u (propose_growth u cells o) ≡ false → AllNone (propose_refusals u r cells o)
  proposal_none cells o n free =
      (n.0, (n.1.0, (n.1.1.0, (n.1.1.1.0, (n.1.1.1.1.0, (n.1.1.1.1.1.0, (n.1.1.1.1.1.1.0, (ap (λ b. when b propose_refused.Full) free, tt))))))))

  proposal_recounted : (cells : List CellNo) (o : Option Block) (entry : Entry) → (unless (propose_refusals s r cells o) s (propose_outcome s r cells o)).entry ≡ Some entry
      → IsRecounted s u (unless (propose_refusals s r cells o) s (propose_outcome s r cells o)).entry (unless (propose_refusals u r cells o) u (propose_outcome u r cells o)).entry
      (unless (propose_refusals s r cells o) s (propose_outcome s r cells o)).after (unless (propose_refusals u r cells o) u (propose_outcome u r cells o)).after
  proposal_recounted cells None entry h =
      let is = unless_accepted (propose_refusals s r cells None) s (propose_outcome s r cells None) entry h in
      let growth = propose_growth s cells None in
      let free = when_none (is_full s growth) propose_refused.Full is.none.1.1.1.1.1.1.1.0 in
      taken s u (unless (propose_refusals s r cells None) s (propose_outcome s r cells None)) (propose_outcome s r cells None) (unless (propose_refusals u r cells None) u (propose_outcome u r cells None)) (propose_outcome u r cells None) is.is
      (unless_none (propose_refusals u r cells None) u (propose_outcome u r cells None) (proposal_none cells None is.none (room growth free)))
      (record { same_entry = refl; count = refl; first = refl; same = refl; bases = inr (growth, free, refl, refl) })
  proposal_recounted cells (Some block) entry h =
      let is = unless_accepted (propose_refusals s r cells (Some block)) s (propose_outcome s r cells (Some block)) entry h in
      let growth = propose_growth s cells (Some block) in
      let free = when_none (is_full s growth) propose_refused.Full is.none.1.1.1.1.1.1.1.0 in
      taken s u (unless (propose_refusals s r cells (Some block)) s (propose_outcome s r cells (Some block))) (propose_outcome s r cells (Some block)) (unless (propose_refusals u r cells (Some block)) u (propose_outcome u r cells (Some block))) (propose_outcome u r cells (Some block)) is.is
      (unless_none (propose_refusals u r cells (Some block)) u (propose_outcome u r cells (Some block)) (proposal_none cells (Some block) is.none (room growth free)))
      (record { same_entry = refl; count = refl; first = refl; same = refl; bases = inr (growth, free, refl, refl) })

  retry_recounted : (entry : Entry) → (turn s r Retry).entry ≡ Some entry → AreRecounted Retry
  retry_recounted entry h =
      let is = unless_accepted (retry_refusals s r route) s (merges s) entry h in
      let free = when_none (is_full s (merge_growth s route)) retry_refused.Full is.none.1.1.1.0 in
      taken s u (unless (retry_refusals s r route) s (merges s)) (merges s) (unless (retry_refusals u r route) u (merges u)) (merges u) is.is
      (unless_none (retry_refusals u r route) u (merges u) (is.none.0, (is.none.1.0, (is.none.1.1.0, (ap (λ b. when b retry_refused.Full) (room (merge_growth s route) free), tt)))))
      (record { same_entry = refl; count = refl; first = refl; same = refl; bases = inr (merge_growth s route, free, refl, refl) })
    where
      route : List CellNo
      route = pending_route s r

      merges : State → Step Span RetryRefused
      merges x = accepted (span_of x route) r (Retried (first_of x)) (in_segment x (merge_growth x route) (with_route x r route))

  cancel_recounted : (entry : Entry) → (turn s r Cancel).entry ≡ Some entry → AreRecounted Cancel
  cancel_recounted entry h =
      let is = unless_accepted (cancel_refusals s r) s (accepted nothing r Canceled (moved s s.fleet r None)) entry h in
      taken s u (unless (cancel_refusals s r) s (accepted nothing r Canceled (moved s s.fleet r None))) (accepted nothing r Canceled (moved s s.fleet r None))
      (unless (cancel_refusals u r) u (accepted nothing r Canceled (moved u u.fleet r None))) (accepted nothing r Canceled (moved u u.fleet r None)) is.is
      (unless_none (cancel_refusals u r) u (accepted nothing r Canceled (moved u u.fleet r None)) is.none)
      (record { same_entry = refl; count = refl; first = refl; same = refl; bases = inl (refl, refl) })

  withdraw_recounted : (entry : Entry) → (turn s r Withdraw).entry ≡ Some entry → AreRecounted Withdraw
  withdraw_recounted entry h =
      let is = unless_accepted (withdraw_refusals s r tail) s (removes s) entry h in
      taken s u (unless (withdraw_refusals s r tail) s (removes s)) (removes s) (unless (withdraw_refusals u r tail) u (removes u)) (removes u) is.is (unless_none (withdraw_refusals u r tail) u (removes u) is.none)
      (record { same_entry = refl; count = refl; first = refl; same = refl; bases = inl (refl, refl) })
    where
      tail : List Event
      tail = removable_tail s.fleet r

      removes : State → Step Removed WithdrawRefused
      removes x = accepted (record { removed = length tail; end = end_of (withdrawn x.fleet tail) r }) r (Withdrawn (length tail) (end_of (withdrawn x.fleet tail) r)) (moved x (withdrawn x.fleet tail) r None)

  replan_recounted : (cells : List CellNo) (entry : Entry) → (turn s r (Replan cells)).entry ≡ Some entry → AreRecounted (Replan cells)
  replan_recounted cells entry h =
      let is = unless_accepted (replan_refusals s r (has_cell cells) detour) s (merges s) entry h in
      let free = when_none (is_full s (merge_growth s route)) replan_refused.Full is.none.1.1.1.1.0 in
      taken s u (unless (replan_refusals s r (has_cell cells) detour) s (merges s)) (merges s) (unless (replan_refusals u r (has_cell cells) detour) u (merges u)) (merges u) is.is
      (unless_none (replan_refusals u r (has_cell cells) detour) u (merges u)
      (is.none.0, (is.none.1.0, (is.none.1.1.0, (is.none.1.1.1.0, (ap (λ b. when b replan_refused.Full) (room (merge_growth s route) free), tt))))))
      (record { same_entry = refl; count = refl; first = refl; same = refl; bases = inr (merge_growth s route, free, refl, refl) })
    where
      detour : Option (List CellNo)
      detour = detour_of s.fleet r (has_cell cells)

      route : List CellNo
      route = unwrap_or detour []

      merges : State → Step Span ReplanRefused
      merges x = accepted (span_of x route) r (Replanned route (first_of x)) (in_segment x (merge_growth x route) (with_route x r route))

  report_recounted : (n : EventNo) (entry : Entry) → (turn s r (Report n)).entry ≡ Some entry → AreRecounted (Report n)
  report_recounted n entry h =
      let is = unless_accepted (report_refusals s r n next) s (reports s) entry h in
      taken s u (unless (report_refusals s r n next) s (reports s)) (reports s) (unless (report_refusals u r n next) u (reports u)) (reports u) is.is (unless_none (report_refusals u r n next) u (reports u) is.none)
      (record { same_entry = refl; count = refl; first = refl; same = refl; bases = inl (refl, refl) })
    where
      next : Option Event
      next = next_event s.fleet r

      reports : State → Step (Unit {0}) ReportRefused
      reports x = accepted nothing r (Reported n) (record x { fleet = reported x.fleet next; count = x.count + 1 })

  -- each accepted call
  turn_recounted : (call : Call) (entry : Entry) → (turn s r call).entry ≡ Some entry → AreRecounted call
  turn_recounted (Propose cells) entry h = proposal_recounted cells (block_of (deferring s r cells) r cells) entry h
  turn_recounted Retry entry h = retry_recounted entry h
  turn_recounted Cancel entry h = cancel_recounted entry h
  turn_recounted Withdraw entry h = withdraw_recounted entry h
  turn_recounted (Replan cells) entry h = replan_recounted cells entry h
  turn_recounted (Report n) entry h = report_recounted n entry h
  turn_recounted LookAt entry h = absurd (no_entry s r (not (is_robot s r)) (record {}) entry h)

-- room, as a test

-- where there is room in the segment and in the run, an outcome isn't refused
room_from : (u : State) (growth : ℕ) → u.count + owed u + growth ≤ u.base + u.cap → u.count + owed u + growth ≤ MAX_COUNT → is_full u growth ≡ false
room_from u growth segment total =
    or_from (nat_lt MAX_COUNT (u.count + owed u + growth)) (is_past u growth && (not (length (unfinished u.fleet) == 0) || nat_lt u.cap (owed u + growth))) (le-ltb MAX_COUNT (u.count + owed u + growth) total)
    (ap (λ b. b && (not (length (unfinished u.fleet) == 0) || nat_lt u.cap (owed u + growth))) (le-ltb (u.base + u.cap) (u.count + owed u + growth) segment))

-- a segment that has just begun

-- the state whose segment begins where it stands
abbrev pub begun : State → State
begun s = record s { base = s.count }

-- what an entry that opens a segment leaves, it leaves too where the segment has begun before it
pub record Opened (s : State) (entry : Entry) : Type 0 where
  pub base : (turn_at s entry).after.base ≡ s.count
  pub late : s.base < s.count
  pub settled : unfinished s.fleet ≡ []
  pub told : (turn_at (begun s) entry).entry ≡ Some entry
  pub same : (turn_at s entry).after ≡ (turn_at (begun s) entry).after
  pub inside : opens_segment (begun s) entry ≡ false

-- a test that two numbers differ
apart : (a b : ℕ) → not (a == b) ≡ true → a ≡ b → ⊥
apart a b h e = both_ways (a == b) (not-true (a == b) h) (eq-eqb a b e)

pub entry_opens : (s : State) (entry : Entry) → s.base ≤ s.count → (turn_at s entry).entry ≡ Some entry → opens_segment s entry ≡ true → Opened s entry
entry_opens s entry low told opens = go is.bases
  where
    room : (growth : ℕ) → is_full s growth ≡ false → is_full (begun s) growth ≡ false
    room growth free = let r = room_behind s growth low free in let b = r.base in let l = r.segment in room_from (begun s) growth (omega arith) r.total

    is : IsRecounted s (begun s) (turn_at s entry).entry (turn_at (begun s) entry).entry (turn_at s entry).after (turn_at (begun s) entry).after
    is = turn_recounted s s.fleet.first s.count s.count room entry.robot.0 (call_of entry.act) entry told

    after : State
    after = (turn_at s entry).after

    -- with this base behind the entry
    at : unfinished s.fleet ≡ [] → after.base ≡ s.count → (turn_at (begun s) entry).after.base ≡ s.count → Opened s entry
    at settled base other = record {
      base = base;
      late = omega (arith, low, λ (e : s.count ≡ s.base). apart after.base s.base opens (base ∙ e));
      settled = settled;
      told = is.same_entry ∙ told;
      same = (λ i. recounted after (is.first i) (is.count i) (base i)) ∙ ((λ i. recounted after s.fleet.first (s.count + 1) (sym other i)) ∙ sym is.same);
      inside = not_from_true ((turn_at (begun s) entry).after.base == s.count) (eq-eqb (turn_at (begun s) entry).after.base s.count other);
    }

    -- behind an outcome that would go above the cap of the segment
    past : (growth : ℕ) → is_full s growth ≡ false → after.base ≡ base_behind s growth → (turn_at (begun s) entry).after.base ≡ base_behind (begun s) growth → (b : Bool) → is_past s growth ≡ b → Opened s entry
    past growth free base other false e = absurd (apart after.base s.base opens (base ∙ ap (λ b. cond b s.count s.base) e))
    past growth free base other true e =
        let narrow = (or_parts (nat_lt MAX_COUNT (s.count + owed s + growth)) (is_past s growth && (not (length (unfinished s.fleet) == 0) || nat_lt s.cap (owed s + growth))) free).1 in
        let none = (or_parts (not (length (unfinished s.fleet) == 0)) (nat_lt s.cap (owed s + growth)) (subst (λ b. (b && (not (length (unfinished s.fleet) == 0) || nat_lt s.cap (owed s + growth))) ≡ false) e narrow)).0 in
        at (nil_from_length (unfinished s.fleet) (eqb-true (length (unfinished s.fleet)) 0 (not-false (length (unfinished s.fleet) == 0) none)))
        (base ∙ ap (λ b. cond b s.count s.base) e) (other ∙ either (is_past (begun s) growth))
      where
        either : (b : Bool) → cond b s.count s.count ≡ s.count
        either true = refl
        either false = refl

    go : Bases s (begun s) after (turn_at (begun s) entry).after → Opened s entry
    go (inl same) = absurd (apart after.base s.base opens same.0)
    go (inr grown) = past grown.0 grown.1 grown.2 grown.3 (is_past s grown.0) refl

-- a run that goes on from another number

-- the state with so many more calls before it, in a run whose numbers begin at first
abbrev pub shifted : ℕ → ℕ → State → State
shifted more first x = recounted x first (more + x.count) (more + x.base)

-- a test of two numbers, with as much added to each
less_more : (k a b : ℕ) → nat_lt (k + a) (k + b) ≡ nat_lt a b
less_more k a b = elim (cases_lt a b) [ inl l ↦ lt-ltb (k + a) (k + b) (omega (arith, l)) ∙ sym (lt-ltb a b l) | inr l ↦ le-ltb (k + a) (k + b) (omega (arith, l)) ∙ sym (le-ltb a b l) ]

module _ (more first : ℕ) where
  past_shifted : (x : State) (growth : ℕ) → is_past (shifted more first x) growth ≡ is_past x growth
  past_shifted x growth = (λ i. nat_lt (cap_is i) (sum_is i)) ∙ less_more more (x.base + x.cap) (x.count + owed x + growth)
    where
      cap_is : more + x.base + x.cap ≡ more + (x.base + x.cap)
      cap_is = omega arith

      sum_is : more + x.count + owed x + growth ≡ more + (x.count + owed x + growth)
      sum_is = omega arith

  room_shifted : (x : State) (growth : ℕ) → is_full (shifted more first x) growth ≡ false → is_full x growth ≡ false
  room_shifted x growth free =
      let narrow = not (length (unfinished x.fleet) == 0) || nat_lt x.cap (owed x + growth) in
      let parts = or_parts (nat_lt MAX_COUNT (more + x.count + owed x + growth)) (is_past (shifted more first x) growth && narrow) free in
      or_from (nat_lt MAX_COUNT (x.count + owed x + growth)) (is_past x growth && narrow)
      (le-ltb MAX_COUNT (x.count + owed x + growth) (let l = ltb-false MAX_COUNT (more + x.count + owed x + growth) parts.0 in omega arith))
      (ap (λ b. b && narrow) (sym (past_shifted x growth)) ∙ parts.1)

  base_shifted : (x : State) (growth : ℕ) → base_behind (shifted more first x) growth ≡ more + base_behind x growth
  base_shifted x growth = ap (λ b. cond b (more + x.count) (more + x.base)) (past_shifted x growth) ∙ either (is_past x growth)
    where
      either : (b : Bool) → cond b (more + x.count) (more + x.base) ≡ more + cond b x.count x.base
      either true = refl
      either false = refl

  -- an accepted call is one in the run that is counted alone too
  turn_shifted : (x : State) (entry : Entry) → (turn_at (shifted more first x) entry).entry ≡ Some entry
      → ((turn_at x entry).entry ≡ Some entry) × ((turn_at (shifted more first x) entry).after ≡ shifted more first (turn_at x entry).after)
  turn_shifted x entry told = (is.same_entry ∙ told, whole ∙ sym (ap (λ n. recounted n first (more + n.count) (more + (turn_at x entry).after.base)) is.same))
    where
      is : IsRecounted (shifted more first x) x (turn_at (shifted more first x) entry).entry (turn_at x entry).entry (turn_at (shifted more first x) entry).after (turn_at x entry).after
      is = turn_recounted (shifted more first x) x.fleet.first x.count x.base (room_shifted x) entry.robot.0 (call_of entry.act) entry told

      after : State
      after = (turn_at (shifted more first x) entry).after

      base_is : Bases (shifted more first x) x after (turn_at x entry).after → after.base ≡ more + (turn_at x entry).after.base
      base_is (inl same) = same.0 ∙ ap (λ n. more + n) (sym same.1)
      base_is (inr grown) = grown.2 ∙ (base_shifted x grown.0 ∙ ap (λ n. more + n) (sym grown.3))

      count_is : after.count ≡ more + (x.count + 1)
      count_is = is.count ∙ omega arith

      whole : after ≡ recounted after first (more + (x.count + 1)) (more + (turn_at x entry).after.base)
      whole = λ i. recounted after (is.first i) (count_is i) (base_is is.bases i)

-- a list in front of which a mark may stand is empty where neither is there
pub none_marked : (b : Bool) (mark : Mark) (marks : List Mark) → cond b (mark ∷ []) [] ++ marks ≡ [] → (b ≡ false) × (marks ≡ [])
none_marked true mark marks h = absurd (cc)
none_marked false mark marks h = (refl, h)

-- a journal of a run is one where the run is counted alone too; where it opens no segment, neither does it there
pub record JournalShifted (more first : ℕ) (x : State) (entries : List Entry) : Type 0 where
  pub legal : IsJournal x entries
  pub reaches : state_after (shifted more first x) entries ≡ shifted more first (state_after x entries)
  pub whole : inner_marks x entries ≡ []

pub journal_shifted : (more first : ℕ) (x : State) (entries : List Entry) → IsJournal (shifted more first x) entries → inner_marks (shifted more first x) entries ≡ [] → JournalShifted more first x entries
journal_shifted more first x [] h none = record { legal = tt; reaches = refl; whole = refl }
journal_shifted more first x (entry ∷ entries) h none =
    let turned = turn_shifted more first x entry h.0 in
    let next = (turn_at x entry).after in
    let marks = none_marked (opens_segment (shifted more first x) entry) (mark_at (shifted more first x)) (inner_marks (turn_at (shifted more first x) entry).after entries) none in
    let rest : JournalShifted more first next entries =
    journal_shifted more first next entries (subst (λ (n : State). IsJournal n entries) turned.1 h.1) (subst (λ (n : State). inner_marks n entries ≡ []) turned.1 marks.1)
    in
    let base_is : (turn_at (shifted more first x) entry).after.base ≡ more + next.base = ap (λ (n : State). n.base) turned.1 in
    let stays : (turn_at (shifted more first x) entry).after.base ≡ more + x.base = eqb-true (turn_at (shifted more first x) entry).after.base (more + x.base) (not-false ((turn_at (shifted more first x) entry).after.base == (more + x.base)) marks.0) in
    let inside : opens_segment x entry ≡ false = not_from_true (next.base == x.base) (eq-eqb next.base x.base (omega arith)) in
    record {
      legal = (turned.0, rest.legal);
      reaches = ap (λ (n : State). state_after n entries) turned.1 ∙ rest.reaches;
      whole = (λ i. cond (inside i) (mark_at x ∷ []) [] ++ inner_marks next entries) ∙ rest.whole;
    }
