-- While a journal has few entries, none of them opens a segment.
use Rattle.std.proofs.Common.{◌≡◌, ℕ, ◌+◌, ◌≤◌, ◌==◌, ◌&&◌, ◌||◌, Bool, true, false, cond, List, [], ◌∷◌, ◌++◌, length, Option, Some, None, refl, sym, ap, subst, ◌∙◌, arith, ltb-true}
use Rattle.std.specs.Prelude.{not, nat_lt}
use Rattle.std.specs.List.{filter}
use Rattle.std.specs.Option.{is_none, is_some}
use Rattle.std.proofs.lemmas.Bool.{eq-eqb, eqb-true, ltb-false, not-false, or_parts}
use Rattle.fleet_base.specs.declared.answers.Block.{Block}
use Rattle.fleet_base.specs.declared.answers.ProposeRefused.TheVariants as propose_refused
use Rattle.fleet_base.specs.declared.answers.ReplanRefused.TheVariants as replan_refused
use Rattle.fleet_base.specs.declared.answers.RetryRefused.TheVariants as retry_refused
use Rattle.fleet_base.specs.declared.entries.Act.{Act}
use Rattle.fleet_base.specs.declared.entries.Act.TheVariants.{Merged, Deferred, Retried, Canceled, Withdrawn, Replanned, Reported}
use Rattle.fleet_base.specs.declared.entries.Entry.{Entry}
use Rattle.fleet_base.specs.declared.limits.TheConstants.{MAX_COUNT}
use Rattle.fleet_base.specs.declared.numbers.CellNo.{CellNo}
use Rattle.fleet_model.specs.Calls.{accepted, cancel_refusals, deferring, first_of, in_segment, merge_growth, moved, next_event, propose, propose_growth, propose_outcome, propose_refusals, replan, report_refusals, reported, retry, retry_refusals, span_of, turn, with_route, withdraw_refusals}
use Rattle.fleet_model.specs.Good.{IsGood}
use Rattle.fleet_model.specs.Journals.{IsJournal, call_of, last_of, turn_at}
use Rattle.fleet_model.specs.Lists.{has_cell}
use Rattle.fleet_model.specs.Plans.{IsRoute, end_of, removable_tail, unfinished, withdrawn}
use Rattle.fleet_model.specs.Segments.{inner_marks, mark_at, opens_segment}
use Rattle.fleet_model.specs.Sites.{IsSite}
use Rattle.fleet_model.specs.States.{State, base_behind, block_of, is_full, is_past, owed, pending_of, pending_route}
use Rattle.fleet_model.proofs.Accepted.{IsAccepted, nothing, replanned, unless_accepted}
use Rattle.fleet_model.proofs.Changes.{changed_cap, changed_count, changed_starts}
use Rattle.fleet_model.proofs.Deferrals.{pending_is}
use Rattle.fleet_model.proofs.Detours.{detour_route}
use Rattle.fleet_model.proofs.Filters.{length-filter-le}
use Rattle.fleet_model.proofs.GoodStates.{accepts_at, turn_good}
use Rattle.fleet_model.proofs.Options.{not_none, when_none}
use Rattle.fleet_model.proofs.StepCounts.{steps_few}

-- a state of the first segment, with few robots and few entries
record IsEarly (s : State) : Type 0 where
  site : IsSite s.fleet.site
  good : IsGood s
  base : s.base ≡ 0
  cap : s.cap ≡ 1000000
  robots : length s.fleet.starts ≤ 64
  few : s.count ≤ 900000

module _ (s : State) (early : IsEarly s) where
  pending_few : length (filter is_some s.pending) ≤ 64
  pending_few =
      let less = length-filter-le is_some s.pending in
      let places = early.good.places in
      let robots = early.robots in
      omega (arith, less, places, robots)

  -- there is room in the segment where no event is unfinished
  never_past : (growth : ℕ) → growth ≤ 7162 → length (unfinished s.fleet) ≡ 0 → is_past s growth ≡ true → ⊥
  never_past growth small none past =
      let above = ltb-true (s.base + s.cap) (s.count + owed s + growth) past in
      let pending = pending_few in
      let cap = early.cap in
      let few = early.few in
      omega (arith, above, pending, cap, few, none, small)

  -- so an outcome that isn't refused leaves the segment
  stays : (growth : ℕ) → growth ≤ 7162 → is_full s growth ≡ false → base_behind s growth ≡ s.base
  stays growth small room = by_past (is_past s growth) refl
    where
      by_past : (past : Bool) → is_past s growth ≡ past → base_behind s growth ≡ s.base
      by_past false is = ap (λ b. cond b s.count s.base) is
      by_past true is = absurd (never_past growth small (eqb-true (length (unfinished s.fleet)) 0 settled) is)
        where
          fits : (is_past s growth && (not (length (unfinished s.fleet) == 0) || nat_lt s.cap (owed s + growth))) ≡ false
          fits = (or_parts (nat_lt MAX_COUNT (s.count + owed s + growth)) (is_past s growth && (not (length (unfinished s.fleet) == 0) || nat_lt s.cap (owed s + growth))) room).1

          opens : (not (length (unfinished s.fleet) == 0) || nat_lt s.cap (owed s + growth)) ≡ false
          opens = ap (λ b. b && (not (length (unfinished s.fleet) == 0) || nat_lt s.cap (owed s + growth))) (sym is) ∙ fits

          settled : (length (unfinished s.fleet) == 0) ≡ true
          settled = not-false (length (unfinished s.fleet) == 0) (or_parts (not (length (unfinished s.fleet) == 0)) (nat_lt s.cap (owed s + growth)) opens).0

  merge_small : (route : List CellNo) → length route ≤ 1024 → merge_growth s route ≤ 7162
  merge_small route short = let few = steps_few s.fleet.site early.site route short in omega (arith, few)

  module _ (r : ℕ) (entry : Entry) where
    proposal_stays : (cells : List CellNo) → (propose s r cells).entry ≡ Some entry → (propose s r cells).after.base ≡ s.base
    proposal_stays cells h = ap (λ x. x.after.base) made.is ∙ by_block block (when_none (is_full s (propose_growth s cells block)) propose_refused.Full made.none.1.1.1.1.1.1.1.0)
      where
        block : Option Block
        block = block_of (deferring s r cells) r cells

        made : IsAccepted (propose_refusals s r cells block) s (propose_outcome s r cells block) entry
        made = unless_accepted (propose_refusals s r cells block) s (propose_outcome s r cells block) entry h

        short : length cells ≤ 1024
        short = ltb-false 1024 (length cells) (when_none (nat_lt 1024 (length cells)) propose_refused.TooLong made.none.1.1.1.0)

        by_block : (o : Option Block) → is_full s (propose_growth s cells o) ≡ false → (propose_outcome s r cells o).after.base ≡ s.base
        by_block None room = stays (propose_growth s cells None) (let few = steps_few s.fleet.site early.site cells short in omega (arith, few)) room
        by_block (Some b) room = stays 2 (omega arith) room

    retry_stays : (retry s r).entry ≡ Some entry → (retry s r).after.base ≡ s.base
    retry_stays h =
        let route = pending_route s r in
        let made = unless_accepted (retry_refusals s r route) s (accepted (span_of s route) r (Retried (first_of s)) (in_segment s (merge_growth s route) (with_route s r route))) entry h in
        let pends = not_none (pending_of s r) (when_none (is_none (pending_of s r)) retry_refused.NoPending made.none.1.0) in
        let short : length route ≤ 1024 = subst (λ (cells : List CellNo). length cells ≤ 1024) (sym (pending_is s r pends.0 pends.1)) (early.good.routes r pends.0 pends.1).short in
        ap (λ x. x.after.base) made.is ∙ stays (merge_growth s route) (merge_small route short) (when_none (is_full s (merge_growth s route)) retry_refused.Full made.none.1.1.1.0)

    replan_stays : (goal : CellNo → Bool) → (replan s r goal).entry ≡ Some entry → (replan s r goal).after.base ≡ s.base
    replan_stays goal h =
        let p = replanned s r goal entry h in
        let legal : IsRoute s.fleet r p.route = detour_route s.fleet r goal p.route early.site (when_none (goal (end_of s.fleet r)) replan_refused.AtGoal p.none.1.1.0) p.found in
        ap (λ x. x.after.base) p.is ∙ stays (merge_growth s p.route) (merge_small p.route legal.short) (when_none (is_full s (merge_growth s p.route)) replan_refused.Full p.none.1.1.1.1.0)

    base_stays : (act : Act) → (turn s r (call_of act)).entry ≡ Some entry → (turn s r (call_of act)).after.base ≡ s.base
    base_stays (Merged route first) h = proposal_stays route h
    base_stays (Deferred route cycle) h = proposal_stays route h
    base_stays (Retried first) h = retry_stays h
    base_stays Canceled h = ap (λ x. x.after.base) (unless_accepted (cancel_refusals s r) s (accepted nothing r Canceled (moved s s.fleet r None)) entry h).is
    base_stays (Withdrawn removed end) h =
        let tail = removable_tail s.fleet r in
        let fleet = withdrawn s.fleet tail in
        ap (λ x. x.after.base)
        (unless_accepted (withdraw_refusals s r tail) s (accepted (record { removed = length tail; end = end_of fleet r }) r (Withdrawn (length tail) (end_of fleet r)) (moved s fleet r None)) entry h).is
    base_stays (Replanned route first) h = replan_stays (has_cell (last_of route)) h
    base_stays (Reported event) h =
        let next = next_event s.fleet r in
        ap (λ x. x.after.base)
        (unless_accepted (report_refusals s r event next) s (accepted nothing r (Reported event) (record s { fleet = reported s.fleet next; count = s.count + 1 })) entry h).is

  -- an entry leaves the segment, and the state behind it is early too, where it has few entries
  module _ (entry : Entry) (given : (turn_at s entry).entry ≡ Some entry) where
    opens_none : opens_segment s entry ≡ false
    opens_none = ap (λ b. not b) (eq-eqb (turn_at s entry).after.base s.base (base_stays entry.robot.0 entry entry.act given))

    count_more : (turn_at s entry).after.count ≡ s.count + 1
    count_more = let a = accepts_at s entry early.site early.good given in ap (λ (t : State). t.count) a.after_is ∙ changed_count s entry.robot.0 a.change

    early_on : s.count + 1 ≤ 900000 → IsEarly (turn_at s entry).after
    early_on few =
        let a = accepts_at s entry early.site early.good given in
        let good = turn_good s entry early.site early.good given in
        let starts : (turn_at s entry).after.fleet.starts ≡ s.fleet.starts = ap (λ (t : State). t.fleet.starts) a.after_is ∙ changed_starts s entry.robot.0 a.change in
        let count = count_more in
        record {
          site = good.1;
          good = good.0;
          base = base_stays entry.robot.0 entry entry.act given ∙ early.base;
          cap = ap (λ (t : State). t.cap) a.after_is ∙ changed_cap s entry.robot.0 a.change ∙ early.cap;
          robots = subst (λ (cells : List CellNo). length cells ≤ 64) (sym starts) early.robots;
          few = omega (arith, count, few);
        }

-- so a journal of few entries has no mark but the first
early_whole : (s : State) (entries : List Entry) → IsEarly s → s.count + length entries ≤ 900000 → IsJournal s entries → inner_marks s entries ≡ []
early_whole s [] early few legal = refl
early_whole s (entry ∷ entries) early few legal =
    let next = early_on s early entry legal.0 (omega (arith, few)) in
    let count = count_more s early entry legal.0 in
    ap (λ b. cond b (mark_at s ∷ []) [] ++ inner_marks (turn_at s entry).after entries) (opens_none s early entry legal.0)
    ∙ early_whole (turn_at s entry).after entries next (omega (arith, count, few)) legal.1

-- a journal of at most 900,000 entries from an opening state of at most 64 robots, with the cap 1,000,000, is one segment
pub few_is_whole : (s : State) (entries : List Entry) → IsSite s.fleet.site → IsGood s → s.base ≡ 0 → s.count ≡ 0 → s.cap ≡ 1000000 → length s.fleet.starts ≤ 64 → length entries ≤ 900000 → IsJournal s entries → inner_marks s entries ≡ []
few_is_whole s entries site good base count cap robots few legal =
    early_whole s entries (record { site = site; good = good; base = base; cap = cap; robots = robots; few = omega (arith, count) }) (omega (arith, count, few)) legal
