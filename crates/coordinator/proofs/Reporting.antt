-- A report of a robot's next event.
use Rattle.std.proofs.Common.{◌≡◌, ℕ, ◌+◌, ◌<◌, List, [], ◌∷◌, ◌++◌, length, Option, Some, None, sym, ap, subst, ◌∙◌, refl, arith, eq-eqb}
use Rattle.std.proofs.lemmas.Bool.{lt-ltb}
use Rattle.std.specs.Prelude.{Vec, vec_len, slice_get, Err}
use Rattle.std.specs.Vec.{vec_capacity}
use Rattle.std.specs.Global.{Global}
use Rattle.fleet_base.specs.declared.answers.ReportRefused.{ReportRefused}
use Rattle.fleet_base.specs.declared.answers.ReportRefused.TheVariants as refused
use Rattle.fleet_base.specs.declared.entries.Act.TheVariants as act
use Rattle.fleet_base.specs.declared.entries.Entry.{Entry}
use Rattle.fleet_base.specs.declared.numbers.ClaimGroup.{ClaimGroup}
use Rattle.fleet_base.specs.declared.numbers.Event.{Event}
use Rattle.fleet_base.specs.declared.numbers.EventNo.{EventNo}
use Rattle.fleet_model.specs.Lists.{In, here}
use Rattle.fleet_model.specs.Plans.{IsBehind, IsReady, own}
use Rattle.fleet_model.specs.States.{State}
use Rattle.fleet_model.specs.Calls.{Report, Step, accepted, look_at_event, look_at_next, next_event, report, reported, waits_on}
use Rattle.fleet_model.proofs.Accepted.{next_ready}
use Rattle.fleet_model.proofs.Numbers.{own_In}
use Rattle.event_graph.specs.Graphs.{AtNumber, HasNumber, HasReady, IsReadyAmong, greatest_after}
use Rattle.event_graph.proofs.Whole.{ready_whole, waits_whole}
use Rattle.robot_tables.specs.Robots.{HasPlaceFor, Robots, holding_at}
use Rattle.robot_tables.proofs.Reports.{known, place}
use Rattle.coordinator.specs.declared.coordinator.Coordinator.TheInside.{Inside}
use Rattle.coordinator.specs.declared.tables.Tables.{Tables}
use Rattle.coordinator.specs.Changes.{IsReported}
use Rattle.coordinator.specs.Books.{with_entries}
use Rattle.coordinator.specs.Endings.{IsReportable}
use Rattle.coordinator.specs.Kept.{IsKept, Shows, shown}
use Rattle.std.specs.Option.{option_to_list}
use Rattle.coordinator.proofs.KeptNext.{counted_is, good, kept_on, robot_is, site_is, state}
use Rattle.coordinator.proofs.Transitions.{reported_shown}

first_in : (es : List Event) (e : Event) → slice_get es 0 ≡ Some e → In e es
first_in [] e is = absurd (cc)
first_in (x ∷ xs) e is = here (let same : x ≡ e = cc in sym same)

-- the next event waits for another
early : (s : State) (r : ℕ) (n on : EventNo) (e : Event) → r < length s.fleet.starts → next_event s.fleet r ≡ Some e → e.no.0 ≡ n.0 → waits_on s.fleet e ≡ Some on → report s r n ≡ record { answer = Err (refused.Early on); entry = None; after = s }
early s r n on e start next same waits = rw (lt-ltb r (length s.fleet.starts) start, next, eq-eqb e.no.0 n.0 same, waits) refl

-- the next event is ready
done : (s : State) (r : ℕ) (n : EventNo) (e : Event) → r < length s.fleet.starts → next_event s.fleet r ≡ Some e → e.no.0 ≡ n.0 → waits_on s.fleet e ≡ None → report s r n ≡ accepted tt r (act.Reported n) (record s { fleet = reported s.fleet (Some e); count = s.count + 1 })
done s r n e start next same waits = rw (lt-ltb r (length s.fleet.starts) start, next, eq-eqb e.no.0 n.0 same, waits) refl

-- the robot's next event by the tables
module _ (c : Inside) (kept : IsKept c) (r : ℕ) (e : Event) (n : EventNo) (next : slice_get (own r c.tables.graph.events) 0 ≡ Some e) (same : e.no.0 ≡ n.0) where
  there : In e c.tables.graph.events
  there = (own_In r c.tables.graph.events (first_in (own r c.tables.graph.events) e next)).0

  pub next_is : next_event (state c kept).fleet r ≡ Some e
  next_is = ap (λ es. slice_get (own r es) 0) (sym kept.tables.events) ∙ next

  pub same_no : e.no ≡ n
  same_no = let is = same in λ i. record { 0 = is i }

  pub has_number : HasNumber c.tables.graph.events n
  has_number = (e, there, same_no)

  pub waits_is : (on : Option EventNo) → AtNumber c.tables.graph.events n (λ f. on ≡ greatest_after c.tables.graph.groups c.tables.graph.events f) → waits_on (state c kept).fleet e ≡ on
  waits_is on at = sym (at e there same_no ∙ ap (λ gs. greatest_after gs c.tables.graph.events e) kept.tables.groups ∙ ap (λ es. greatest_after (state c kept).fleet.site.groups es e) kept.tables.events ∙ waits_whole (state c kept).fleet e)

  -- a look at the next event tells what it waits for
  pub looked_at : (on : Option EventNo) → AtNumber c.tables.graph.events n (λ f. on ≡ greatest_after c.tables.graph.groups c.tables.graph.events f) → look_at_next (state c kept).fleet (next_event (state c kept).fleet r) ≡ look_at_event e on
  looked_at on at = ap (look_at_next (state c kept).fleet) next_is ∙ ap (look_at_event e) (waits_is on at)

  pub early_is : (on : EventNo) → r < length c.from.at.items → waits_on (state c kept).fleet e ≡ Some on → report (state c kept) r n ≡ record { answer = Err (refused.Early on); entry = None; after = state c kept }
  early_is on start waits = early (state c kept) r n on e (robot_is c kept r start) next_is same waits

-- the robot's next event, which may be reported
module _ (c : Inside) (kept : IsKept c) (r : ℕ) (e : Event) (n : EventNo) (found : IsReportable (shown c) r n e) where
  abbrev s : State
  s = state c kept

  ready : (e.robot.0 ≡ r) × IsReady (IsBehind s.fleet.site.groups) s.fleet.plan s.fleet.finished e
  ready = next_ready s.fleet r e (good c kept).plan found.next found.free

  pub has_ready : HasReady c.tables.graph.groups c.tables.graph.events e.no
  has_ready = (
    e,
    refl,
    subst (λ (gs : List ClaimGroup). IsReadyAmong gs c.tables.graph.events e) (sym kept.tables.groups)
        (subst (λ es. IsReadyAmong s.fleet.site.groups es e) (sym kept.tables.events) ((ready_whole s.fleet e).1 ready.1)),
  )

  pub has_tables : e.robot.0 < length c.tables.robots.ends
  has_tables = subst (λ (k : Robots). e.robot.0 < length k.ends) (sym kept.tables.known) (known s.fleet e (good c kept).plan ready.1)

  pub has_place : HasPlaceFor (holding_at c.tables.robots e.robot.0) e.kind
  has_place = subst (λ (k : Robots). HasPlaceFor (holding_at k e.robot.0) e.kind) (sym kept.tables.known) (place s.fleet e (site_is c kept) (counted_is c kept) (good c kept).plan ready.1)

  pub done_is : report s r n ≡ accepted tt r (act.Reported n) (record s { fleet = reported s.fleet (Some e); count = s.count + 1 })
  done_is = done s r n e (robot_is c kept r found.known) found.next (ap (λ no. no.0) found.number) found.free

  module _ (journal : Vec Entry Global) (tables : Tables) (is : IsReported c.tables tables e) (items : journal.items ≡ c.journal.items ++ record { robot = record { 0 = r }; act = act.Reported n } ∷ [])
      (len : vec_len journal ≡ vec_len c.journal + 1) (capacity : vec_capacity journal ≡ vec_capacity c.journal) where
    pub kept_then : IsKept (record c { journal = journal; tables = tables })
    kept_then =
        kept_on c kept journal tables r (Report n) (record { robot = record { 0 = r }; act = act.Reported n }) (ap (λ (t : Step (Unit {0}) ReportRefused). t.entry) done_is) items
        (subst (λ t. Shows tables t) (sym (ap (λ (t : Step (Unit {0}) ReportRefused). t.after) done_is)) (reported_shown c.tables tables s e kept.tables (good c kept) (site_is c kept) (counted_is c kept) ready.1 is))
        (omega (arith, len, capacity, kept.room, is.owed)) (ap (λ (t : Step (Unit {0}) ReportRefused). t.after.base) done_is)

    pub book_then : shown (record c { journal = journal; tables = tables }) ≡ with_entries (shown c) (option_to_list (report s r n).entry)
    book_then = ap (λ es. record (shown c) { journal = es }) (items ∙ ap (λ (t : Step (Unit {0}) ReportRefused). c.journal.items ++ option_to_list t.entry) (sym done_is))
