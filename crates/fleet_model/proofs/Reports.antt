-- A ready event may be reported, and stays ready.
use Rattle.std.proofs.Common.{◌≡◌, ◌≢◌, ℕ, ◌+◌, ◌<◌, Bool, true, not, inl, inr, refl, sym, ap, ◌∙◌, subst, List, [], ◌∷◌, length, arith, eq-eqb, Option, Some, None}
use Rattle.std.proofs.lemmas.Bool.{both_ways, not-true, not_from_false, lt-ltb}
use Rattle.std.proofs.lemmas.Option.{slice_get_within}
use Rattle.std.specs.Prelude.{slice_get}
use Rattle.std.specs.Option.{option_map}
use Rattle.fleet_base.specs.declared.answers.ReportRefused.{ReportRefused}
use Rattle.fleet_base.specs.declared.entries.Act.{Act}
use Rattle.fleet_base.specs.declared.entries.Act.TheVariants.{Withdrawn, Reported}
use Rattle.fleet_base.specs.declared.entries.Entry.{Entry}
use Rattle.fleet_base.specs.declared.numbers.CellNo.{CellNo}
use Rattle.fleet_base.specs.declared.numbers.Event.{Event}
use Rattle.fleet_base.specs.declared.numbers.EventNo.{EventNo}
use Rattle.fleet_base.specs.declared.numbers.Kind.{Kind}
use Rattle.fleet_model.specs.Lists.{In, here, when, first_some}
use Rattle.fleet_model.specs.Sites.{IsSite}
use Rattle.fleet_model.specs.Replays.{AreSteps}
use Rattle.fleet_model.specs.Plans.{Fleet, own, kinds, unfinished, is_done, is_awaited, after, awaited, latest, IsBehind, IsReady, IsAllowed}
use Rattle.fleet_model.specs.States.{State, is_robot}
use Rattle.fleet_model.specs.Calls.{unless, unless_refused, report_refusals, report, accepted, reported, next_event, waits_on, is_number}
use Rattle.fleet_model.specs.Good.{IsAscending, IsGoodPlan, IsGood}
use Rattle.fleet_model.specs.Journals.{turn_at, IsJournal, report_entries}
use Rattle.fleet_model.specs.Sound.{IsWithdrawal}
use Rattle.fleet_model.proofs.Lists.{In-nil, In_either, In-filter, In_unfilter, In-map, none_in}
use Rattle.fleet_model.proofs.SameNumbers.{same_number}
use Rattle.fleet_model.proofs.Numbers.{from_one, IsAscending-own, IsAscending-filter, own_In, In_own, low_bound}
use Rattle.fleet_model.proofs.Readiness.{ready_merged, ready_reported}
use Rattle.fleet_model.proofs.Withdraw.{ready_withdrawn}
use Rattle.fleet_model.proofs.Accepted.{nothing}
use Rattle.fleet_model.proofs.GoodStates.{accepts_at, report_good}
use Rattle.fleet_model.proofs.Changes.{Change, Grew, Kept, Dropped, Cut, Did, changed, CanChange, Tells}
use Rattle.fleet_base.specs.declared.answers.ReportRefused.TheVariants as report_refused

-- a ready event is the first unfinished one of its robot
pub ready_next : (m : Fleet) (e : Event) → IsGoodPlan m → IsReady (IsBehind m.site.groups) m.plan m.finished e → next_event m e.robot.0 ≡ Some e
ready_next m e good ready = first (own e.robot.0 (unfinished m)) refl
  where
    undone : Event → Bool
    undone f = not (is_done m.finished f)

    left : In e (own e.robot.0 (unfinished m))
    left = In_own e.robot.0 (unfinished m) (In-filter undone m.plan ready.planned (not_from_false (is_done m.finished e) ready.undone)) refl

    first : (es : List Event) → own e.robot.0 (unfinished m) ≡ es → slice_get es 0 ≡ Some e
    first [] h = absurd (In-nil (subst (λ es. In e es) h left))
    first (f ∷ fs) h =
        In_either (subst (λ es. In e es) h left)
        (λ k. ap (λ x. Some x) (sym k))
        (λ k.
        let own_f = own_In e.robot.0 (unfinished m) (subst (λ es. In f es) (sym h) (here refl)) in
        let f_left = In_unfilter undone m.plan own_f.0 in
        let rises = subst (λ es. IsAscending 1 es) h (IsAscending-own e.robot.0 1 (unfinished m) (IsAscending-filter undone 1 m.plan (from_one m good))) in
        let l = low_bound (f.no.0 + 1) fs rises.1 k in
        let less : f.no.0 < e.no.0 = omega arith in
        absurd (both_ways (is_done m.finished f) (not-true (is_done m.finished f) f_left.1) (ready.waited f f_left.0 (inl (own_f.1, less)))))

-- and waits for nothing
pub ready_waits : (m : Fleet) (e : Event) → IsReady (IsBehind m.site.groups) m.plan m.finished e → waits_on m e ≡ None
ready_waits m e ready = ap (λ es. option_map (λ (f : Event). f.no) (latest es)) (none_in (awaited m e) none)
  where
    none : (f : Event) → In f (awaited m e) → ⊥
    none f i =
        let u = In_unfilter (λ g. not (is_done m.finished g)) (after m.site.groups m.plan e) i in
        let a = In_unfilter (is_awaited m.site.groups e) m.plan u.0 in
        both_ways (is_done m.finished f) (not-true (is_done m.finished f) u.1) (ready.waited f a.0 (inr a.1))

-- a robot that does something has a start
no_steps : (m : Fleet) (r : ℕ) (o : Option CellNo) → slice_get m.starts r ≡ o → AreSteps m.site o (kinds r m.plan) → (k : Kind) → In k (kinds r m.plan) → r < length m.starts
no_steps m r None s h k i = absurd (In-nil (subst (λ ks. In k ks) h i))
no_steps m r (Some a) s h k i = slice_get_within m.starts r a s

-- the robot of a planned event is one of the fleet
pub planned_robot : (m : Fleet) (e : Event) → IsGoodPlan m → In e m.plan → e.robot.0 < length m.starts
planned_robot m e good i =
    no_steps m e.robot.0 (slice_get m.starts e.robot.0) refl (good.walks e.robot.0) e.kind (In-map (λ (f : Event). f.kind) (own e.robot.0 m.plan) (In_own e.robot.0 m.plan i refl))

-- a report that no refusal fits is accepted
report_at : (s : State) (r : ℕ) (n : EventNo) (e : Event) (o : Option Event) → o ≡ Some e → is_robot s r ≡ true → is_number (Some e) n ≡ true → waits_on s.fleet e ≡ None
    → unless (report_refusals s r n o) s (accepted nothing r (Reported n) (record s { fleet = reported s.fleet o; count = s.count + 1 })) ≡ accepted nothing r (Reported n) (record s { fleet = reported s.fleet (Some e); count = s.count + 1 })
report_at s r n e o is known numbered waits =
    ap (λ x. unless (report_refusals s r n x) s (accepted nothing r (Reported n) (record s { fleet = reported s.fleet x; count = s.count + 1 }))) is
    ∙ ap (λ x. unless_refused (first_some x) s (accepted {E = ReportRefused} nothing r (Reported n) (record s { fleet = reported s.fleet (Some e); count = s.count + 1 }))) refusals
  where
    refusals : report_refusals s r n (Some e) ≡ None ∷ None ∷ None ∷ []
    refusals =
        ap (λ b. when (not b) report_refused.UnknownRobot ∷ when (not (is_number (Some e) n)) (report_refused.NotNext (Some e.no)) ∷ option_map (λ on. report_refused.Early on) (waits_on s.fleet e) ∷ []) known
        ∙ ap (λ b. None ∷ when (not b) (report_refused.NotNext (Some e.no)) ∷ option_map (λ on. report_refused.Early on) (waits_on s.fleet e) ∷ []) numbered
        ∙ ap (λ w. None ∷ None ∷ option_map (λ on. report_refused.Early on) w ∷ []) waits

-- a report of a ready event is accepted
pub report_accepted : (s : State) (e : Event) → IsGoodPlan s.fleet → IsReady (IsBehind s.fleet.site.groups) s.fleet.plan s.fleet.finished e
    → report s e.robot.0 e.no ≡ accepted nothing e.robot.0 (Reported e.no) (record s { fleet = reported s.fleet (Some e); count = s.count + 1 })
report_accepted s e good ready =
    report_at s e.robot.0 e.no e (next_event s.fleet e.robot.0) (ready_next s.fleet e good ready) (lt-ltb e.robot.0 (length s.fleet.starts) (planned_robot s.fleet e good ready.planned)) (eq-eqb e.no.0 e.no.0 refl) (ready_waits s.fleet e ready)

-- the reports of an allowed order are accepted, one after the other
pub reports_accepted : (s : State) (order : List Event) → IsGoodPlan s.fleet → IsAllowed s.fleet order → IsJournal s (report_entries order)
reports_accepted s [] good h = tt
reports_accepted s (e ∷ es) good h =
    let is = report_accepted s e good h.0 in (
      ap (λ x. x.entry) is,
      subst (λ n. IsJournal n (report_entries es)) (ap (λ x. x.after) (sym is)) (reports_accepted (record s { fleet = reported s.fleet (Some e); count = s.count + 1 }) es (report_good s.fleet e good h.0) h.1),
    )

-- a ready event stays ready but for its own report and its own robot's withdrawal
ready_still : (s : State) (r : ℕ) (c : Change) (a : Act) (e : Event) → IsGoodPlan s.fleet → Tells s r c a → CanChange s r c → a ≢ Reported e.no → (IsWithdrawal a → r ≢ e.robot.0) → IsReady (IsBehind s.fleet.site.groups) s.fleet.plan s.fleet.finished e
    → IsReady (IsBehind (changed s r c).fleet.site.groups) (changed s r c).fleet.plan (changed s r c).fleet.finished e
ready_still s r (Grew route) a e good tells can other own ready = ready_merged s.fleet r route e good ready
ready_still s r (Kept route) a e good tells can other own ready = ready
ready_still s r Dropped a e good tells can other own ready = ready
ready_still s r Cut (Withdrawn removed end) e good tells can other own ready = ready_withdrawn s.fleet r e good (own tt) ready
ready_still s r (Did f) (Reported event) e good tells can other own ready = ready_reported s.fleet e f (λ k. other (ap (λ n. Reported n) (sym tells ∙ same_number f.no e.no k))) ready
ready_still s r c a e good tells can other own ready = absurd tells

-- at each entry a ready event stays ready but for its own report and its own robot's withdrawal
pub ready_lasts : (s : State) (entry : Entry) (e : Event) → IsSite s.fleet.site → IsGood s → (turn_at s entry).entry ≡ Some entry → entry.act ≢ Reported e.no → (IsWithdrawal entry.act → entry.robot.0 ≢ e.robot.0) → IsReady (IsBehind s.fleet.site.groups) s.fleet.plan s.fleet.finished e
    → IsReady (IsBehind (turn_at s entry).after.fleet.site.groups) (turn_at s entry).after.fleet.plan (turn_at s entry).after.fleet.finished e
ready_lasts s entry e is_site good told other own ready =
    let a = accepts_at s entry is_site good told in
    subst (λ n. IsReady (IsBehind n.fleet.site.groups) n.fleet.plan n.fleet.finished e) (sym a.after_is) (ready_still s entry.robot.0 a.change entry.act e good.plan a.tells a.can other own ready)
