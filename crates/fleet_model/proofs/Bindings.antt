-- Cycles of deferral last, and stood since the last deferral of a member.
use Rattle.std.proofs.Common.{◌≡◌, ℕ, true, refl, sym, ap, ◌∙◌, subst, List, [], ◌∷◌, Some, None}
use Rattle.std.proofs.lemmas.Option.{same_Some}
use Rattle.std.specs.Prelude.{slice_get}
use Rattle.fleet_base.specs.declared.entries.Act.{Act}
use Rattle.fleet_base.specs.declared.entries.Act.TheVariants.{Merged, Deferred, Retried, Canceled, Withdrawn, Replanned, Reported}
use Rattle.fleet_base.specs.declared.entries.Entry.{Entry}
use Rattle.fleet_base.specs.declared.numbers.CellNo.{CellNo}
use Rattle.fleet_base.specs.declared.numbers.Event.{Event}
use Rattle.fleet_base.specs.declared.numbers.EventNo.{EventNo}
use Rattle.fleet_base.specs.declared.numbers.Kind.TheVariants.{Acquire}
use Rattle.fleet_model.specs.Lists.{In, here, there}
use Rattle.fleet_model.specs.Sites.{IsSite, in_conflict, footprint_of, has_claim, steps}
use Rattle.fleet_model.specs.Plans.{IsBlocker, end_of}
use Rattle.fleet_model.specs.States.{State, pending_of, IsDeferredOn}
use Rattle.fleet_model.specs.Good.{IsGoodPlan, IsGood}
use Rattle.fleet_model.specs.Journals.{turn_at, IsJournal, state_after}
use Rattle.fleet_model.specs.Sound.{IsCycle, IsChange, IsDeferral, IsTrueTo, NoneDefers}
use Rattle.fleet_model.proofs.Lists.{In_either}
use Rattle.fleet_model.proofs.Rotations.{cycle_closed, cycle_stands}
use Rattle.fleet_model.proofs.Ends.{merged_end}
use Rattle.fleet_model.proofs.GoodStates.{accepts_at, turn_good}
use Rattle.fleet_model.proofs.Withdraw.{withdrawn_end}
use Rattle.fleet_model.proofs.Changes.{Change, Grew, Kept, Dropped, Cut, Did, changed, CanChange, IsClear, Tells, changed_site, changed_starts}
use Rattle.fleet_model.proofs.Pending.{other_place, now_none}

-- a deferral is there as long as the pending route of the one and the end of the other stay
pub deferred_still : (s n : State) (r q : ℕ) → s.fleet.site ≡ n.fleet.site → s.fleet.starts ≡ n.fleet.starts → pending_of n r ≡ pending_of s r → end_of n.fleet q ≡ end_of s.fleet q → IsDeferredOn s r q → IsDeferredOn n r q
deferred_still s n r q site starts p e h = record {
  route = h.route;
  pending = p ∙ h.pending;
  claim = h.claim;
  blocker = record {
    needed = subst (λ x. In (Acquire h.claim) (steps x h.route)) site h.blocker.needed;
    other = h.blocker.other;
    start = h.blocker.start;
    starts = subst (λ x. slice_get x q ≡ Some h.blocker.start) starts h.blocker.starts;
    claim = h.blocker.claim;
    conflict = subst (λ x. in_conflict x.groups h.claim h.blocker.claim ≡ true) site h.blocker.conflict;
    holds = subst (λ x. has_claim (footprint_of x (end_of n.fleet q)) h.blocker.claim ≡ true) site (subst (λ a. has_claim (footprint_of s.fleet.site a) h.blocker.claim ≡ true) (sym e) h.blocker.holds);
  };
}

-- each member is deferred on a member
abbrev pub IsClosed : State → List ℕ → Type 0
IsClosed s members = (r : ℕ) → In r members → (q : ℕ) × In q members × IsDeferredOn s r q

-- a deferral between two robots, neither of which is the one that acts, is there before the change as after it
kept_apart : (s : State) → IsGoodPlan s.fleet → (t : ℕ) (c : Change) (r q : ℕ) → (t ≡ r → ⊥) → (t ≡ q → ⊥) → (pending_of (changed s t c) r ≡ pending_of s r) × (end_of (changed s t c).fleet q ≡ end_of s.fleet q)
kept_apart s good t (Grew route) r q apart free = (other_place s.pending t r None apart, merged_end s.fleet t route q free)
kept_apart s good t (Kept route) r q apart free = (other_place s.pending t r (Some route) apart, refl)
kept_apart s good t Dropped r q apart free = (other_place s.pending t r None apart, refl)
kept_apart s good t Cut r q apart free = (other_place s.pending t r None apart, withdrawn_end s.fleet t q good free)
kept_apart s good t (Did e) r q apart free = (refl, refl)

-- where the one that acts is no member, each deferral between members is there after the change
apart_still : (s : State) → IsGoodPlan s.fleet → (members : List ℕ) (t : ℕ) (c : Change) → (In t members → ⊥) → (r q : ℕ) → In r members → In q members → IsDeferredOn s r q → IsDeferredOn (changed s t c) r q
apart_still s good members t c out r q i j d =
    let k = kept_apart s good t c r q (λ e. out (subst (λ x. In x members) (sym e) i)) (λ e. out (subst (λ x. In x members) (sym e) j)) in
    deferred_still s (changed s t c) r q (sym (changed_site s t c)) (sym (changed_starts s t c)) k.0 k.1 d

-- and was there before it
apart_stood : (s : State) → IsGoodPlan s.fleet → (members : List ℕ) (t : ℕ) (c : Change) → (In t members → ⊥) → (r q : ℕ) → In r members → In q members → IsDeferredOn (changed s t c) r q → IsDeferredOn s r q
apart_stood s good members t c out r q i j d =
    let k = kept_apart s good t c r q (λ e. out (subst (λ x. In x members) (sym e) i)) (λ e. out (subst (λ x. In x members) (sym e) j)) in
    deferred_still (changed s t c) s r q (changed_site s t c) (changed_starts s t c) (sym k.0) (sym k.1) d

-- the change is the report of an event
abbrev IsReport : Change → Type 0
IsReport c = (e : Event) × (c ≡ Did e)

-- where no member acts, or the act is a report, each deferral between members is there after the change
stays_apart : (s : State) → IsGoodPlan s.fleet → (members : List ℕ) (t : ℕ) (c : Change) → (In t members → IsReport c) → (r q : ℕ) → In r members → In q members → IsDeferredOn s r q → IsDeferredOn (changed s t c) r q
stays_apart s good members t (Did e) out r q i j d = deferred_still s (changed s t (Did e)) r q refl refl refl refl d
stays_apart s good members t c out r q i j d = apart_still s good members t c (λ k. let x = out k in let y = x.1 in cc) r q i j d

module _ (s : State) (members : List ℕ) (closed : IsClosed s members) where
  -- a member has a route pending
  pends : (t : ℕ) → In t members → pending_of s t ≡ None → ⊥
  pends t i n = let d = (closed t i).2 in let p = d.pending in cc

  -- a member's pending route has a blocker
  blocked : (t : ℕ) (route : List CellNo) → In t members → pending_of s t ≡ Some route → IsClear s.fleet t route → ⊥
  blocked t route i p clear =
      let d = (closed t i).2 in
      clear d.claim (closed t i).0 (subst (λ x. IsBlocker s.fleet t x d.claim (closed t i).0) (same_Some d.route route (sym d.pending ∙ p)) d.blocker)

  -- a member that makes no change only reports
  pub only_reports : (t : ℕ) (c : Change) (a : Act) → CanChange s t c → Tells s t c a → (IsChange a → ⊥) → In t members → (e : Event) × (c ≡ Did e) × (a ≡ Reported e.no)
  only_reports t (Grew route) (Merged cells first) can tells keeps i = absurd (pends t i tells.1)
  only_reports t (Grew route) (Retried first) can tells keeps i = absurd (blocked t route i tells can.2)
  only_reports t (Grew route) (Replanned cells first) can tells keeps i = absurd (keeps tt)
  only_reports t (Kept route) a can tells keeps i = absurd (pends t i can.0)
  only_reports t Dropped Canceled can tells keeps i = absurd (keeps tt)
  only_reports t Cut (Withdrawn removed end) can tells keeps i = absurd (keeps tt)
  only_reports t (Did e) (Reported event) can tells keeps i = (e, refl, ap (λ n. Reported n) (sym tells))
  only_reports t c a can tells keeps i = absurd tells

-- members are deferred after the change: then the one that acts is none of them, reports, or defers a route
reports_or_defers : (s : State) (t : ℕ) (members : List ℕ) (c : Change) (a : Act) → Tells s t c a → IsClosed (changed s t c) members → (IsDeferral a → ⊥) → In t members → IsReport c
reports_or_defers s t members (Did e) a tells closed none i = (e, refl)
reports_or_defers s t members (Grew route) a tells closed none i = absurd (now_none s.pending t (closed t i).2.route (closed t i).2.pending)
reports_or_defers s t members (Kept route) (Deferred cells cycle) tells closed none i = absurd (none tt)
reports_or_defers s t members (Kept route) a tells closed none i = absurd tells
reports_or_defers s t members Dropped a tells closed none i = absurd (now_none s.pending t (closed t i).2.route (closed t i).2.pending)
reports_or_defers s t members Cut a tells closed none i = absurd (now_none s.pending t (closed t i).2.route (closed t i).2.pending)

-- where no member acts, or the act is a report, each deferral between members was there before the change
stood_apart : (s : State) → IsGoodPlan s.fleet → (members : List ℕ) (t : ℕ) (c : Change) → (In t members → IsReport c) → (r q : ℕ) → In r members → In q members → IsDeferredOn (changed s t c) r q → IsDeferredOn s r q
stood_apart s good members t (Did e) out r q i j d = deferred_still (changed s t (Did e)) s r q refl refl refl refl d
stood_apart s good members t c out r q i j d = apart_stood s good members t c (λ k. let x = out k in let y = x.1 in cc) r q i j d

-- one call after which a cycle stands, and in which a member only reports
pub turn_binds : (s : State) (members : List ℕ) (entry : Entry) → IsSite s.fleet.site → IsGood s → IsCycle s members → (turn_at s entry).entry ≡ Some entry → (In entry.robot.0 members → IsChange entry.act → ⊥)
    → IsCycle (turn_at s entry).after members × (In entry.robot.0 members → (n : EventNo) × (entry.act ≡ Reported n))
turn_binds s members entry is_site good cycle told keeps =
    let a = accepts_at s entry is_site good told in
    let t = entry.robot.0 in
    let closed : IsClosed s members = cycle_closed s members cycle in
    let reports : In t members → (e : Event) × (a.change ≡ Did e) × (entry.act ≡ Reported e.no) = λ i. only_reports s members closed t a.change entry.act a.can a.tells (keeps i) i in (
      subst (λ n. IsCycle n members) (sym a.after_is) (cycle_stands s (changed s t a.change) members (stays_apart s good.plan members t a.change (λ i. let r = reports i in (r.0, r.1))) cycle),
      λ i. let r = reports i in (r.0.no, r.2),
    )

-- a cycle lasts until a member changes, and until then its members only report
pub cycle_binds : (s : State) (members : List ℕ) (journal : List Entry) → IsSite s.fleet.site → IsGood s → IsCycle s members → IsJournal s journal → IsTrueTo members journal
    → IsCycle (state_after s journal) members × ((entry : Entry) → In entry journal → In entry.robot.0 members → (n : EventNo) × (entry.act ≡ Reported n))
cycle_binds s members [] is_site good cycle h true_to = (cycle, λ entry i j. elim i [ ])
cycle_binds s members (entry ∷ entries) is_site good cycle h true_to =
    let b = turn_binds s members entry is_site good cycle h.0 (true_to entry (here refl)) in
    let g = turn_good s entry is_site good h.0 in
    let rest = cycle_binds (turn_at s entry).after members entries g.1 g.0 b.0 h.1 (λ other i j. true_to other (there i) j) in (
      rest.0,
      λ other i j. In_either i
          (λ e. let r = b.1 (subst (λ (x : Entry). In x.robot.0 members) e j) in (r.0, ap (λ (x : Entry). x.act) e ∙ r.1))
          (λ k. rest.1 other k j),
    )

-- a cycle after entries, none of which is a deferral by a member, stood in front of them
pub cycle_stood : (s : State) (members : List ℕ) (journal : List Entry) → IsSite s.fleet.site → IsGood s → IsJournal s journal → IsCycle (state_after s journal) members → NoneDefers members journal → IsCycle s members
cycle_stood s members [] is_site good h cycle none = cycle
cycle_stood s members (entry ∷ entries) is_site good h cycle none =
    let a = accepts_at s entry is_site good h.0 in
    let t = entry.robot.0 in
    let g = turn_good s entry is_site good h.0 in
    let later : IsCycle (turn_at s entry).after members = cycle_stood (turn_at s entry).after members entries g.1 g.0 h.1 cycle (λ other i j. none other (there i) j) in
    let here_after : IsCycle (changed s t a.change) members = subst (λ n. IsCycle n members) a.after_is later in
    cycle_stands (changed s t a.change) s members (stood_apart s good.plan members t a.change (λ i. reports_or_defers s t members a.change entry.act a.tells (cycle_closed (changed s t a.change) members here_after) (none entry (here refl) i) i)) here_after
