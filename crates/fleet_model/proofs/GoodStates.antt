-- Each accepted call keeps a state good.
use Rattle.std.proofs.Common.{◌≡◌, ◌≢◌, ℕ, ◌+◌, ◌*◌, ◌≤◌, true, inl, inr, refl, sym, ◌∙◌, subst, List, [], ◌∷◌, ◌++◌, length, arith, Option, Some, None, set, get_or}
use Rattle.std.proofs.lemmas.List.{length-set}
use Rattle.std.proofs.lemmas.Option.{same_Some}
use Rattle.std.specs.Prelude.{slice_get}
use Rattle.fleet_base.specs.declared.entries.Entry.{Entry}
use Rattle.fleet_base.specs.declared.limits.TheConstants.{MAX_COUNT}
use Rattle.fleet_base.specs.declared.numbers.CellNo.{CellNo}
use Rattle.fleet_base.specs.declared.numbers.ClaimNo.{ClaimNo}
use Rattle.fleet_base.specs.declared.numbers.Event.{Event}
use Rattle.fleet_model.specs.Sites.{Site, IsSite, in_conflict}
use Rattle.fleet_model.specs.Replays.{AreSteps}
use Rattle.fleet_model.specs.Plans.{Fleet, IsReady, IsBehind, IsRoute, end_of, merged, removable_tail, withdrawn}
use Rattle.fleet_model.specs.States.{State, opening_state, pending_of, owed}
use Rattle.fleet_model.specs.Good.{IsGoodPlan, IsGood, IsOpening, Opens}
use Rattle.fleet_model.specs.Journals.{turn_at, call_of, IsJournal, state_after}
use Rattle.fleet_model.proofs.Ends.{merged_end, route_still}
use Rattle.fleet_model.proofs.GoodMerge.{merge_good}
use Rattle.fleet_model.proofs.Accepted.{accepts}
use Rattle.fleet_model.proofs.StepCounts.{steps_few}
use Rattle.fleet_model.proofs.Withdraw.{withdrawn_good, withdrawn_end}
use Rattle.fleet_model.proofs.Changes.{Change, Grew, Kept, Dropped, Cut, Did, changed, CanChange, Accepts, changed_count, changed_cap, changed_first, changed_site}
use Rattle.fleet_model.proofs.Pending.{pending_cases}
use Rattle.fleet_model.proofs.Orders as orders

-- a report of a ready event keeps a plan good
pub report_good : (m : Fleet) (e : Event) → IsGoodPlan m → IsReady (IsBehind m.site.groups) m.plan m.finished e → IsGoodPlan (record m { finished = m.finished ++ e ∷ [] })
report_good m e good ready = record {
  numbers = good.numbers;
  first = good.first;
  opened = good.opened;
  next = good.next;
  walks = good.walks;
  finished = orders.IsOrder-append (IsBehind m.site.groups) m.plan [] m.finished (e ∷ []) good.finished (ready, tt);
  uses = good.uses;
}

-- each change that can be made keeps the plan good
pub changed_plan : (s : State) → IsSite s.fleet.site → IsGood s → (r : ℕ) (c : Change) → CanChange s r c → IsGoodPlan (changed s r c).fleet
changed_plan s is_site good r (Grew route) can = merge_good s.fleet r can.0.0 route is_site good.plan can.0.1 can.1 can.2
changed_plan s is_site good r (Kept route) can = good.plan
changed_plan s is_site good r Dropped can = good.plan
changed_plan s is_site good r Cut can = withdrawn_good s.fleet r good.plan
changed_plan s is_site good r (Did e) can = report_good s.fleet e good.plan can.1

-- the routes of the others stay legal where their ends stay
others_still : (s : State) → IsGood s → (n : Fleet) (r : ℕ) (x : Option (List CellNo)) → s.fleet.site ≡ n.site → ((q : ℕ) → (r ≡ q → ⊥) → end_of n q ≡ end_of s.fleet q) → ((route : List CellNo) → x ≡ Some route → IsRoute n r route)
    → (q : ℕ) (route : List CellNo) → get_or (set s.pending r x) q None ≡ Some route → IsRoute n q route
others_still s good n r x same ends new q route h =
    elim (pending_cases s.pending r q x route h)
    [ inl a ↦ subst (λ k. IsRoute n k route) a.0 (new route a.1) | inr a ↦ route_still s.fleet n q route same (sym (ends q a.0)) (good.routes q route a.1) ]

-- where nothing is pending, no route is
none_new : (n : Fleet) (r : ℕ) (route : List CellNo) → None ≡ Some route → IsRoute n r route
none_new n r route e = absurd (cc)

-- each change that can be made leaves pending routes legal
pub changed_routes : (s : State) → IsGood s → (r : ℕ) (c : Change) → CanChange s r c → (q : ℕ) (route : List CellNo) → pending_of (changed s r c) q ≡ Some route → IsRoute (changed s r c).fleet q route
changed_routes s good r (Grew new) can q route p = others_still s good (merged s.fleet r new) r None refl (merged_end s.fleet r new) (none_new (merged s.fleet r new) r) q route p
changed_routes s good r (Kept new) can q route p = others_still s good s.fleet r (Some new) refl (λ k e. refl) (λ other e. subst (λ x. IsRoute s.fleet r x) (same_Some new other e) can.1) q route p
changed_routes s good r Dropped can q route p = others_still s good s.fleet r None refl (λ k e. refl) (none_new s.fleet r) q route p
changed_routes s good r Cut can q route p = others_still s good (withdrawn s.fleet (removable_tail s.fleet r)) r None refl (λ k e. withdrawn_end s.fleet r k good.plan e) (none_new (withdrawn s.fleet (removable_tail s.fleet r)) r) q route p
changed_routes s good r (Did e) can q route p = let old = good.routes q route p in record { long = old.long; short = old.short; linked = old.linked; begins = old.begins }

-- each change leaves each robot its place for a pending route
changed_places : (s : State) → IsGood s → (r : ℕ) (c : Change) → length (changed s r c).pending ≡ length (changed s r c).fleet.starts
changed_places s good r (Grew route) = length-set s.pending r None ∙ good.places
changed_places s good r (Kept route) = length-set s.pending r (Some route) ∙ good.places
changed_places s good r Dropped = length-set s.pending r None ∙ good.places
changed_places s good r Cut = length-set s.pending r None ∙ good.places
changed_places s good r (Did e) = good.places

-- each change that can be made takes at most 7,161 numbers
changed_numbers : (s : State) → IsSite s.fleet.site → IsGood s → (r : ℕ) (c : Change) → CanChange s r c → (changed s r c).fleet.next ≤ (changed s r c).fleet.first + 7161 * (s.count + 1)
changed_numbers s is_site good r (Grew route) can = let n = steps_few s.fleet.site is_site route can.1.short in let old = good.numbers in omega arith
changed_numbers s is_site good r (Kept route) can = let old = good.numbers in omega arith
changed_numbers s is_site good r Dropped can = let old = good.numbers in omega arith
changed_numbers s is_site good r Cut can = let old = good.numbers in omega arith
changed_numbers s is_site good r (Did e) can = let old = good.numbers in omega arith

-- a change that can be made and has room, in the segment of this base, keeps a state good
pub changed_good : (s : State) → IsSite s.fleet.site → IsGood s → (r : ℕ) (c : Change) (base : ℕ) → CanChange s r c → base ≤ s.count → s.count + 1 + owed (changed s r c) ≤ base + s.cap → s.count + 1 + owed (changed s r c) ≤ MAX_COUNT
    → IsGood (record (changed s r c) { base = base })
changed_good s is_site good r c base can begun room total = record {
  plan = changed_plan s is_site good r c can;
  places = changed_places s good r c;
  routes = changed_routes s good r c can;
  first = rw (changed_first s r c) good.first;
  numbers = rw (changed_count s r c) (changed_numbers s is_site good r c can);
  base = rw (changed_count s r c) (omega (arith, begun));
  room = rw (changed_count s r c, changed_cap s r c) room;
  total = rw (changed_count s r c) total;
}

-- what an accepted call of an entry did
pub accepts_at : (s : State) (entry : Entry) → IsSite s.fleet.site → IsGood s → (turn_at s entry).entry ≡ Some entry → Accepts s entry.robot.0 entry (turn_at s entry).after
accepts_at s entry is_site good h = accepts s entry.robot.0 (call_of entry.act) entry is_site good h

-- an entry of a legal journal keeps the state good, and the site
pub turn_good : (s : State) (entry : Entry) → IsSite s.fleet.site → IsGood s → (turn_at s entry).entry ≡ Some entry → IsGood (turn_at s entry).after × IsSite (turn_at s entry).after.fleet.site
turn_good s entry is_site good h =
    let a = accepts_at s entry is_site good h in (
      subst IsGood (sym a.after_is) (changed_good s is_site good entry.robot.0 a.change a.base a.can a.begun a.room a.total),
      subst (λ t. IsSite t.fleet.site) (sym a.after_is) (subst IsSite (sym (changed_site s entry.robot.0 a.change)) is_site),
    )

-- the states of a journal are good
pub journal_good : (s : State) (journal : List Entry) → IsSite s.fleet.site → IsGood s → IsJournal s journal → IsGood (state_after s journal) × IsSite (state_after s journal).fleet.site
journal_good s [] is_site good h = (good, is_site)
journal_good s (entry ∷ entries) is_site good h =
    let t = turn_good s entry is_site good h.0 in
    journal_good (turn_at s entry).after entries t.1 t.0 h.1

-- an opening state is good
pub opening_good : (site : Site) (starts : List CellNo) (pending : List (Option (List CellNo))) (next cap : ℕ) → IsOpening site starts pending next cap → IsGood (opening_state site starts pending next cap)
opening_good site starts pending next cap h = record {
  plan = record {
    numbers = tt;
    first = h.first;
    opened = omega arith;
    next = λ e i. elim i [ ];
    walks = λ r. none (slice_get starts r);
    finished = tt;
    uses = λ r q c d a b ne conflict x y. absurd (both r q c d a b ne conflict x y);
  };
  places = h.places;
  routes = h.routes;
  first = h.bounded;
  numbers = omega arith;
  base = omega arith;
  room = (let r = h.room in omega arith);
  total = (let r = h.total in omega arith);
}
  where
    none : (o : Option CellNo) → AreSteps site o []
    none None = refl
    none (Some a) = ([], tt, refl)

    both : (r q : ℕ) (c d : ClaimNo) (a b : ℕ) → r ≢ q → in_conflict site.groups c d ≡ true → Opens (opening_state site starts pending next cap).fleet r c a → Opens (opening_state site starts pending next cap).fleet q d b → ⊥
    both r q c d a b ne conflict (inl x) (inl y) = h.apart r q c d ne conflict x.1 y.1
    both r q c d a b ne conflict (inr x) y = elim x.1 [ ]
    both r q c d a b ne conflict (inl x) (inr y) = elim y.1 [ ]
