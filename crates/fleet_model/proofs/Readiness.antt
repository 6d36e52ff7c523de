-- When an event is ready over the events that are kept, and how long it stays so.
use Rattle.std.proofs.Common.{◌≡◌, ◌≢◌, ℕ, Bool, true, false, not, ◌⊎◌, inl, inr, sym, ap, ◌∙◌, List, [], ◌∷◌, ◌++◌}
use Rattle.std.proofs.lemmas.Bool.{cases_Bool, not-true, not_from_false}
use Rattle.std.specs.List.{filter}
use Rattle.fleet_base.specs.declared.numbers.CellNo.{CellNo}
use Rattle.fleet_base.specs.declared.numbers.ClaimGroup.{ClaimGroup}
use Rattle.fleet_base.specs.declared.numbers.Event.{Event}
use Rattle.fleet_model.specs.Lists.{In}
use Rattle.fleet_model.specs.Plans.{Fleet, after, is_done, is_awaited, IsReady, IsBehind, merged, withdrawn}
use Rattle.fleet_model.specs.Good.{IsGoodPlan}
use Rattle.fleet_model.proofs.Lists.{In-filter, In_unfilter, In_either}
use Rattle.fleet_model.proofs.Numbers.{done_neither, done_left, done_none}
use Rattle.fleet_model.proofs.Merge.{allowed_still}
use Rattle.fleet_model.proofs.Filters.{filter_swap}

-- the event is not among these
abbrev undone : List Event → Event → Bool
undone done e = not (is_done done e)

-- what an event waits for among the kept events is what it waits for in the plan and isn't done
pub after_kept : (groups : List ClaimGroup) (plan done : List Event) (e : Event) → after groups (filter (undone done) plan) e ≡ filter (undone done) (after groups plan e)
after_kept groups plan done e = filter_swap (is_awaited groups e) (undone done) plan

-- an event is ready where it is kept and no kept event is to come before it
pub ready_kept : (behind : Event → Event → Type 0) (plan done : List Event) (e : Event) → In e (filter (undone done) plan) → ((f : Event) → In f (filter (undone done) plan) → behind e f → ⊥) → IsReady behind plan done e
ready_kept behind plan done e i none =
    let u = In_unfilter (undone done) plan i in
    record { planned = u.0; undone = not-true (is_done done e) u.1; waited = λ f j b. there_or f j b (cases_Bool (is_done done f)) }
  where
    there_or : (f : Event) → In f plan → behind e f → (is_done done f ≡ true) ⊎ (is_done done f ≡ false) → is_done done f ≡ true
    there_or f j b (inl t) = t
    there_or f j b (inr n) = absurd (none f (In-filter (undone done) plan j (not_from_false (is_done done f) n)) b)

-- a ready event stays ready under a merge
pub ready_merged : (m : Fleet) (r : ℕ) (route : List CellNo) (e : Event) → IsGoodPlan m → IsReady (IsBehind m.site.groups) m.plan m.finished e → IsReady (IsBehind m.site.groups) (merged m r route).plan m.finished e
ready_merged m r route e good ready = (allowed_still m r route (e ∷ []) good (ready, tt)).0

-- a ready event stays ready when another event is reported
pub ready_reported : (m : Fleet) (e f : Event) → f.no.0 ≢ e.no.0 → IsReady (IsBehind m.site.groups) m.plan m.finished e → IsReady (IsBehind m.site.groups) m.plan (m.finished ++ f ∷ []) e
ready_reported m e f other ready = record {
  planned = ready.planned;
  undone = done_neither m.finished (f ∷ []) e ready.undone (done_none (f ∷ []) e (λ g i k. In_either i (λ h. other (ap (λ (x : Event). x.no.0) (sym h) ∙ k)) (λ j. elim j [ ])));
  waited = λ g i b. done_left m.finished (f ∷ []) g (ready.waited g i b);
}

-- a ready event that isn't withdrawn stays ready
pub ready_stays : (m : Fleet) (tail : List Event) (e : Event) → is_done tail e ≡ false → IsReady (IsBehind m.site.groups) m.plan m.finished e → IsReady (IsBehind m.site.groups) (withdrawn m tail).plan m.finished e
ready_stays m tail e kept ready = record {
  planned = In-filter (undone tail) m.plan ready.planned (not_from_false (is_done tail e) kept);
  undone = ready.undone;
  waited = λ f i b. ready.waited f (In_unfilter (undone tail) m.plan i).0 b;
}
