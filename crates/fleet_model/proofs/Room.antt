-- How much each change of a state leaves owed, and which routes it leaves pending.
use Rattle.std.proofs.Common.{zero, suc, ◌≡◌, ℕ, ◌+◌, ◌<◌, not, ◌==◌, refl, sym, ap, ◌∙◌, List, [], ◌∷◌, length, length-append, set, get_or, arith, eq-eqb, Option, Some, None}
use Rattle.std.proofs.lemmas.Bool.{ne_eqb, not_from_true, not_from_false}
use Rattle.std.proofs.lemmas.List.{set-get_or, get_or-set_same, get_or-set_other}
use Rattle.std.proofs.lemmas.List.Filters.{length-filter_both}
use Rattle.std.specs.List.{filter}
use Rattle.std.specs.Option.{is_some}
use Rattle.fleet_base.specs.declared.numbers.CellNo.{CellNo}
use Rattle.fleet_base.specs.declared.numbers.Event.{Event}
use Rattle.fleet_model.specs.Lists.{In, here, there}
use Rattle.fleet_model.specs.Sites.{steps}
use Rattle.fleet_model.specs.Plans.{Fleet, is_done, IsBehind, IsReady, merged, removable_tail, route_events, unfinished, withdrawn}
use Rattle.fleet_model.specs.States.{State, owed, pending_of}
use Rattle.fleet_model.specs.Calls.{deferring, moved, reported, with_route}
use Rattle.fleet_model.specs.Good.{IsAscending, IsGood, IsGoodPlan}
use Rattle.fleet_model.proofs.Filters.{filter_in, filter_out, filter_all}
use Rattle.fleet_model.proofs.Lists.{In-filter}
use Rattle.fleet_model.proofs.Numbered.{length-numbered}
use Rattle.fleet_model.proofs.Numbers.{from_one, IsAscending-filter, low_bound}
use Rattle.fleet_model.proofs.Pending.{emptied_less}
use Rattle.fleet_model.proofs.Tables.{tail_only, unfinished-merged, unfinished-reported, unfinished-withdrawn}
use Rattle.fleet_model.proofs.Tails.{tail_is}

module _ {A : Type 0} where
  -- a place that is empty already leaves as many
  pub emptied_same : (ps : List (Option A)) (r : ℕ) → get_or ps r None ≡ None → length (filter is_some (set ps r None)) ≡ length (filter is_some ps)
  emptied_same ps r h = ap (λ o. length (filter is_some (set ps r o))) (sym h) ∙ ap (λ qs. length (filter is_some qs)) (set-get_or ps r None)

  pub emptied_none : (ps : List (Option A)) (r : ℕ) → get_or (set ps r None) r None ≡ None
  emptied_none [] r = refl
  emptied_none (p ∷ ps) zero = refl
  emptied_none (p ∷ ps) (suc r) = emptied_none ps r

  -- an empty place that is filled adds one
  pub filled_more : (ps : List (Option A)) (r : ℕ) (x : A) → r < length ps → get_or ps r None ≡ None → length (filter is_some (set ps r (Some x))) ≡ length (filter is_some ps) + 1
  filled_more [] r x l h = absurd (omega arith)
  filled_more (None ∷ ps) zero x l h = omega arith
  filled_more (Some y ∷ ps) zero x l h = absurd (cc)
  filled_more (None ∷ ps) (suc r) x l h = filled_more ps r x (omega arith) h
  filled_more (Some y ∷ ps) (suc r) x l h = let k = filled_more ps r x (omega arith) h in omega arith

-- events that rise, without one of them, are one less
without_one : (low : ℕ) (es : List Event) (e : Event) → IsAscending low es → In e es → length (filter (λ f. not (f.no.0 == e.no.0)) es) + 1 ≡ length es
without_one low [] e h m = elim m [ ]
without_one low (f ∷ fs) e h (here i) =
    let same : f.no.0 ≡ e.no.0 = ap (λ (x : Event). x.no.0) (sym i) in
    let others : filter (λ (g : Event). not (g.no.0 == e.no.0)) fs ≡ fs = filter_all (λ (g : Event). not (g.no.0 == e.no.0)) fs (λ g j. not_from_false (g.no.0 == e.no.0) (ne_eqb g.no.0 e.no.0 (λ k. let l = low_bound (f.no.0 + 1) fs h.1 j in omega arith))) in
    let left : length (filter (λ (g : Event). not (g.no.0 == e.no.0)) (f ∷ fs)) ≡ length fs = ap length (filter_out (λ (g : Event). not (g.no.0 == e.no.0)) f fs (not_from_true (f.no.0 == e.no.0) (eq-eqb f.no.0 e.no.0 same)) ∙ others) in
    omega arith
without_one low (f ∷ fs) e h (there m) =
    let above = low_bound (f.no.0 + 1) fs h.1 m in
    let left : length (filter (λ (g : Event). not (g.no.0 == e.no.0)) (f ∷ fs)) ≡ length (f ∷ filter (λ (g : Event). not (g.no.0 == e.no.0)) fs) = ap length (filter_in (λ (g : Event). not (g.no.0 == e.no.0)) f fs (not_from_false (f.no.0 == e.no.0) (ne_eqb f.no.0 e.no.0 (λ k. omega arith)))) in
    let rest = without_one (f.no.0 + 1) fs e h.1 m in
    omega arith

-- a report leaves one unfinished event less
pub length-reported : (m : Fleet) (e : Event) → IsGoodPlan m → IsReady (IsBehind m.site.groups) m.plan m.finished e → length (unfinished (reported m (Some e))) + 1 ≡ length (unfinished m)
length-reported m e good ready =
    ap (λ es. length es + 1) (unfinished-reported m e)
    ∙ without_one 1 (unfinished m) e (IsAscending-filter (λ f. not (is_done m.finished f)) 1 m.plan (from_one m good)) (In-filter (λ f. not (is_done m.finished f)) m.plan ready.planned (not_from_false (is_done m.finished e) ready.undone))

-- a merge adds the events of the route
pub length-merged : (m : Fleet) (r : ℕ) (route : List CellNo) → IsGoodPlan m → length (unfinished (merged m r route)) ≡ length (unfinished m) + length (steps m.site route)
length-merged m r route good =
    let all = ap length (unfinished-merged m r route good) ∙ length-append (unfinished m) (route_events m r route) in
    let n = length-numbered m.next r (steps m.site route) in
    omega arith

-- a withdrawal takes the tail away
pub length-withdrawn : (m : Fleet) (r : ℕ) → IsGoodPlan m → length (unfinished (withdrawn m (removable_tail m r))) + length (removable_tail m r) ≡ length (unfinished m)
length-withdrawn m r good = cut (removable_tail m r) (ap length (unfinished-withdrawn m (removable_tail m r))) (ap length (tail_only m r (removable_tail m r) good (tail_is m r good)))
  where
    cut : (tail : List Event) → length (unfinished (withdrawn m tail)) ≡ length (filter (λ e. not (is_done tail e)) (unfinished m)) → length (filter (λ e. is_done tail e) (unfinished m)) ≡ length tail
        → length (unfinished (withdrawn m tail)) + length tail ≡ length (unfinished m)
    cut tail left gone = let both = length-filter_both (λ (e : Event). is_done tail e) (λ (e : Event). not (is_done tail e)) (λ e. refl) (unfinished m) in omega arith

module _ (s : State) (r : ℕ) where
  -- a merge of a route that wasn't pending owes its events
  pub merge_owes : (route : List CellNo) → IsGood s → pending_of s r ≡ None → owed (with_route s r route) ≡ owed s + length (steps s.fleet.site route)
  merge_owes route good none = let l = length-merged s.fleet r route good.plan in let k = emptied_same s.pending r none in omega arith

  -- a merge in place of a pending route owes the events, and the pending route no more
  pub retry_owes : (route old : List CellNo) → IsGood s → pending_of s r ≡ Some old → owed (with_route s r route) + 1 ≡ owed s + length (steps s.fleet.site route)
  retry_owes route old good some = let l = length-merged s.fleet r route good.plan in let k = emptied_less s.pending r old some in omega arith

  -- a deferral owes one route
  pub deferral_owes : (route : List CellNo) → IsGood s → r < length s.fleet.starts → pending_of s r ≡ None → owed (deferring s r route) ≡ owed s + 1
  deferral_owes route good l none = let p = good.places in let k = filled_more s.pending r route (omega arith) none in omega arith

  -- a dropped route isn't owed
  pub drop_owes : (old : List CellNo) → pending_of s r ≡ Some old → owed (moved s s.fleet r None) + 1 ≡ owed s
  drop_owes old some = let k = emptied_less s.pending r old some in omega arith

  -- withdrawn events aren't owed
  pub cut_owes : IsGood s → pending_of s r ≡ None → owed (moved s (withdrawn s.fleet (removable_tail s.fleet r)) r None) + length (removable_tail s.fleet r) ≡ owed s
  cut_owes good none = let l = length-withdrawn s.fleet r good.plan in let k = emptied_same s.pending r none in omega arith

  -- nor is the route that was pending
  pub cut_both_owes : (old : List CellNo) → IsGood s → pending_of s r ≡ Some old → owed (moved s (withdrawn s.fleet (removable_tail s.fleet r)) r None) + (length (removable_tail s.fleet r) + 1) ≡ owed s
  cut_both_owes old good some = let l = length-withdrawn s.fleet r good.plan in let k = emptied_less s.pending r old some in omega arith

  -- a robot's own place is what was put there
  pub pending_own : (fleet : Fleet) (route : Option (List CellNo)) → r < length s.pending → pending_of (moved s fleet r route) r ≡ route
  pending_own fleet route l = get_or-set_same s.pending r route None l

  -- a place that is emptied is empty, and so is one that isn't there
  pub pending_none : (fleet : Fleet) → pending_of (moved s fleet r None) r ≡ None
  pending_none fleet = emptied_none s.pending r

  -- the others' places stay
  pub pending_other : (fleet : Fleet) (route : Option (List CellNo)) (q : ℕ) → (r ≡ q → ⊥) → pending_of (moved s fleet r route) q ≡ pending_of s q
  pending_other fleet route q h = get_or-set_other s.pending r q route None (λ e. h (sym e))

-- a report owes one event less
pub report_owes : (s : State) (e : Event) → IsGood s → IsReady (IsBehind s.fleet.site.groups) s.fleet.plan s.fleet.finished e → owed (record s { fleet = reported s.fleet (Some e); count = s.count + 1 }) + 1 ≡ owed s
report_owes s e good ready = let l = length-reported s.fleet e good.plan ready in omega arith
