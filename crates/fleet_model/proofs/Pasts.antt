-- A plan with a finished past in front of it shows what the plan shows alone.
use Rattle.std.proofs.Common.{◌≡◌, ℕ, ◌<◌, ◌≤◌, Bool, true, false, not, ◌||◌, inl, inr, refl, sym, ap, ◌∙◌, subst, List, [], ◌∷◌, ◌++◌, map, length, drop, arith, append_assoc, length-append, Option, Some, None}
use Rattle.std.proofs.lemmas.Bool.{both_ways, not_from_true, not_from_false, false_from_ne_true}
use Rattle.std.proofs.lemmas.List.{append_cancel_left, map-append}
use Rattle.std.proofs.lemmas.List.Elements.{filter-append}
use Rattle.std.proofs.Math.Seq.{drop-append_seam}
use Rattle.std.specs.Prelude.{slice_get}
use Rattle.std.specs.List.{filter}
use Rattle.std.specs.Option.{option_map, option_to_list}
use Rattle.fleet_base.specs.declared.numbers.CellNo.{CellNo}
use Rattle.fleet_base.specs.declared.numbers.Event.{Event}
use Rattle.fleet_base.specs.declared.numbers.Kind.{Kind}
use Rattle.fleet_model.specs.Lists.{In, here, there, numbers_below}
use Rattle.fleet_model.specs.Sites.{Site, IsWalkFrom, last_cell, moved_to, steps_from}
use Rattle.fleet_model.specs.Replays.{AreSteps, Spot, after_kinds, held_claims, opening, replay}
use Rattle.fleet_model.specs.Plans.{Fleet, after, awaited, cell_of, end_of, is_awaited, is_done, kinds, merged, own, removable_tail, IsRemovableTail, route_events, unfinished, withdrawn}
use Rattle.fleet_model.specs.Deferral.{ends}
use Rattle.fleet_model.specs.Calls.{reported}
use Rattle.fleet_model.specs.Good.{IsGoodPlan}
use Rattle.fleet_model.specs.Tables.{held_by}
use Rattle.fleet_model.proofs.Lists.{In-append_right, In-append_cases}
use Rattle.fleet_model.proofs.Alone.{after_kinds-append, replay_own}
use Rattle.fleet_model.proofs.Filters.{filter_all, filter_none}
use Rattle.fleet_model.proofs.Good.{awaited_less}
use Rattle.fleet_model.proofs.Numbers.{done_left, done_none, is_done-append, kinds-append, own_In, own-append}
use Rattle.fleet_model.proofs.Readiness.{after_kept}
use Rattle.fleet_model.proofs.Steps.{moved_to-append, moved_to-steps, steps-append, walk-append}
use Rattle.fleet_model.proofs.Tables.{filter_agree_in, table_same}
use Rattle.fleet_model.proofs.Tails.{tail_is, tail_longest}

-- the plan with a past in front of it: the past's starts, its events, and what it finished
abbrev pub with_past : Fleet → Fleet → Fleet
with_past p m = record m { starts = p.starts; plan = p.plan ++ m.plan; finished = p.finished ++ m.finished }

-- p is a past of the plan: all its events are finished, it leads each robot by whole steps to where it starts in the plan, and the plan's numbers come behind
pub record IsPast (p m : Fleet) : Type 0 where
  pub done : (e : Event) → In e p.plan → is_done p.finished e ≡ true
  pub planned : (e : Event) → In e p.finished → In e p.plan
  pub kinds_done : (r : ℕ) → kinds r p.finished ≡ kinds r p.plan
  pub early : (e : Event) → In e p.plan → e.no.0 < p.next
  pub late : (e : Event) → In e m.plan → p.next ≤ e.no.0
  pub next : p.next ≤ m.next
  pub count : length p.starts ≡ length m.starts
  pub walks : (r : ℕ) → AreSteps m.site (slice_get p.starts r) (kinds r p.plan)
  pub starts : (r : ℕ) → slice_get m.starts r ≡ option_map (λ a. last_cell a (moved_to (kinds r p.plan))) (slice_get p.starts r)
  pub settled : (r : ℕ) → after_kinds (opening m.site p.starts r) (kinds r p.plan) ≡ opening m.site m.starts r

-- a past of a plan is one of each later plan of the same robots
pub past_later : (p m n : Fleet) → IsPast p m → n.site ≡ m.site → n.starts ≡ m.starts → ((e : Event) → In e n.plan → p.next ≤ e.no.0) → m.next ≤ n.next → IsPast p n
past_later p m n past site starts late next = record {
  done = past.done;
  planned = past.planned;
  kinds_done = past.kinds_done;
  early = past.early;
  late = late;
  next = (let l = past.next in omega arith);
  count = past.count ∙ ap length (sym starts);
  walks = λ r. subst (λ (x : Site). AreSteps x (slice_get p.starts r) (kinds r p.plan)) (sym site) (past.walks r);
  starts = λ r. ap (λ xs. slice_get xs r) starts ∙ past.starts r;
  settled = λ r. ap (λ (x : Site). after_kinds (opening x p.starts r) (kinds r p.plan)) site ∙ (past.settled r ∙ λ i. opening (sym site i) (sym starts i) r);
}

-- a walk goes on behind its beginning
walk_behind : (site : Site) (a : CellNo) (front back : List CellNo) → IsWalkFrom site a (front ++ back) → IsWalkFrom site (last_cell a front) back
walk_behind site a [] back h = h
walk_behind site a (b ∷ bs) back h = walk_behind site b bs back h.1

-- the cell in which steps from a start end
abbrev end_behind : Option CellNo → List Kind → Option CellNo
end_behind o ks = option_map (λ a. last_cell a (moved_to ks)) o

-- steps, and steps from where they end, are steps
steps_more : (site : Site) (o : Option CellNo) (js ks : List Kind) → AreSteps site o js → AreSteps site (end_behind o js) ks → AreSteps site o (js ++ ks)
steps_more site None js ks h g = (λ i. h i ++ g i)
steps_more site (Some a) js ks h g =
    let same : moved_to js ≡ h.0 = ap moved_to h.2 ∙ moved_to-steps site a h.0 in
    let on : AreSteps site (Some (last_cell a h.0)) ks = subst (λ cs. AreSteps site (Some (last_cell a cs)) ks) same g in
    (h.0 ++ on.0, walk-append site a h.0 on.0 h.1 on.1, (λ i. h.2 i ++ on.2 i) ∙ sym (steps-append site a h.0 on.0))

-- of steps, what is behind a beginning that is steps is steps from where that ends
steps_less : (site : Site) (o : Option CellNo) (js ks : List Kind) → AreSteps site o js → AreSteps site o (js ++ ks) → AreSteps site (end_behind o js) ks
steps_less site None js ks h g = (λ i. sym h i ++ ks) ∙ g
steps_less site (Some a) js ks h g = subst (λ cs. AreSteps site (Some (last_cell a cs)) ks) (sym first) (
  moved_to ks,
  walk_behind site a h.0 (moved_to ks) (subst (λ cs. IsWalkFrom site a cs) whole g.1),
  append_cancel_left js ks (steps_from site (last_cell a h.0) (moved_to ks)) (g.2 ∙ (ap (steps_from site a) whole ∙ (steps-append site a h.0 (moved_to ks) ∙ ap (λ is. is ++ steps_from site (last_cell a h.0) (moved_to ks)) (sym h.2)))),
)
  where
    first : moved_to js ≡ h.0
    first = ap moved_to h.2 ∙ moved_to-steps site a h.0

    whole : g.0 ≡ h.0 ++ moved_to ks
    whole = sym (moved_to-steps site a g.0) ∙ (ap moved_to (sym g.2) ∙ (moved_to-append js ks ∙ ap (λ cs. cs ++ moved_to ks) first))

-- where two lists joined are two others joined, and none of the first is in the last, the third begins with the first
joined_twice : (xs ys us vs : List Event) → xs ++ ys ≡ us ++ vs → ((e : Event) → In e xs → In e vs → ⊥) → (ws : List Event) × (us ≡ xs ++ ws) × (ys ≡ ws ++ vs)
joined_twice [] ys us vs h apart = (us, refl, h)
joined_twice (x ∷ xs) ys [] vs h apart = absurd (apart x (here refl) (subst (λ zs. In x zs) h (here refl)))
joined_twice (x ∷ xs) ys (u ∷ us) vs h apart =
    let first : x ≡ u = cc in
    let rest : xs ++ ys ≡ us ++ vs = cc in
    let w = joined_twice xs ys us vs rest (λ e i. apart e (there i)) in
    (w.0, (λ i. sym first i ∷ w.1 i), w.2)

-- two ends of a list that are as long are one
same_end : (xs ys us vs : List Event) → xs ++ ys ≡ us ++ vs → length ys ≡ length vs → ys ≡ vs
same_end xs ys us vs h l =
    let before : length xs ≡ length us = omega (arith, length-append xs ys, length-append us vs, ap length h) in
    sym (drop-append_seam xs ys) ∙ ((λ i. drop (before i) (h i)) ∙ drop-append_seam us vs)

module _ (p m : Fleet) (past : IsPast p m) where
  abbrev whole : Fleet
  whole = with_past p m

  -- behind the past's events a robot is where it starts in the plan
  spot_same : (xs ys : List Event) (r : ℕ) → kinds r xs ≡ kinds r p.plan → replay (opening m.site p.starts) (xs ++ ys) r ≡ replay (opening m.site m.starts) ys r
  spot_same xs ys r same =
      replay_own (opening m.site p.starts) (xs ++ ys) r
      ∙ (ap (after_kinds (opening m.site p.starts r)) (kinds-append r xs ys ∙ ap (λ ks. ks ++ kinds r ys) same)
      ∙ (after_kinds-append (opening m.site p.starts r) (kinds r p.plan) (kinds r ys)
      ∙ (ap (λ s. after_kinds s (kinds r ys)) (past.settled r) ∙ sym (replay_own (opening m.site m.starts) ys r))))

  pub past_end : (r : ℕ) → end_of whole r ≡ end_of m r
  past_end r = ap (λ (s : Spot). s.cell) (spot_same p.plan m.plan r refl)

  pub past_cell : (r : ℕ) → cell_of whole r ≡ cell_of m r
  past_cell r = ap (λ (s : Spot). s.cell) (spot_same p.finished m.finished r (past.kinds_done r))

  pub past_held : (r : ℕ) → held_by whole r ≡ held_by m r
  past_held r = ap (held_claims m.site) (spot_same p.finished m.finished r (past.kinds_done r))

  pub past_ends : ends whole ≡ ends m
  past_ends = ap (λ n. map (end_of whole) (numbers_below n)) past.count ∙ table_same (end_of whole) (end_of m) (numbers_below (length m.starts)) past_end

  -- an event of the plan is done by the plan's own reports
  done_new : (e : Event) → In e m.plan → is_done whole.finished e ≡ is_done m.finished e
  done_new e i =
      is_done-append p.finished m.finished e
      ∙ ap (λ b. b || is_done m.finished e) (done_none p.finished e (λ g j same. let low = past.early g (past.planned g j) in let high = past.late e i in omega arith))

  pub past_unfinished : unfinished whole ≡ unfinished m
  past_unfinished =
      let undone : Event → Bool = λ e. not (is_done whole.finished e) in
      filter-append undone p.plan m.plan
      ∙ (ap (λ es. es ++ filter undone m.plan) (filter_none undone p.plan (λ e i. not_from_true (is_done whole.finished e) (done_left p.finished m.finished e (past.done e i))))
      ∙ filter_agree_in undone (λ e. not (is_done m.finished e)) m.plan (λ e i. ap not (done_new e i)))

  pub past_awaited : (e : Event) → awaited whole e ≡ awaited m e
  past_awaited e =
      sym (after_kept m.site.groups whole.plan whole.finished e)
      ∙ (ap (λ es. after m.site.groups es e) past_unfinished ∙ after_kept m.site.groups m.plan m.finished e)

  -- no event of the past stands behind one of the plan
  unawaited_old : (e f : Event) → In e p.plan → In f m.plan → is_awaited m.site.groups e f ≡ false
  unawaited_old e f i j = false_from_ne_true (is_awaited m.site.groups e f) (λ t. let l = awaited_less m.site.groups e f t in let low = past.early e i in let high = past.late f j in omega arith)

  -- what may be withdrawn from the plan may be so with the past in front of it
  tail_with : (r : ℕ) (tail : List Event) → IsRemovableTail m r tail → IsRemovableTail whole r tail
  tail_with r tail is = record {
    front = own r p.plan ++ is.front;
    splits = own-append r p.plan m.plan ∙ (ap (λ es. own r p.plan ++ es) is.splits ∙ sym (append_assoc (own r p.plan) is.front tail));
    rests = subst (AreSteps m.site (slice_get p.starts r)) (sym (map-append (λ (e : Event). e.kind) (own r p.plan) is.front))
        (steps_more m.site (slice_get p.starts r) (kinds r p.plan) (map (λ (e : Event). e.kind) is.front) (past.walks r) (subst (λ o. AreSteps m.site o (map (λ (e : Event). e.kind) is.front)) (past.starts r) is.rests));
    undone = λ f i. done_new f (planned f i) ∙ is.undone f i;
    unawaited = λ e f i j. elim (In-append_cases p.plan m.plan i) [ inl k ↦ unawaited_old e f k (planned f j) | inr k ↦ is.unawaited e f k j ];
  }
    where
      planned : (f : Event) → In f tail → In f m.plan
      planned f i = (own_In r m.plan (subst (λ es. In f es) (sym is.splits) (In-append_right is.front tail i))).0

  -- what may be withdrawn with the past in front of the plan may be withdrawn from the plan
  tail_without : (r : ℕ) (tail : List Event) → IsRemovableTail whole r tail → IsRemovableTail m r tail
  tail_without r tail is = record {
    front = w.0;
    splits = w.2;
    rests = subst (λ o. AreSteps m.site o (map (λ (e : Event). e.kind) w.0)) (sym (past.starts r))
        (steps_less m.site (slice_get p.starts r) (kinds r p.plan) (map (λ (e : Event). e.kind) w.0) (past.walks r)
        (subst (AreSteps m.site (slice_get p.starts r)) (ap (map (λ (e : Event). e.kind)) w.1 ∙ map-append (λ (e : Event). e.kind) (own r p.plan) w.0) is.rests));
    undone = λ f i. sym (done_new f (planned f i)) ∙ is.undone f i;
    unawaited = λ e f i j. is.unawaited e f (In-append_right p.plan m.plan i) j;
  }
    where
      w : (ws : List Event) × (is.front ≡ own r p.plan ++ ws) × (own r m.plan ≡ ws ++ tail)
      w = joined_twice (own r p.plan) (own r m.plan) is.front tail (sym (own-append r p.plan m.plan) ∙ is.splits)
          (λ e i j. both_ways (is_done whole.finished e) (is.undone e j) (done_left p.finished m.finished e (past.done e (own_In r p.plan i).0)))

      planned : (f : Event) → In f tail → In f m.plan
      planned f i = (own_In r m.plan (subst (λ es. In f es) (sym w.2) (In-append_right w.0 tail i))).0

  pub past_tail : IsGoodPlan m → IsGoodPlan whole → (r : ℕ) → removable_tail whole r ≡ removable_tail m r
  past_tail good good_whole r =
      let a = tail_without r (removable_tail whole r) (tail_is whole r good_whole) in
      let b = tail_is m r good in
      let more = tail_longest m r good (removable_tail whole r) a in
      let less = tail_longest whole r good_whole (removable_tail m r) (tail_with r (removable_tail m r) b) in
      same_end a.front (removable_tail whole r) b.front (removable_tail m r) (sym a.splits ∙ b.splits) (omega arith)

  -- a merge puts the route behind the past and the plan
  pub past_merged : (r : ℕ) (route : List CellNo) → merged whole r route ≡ with_past p (merged m r route)
  past_merged r route = λ i. record whole { plan = append_assoc p.plan m.plan (route_events m r route) i; next = (merged m r route).next }

  -- a report is finished behind the past and the plan
  pub past_reported : (event : Option Event) → reported whole event ≡ with_past p (reported m event)
  past_reported event = λ i. record whole { finished = append_assoc p.finished m.finished (option_to_list event) i }

  -- a withdrawal from the plan leaves the past
  pub past_withdrawn : (tail : List Event) → ((e : Event) → In e tail → In e m.plan) → withdrawn whole tail ≡ with_past p (withdrawn m tail)
  past_withdrawn tail planned =
      let kept : Event → Bool = λ e. not (is_done tail e) in
      let left : filter kept p.plan ≡ p.plan = filter_all kept p.plan (λ e i. not_from_false (is_done tail e) (done_none tail e (λ g j same. let low = past.early e i in let high = past.late g (planned g j) in omega arith))) in
      let all : filter kept (p.plan ++ m.plan) ≡ p.plan ++ filter kept m.plan = filter-append kept p.plan m.plan ∙ ap (λ es. es ++ filter kept m.plan) left in
      λ i. record whole { plan = all i }
