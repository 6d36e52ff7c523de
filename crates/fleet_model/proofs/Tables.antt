-- How merges, reports and withdrawals change the tables beside a plan.
use Rattle.std.proofs.Common.{◌≡◌, ◌↔◌, ℕ, ◌+◌, ◌<◌, ◌≤◌, Bool, true, false, cond, not, ◌==◌, ◌||◌, ◌&&◌, ◌⊎◌, inl, inr, refl, sym, ap, ◌∙◌, subst, List, [], ◌∷◌, ◌++◌, map, length, set, get_or, arith, eq-eqb, Option, Some}
use Rattle.std.proofs.lemmas.Bool.{both_ways, cases_Bool, cases_eq, and_from, and_parts, eqb-true, ne_eqb, not_from_true, not_from_false, leb-true, le-leb, false_from_ne_true}
use Rattle.std.proofs.lemmas.List.{append-nil, length-set, get_or-set_same, get_or-set_other}
use Rattle.std.proofs.lemmas.List.Elements.{filter-append}
use Rattle.std.proofs.lemmas.List.FromFn.{fill_by_all, get_or-map-range_with_len, length-map-range_with_len}
use Rattle.std.proofs.lemmas.Option.{slice_get-get_or}
use Rattle.std.specs.Prelude.{slice_get, slice_set, nat_le}
use Rattle.std.specs.List.{filter}
use Rattle.fleet_base.specs.declared.numbers.CellNo.{CellNo}
use Rattle.fleet_base.specs.declared.numbers.ClaimNo.{ClaimNo}
use Rattle.fleet_base.specs.declared.numbers.Event.{Event}
use Rattle.fleet_base.specs.declared.numbers.Kind.{Kind}
use Rattle.fleet_base.specs.declared.numbers.Kind.TheVariants.{Acquire, Move, Release}
use Rattle.fleet_model.specs.Lists.{In, here, there, numbers_below}
use Rattle.fleet_model.specs.Sites.{Site, footprint_of, last_cell, step, steps, steps_from, without}
use Rattle.fleet_model.specs.Replays.{Spot, Spots, after_event, after_kind, after_kinds, opening, replay, start_at}
use Rattle.fleet_model.specs.Plans.{Fleet, cell_of, end_of, is_done, IsBehind, kinds, merged, own, removable_tail, IsRemovableTail, route_events, unfinished, withdrawn}
use Rattle.fleet_model.specs.Deferral.{ends}
use Rattle.fleet_model.specs.States.{opening_state}
use Rattle.fleet_model.specs.Calls.{reported}
use Rattle.fleet_model.specs.Good.{IsAscending, IsGoodPlan}
use Rattle.fleet_model.specs.Tables.{places}
use Rattle.fleet_model.proofs.Alone.{after_kinds-append}
use Rattle.fleet_model.proofs.Ends.{merged_end}
use Rattle.fleet_model.proofs.Filters.{filter_in, filter_out, filter_swap, filter_all, filter_none}
use Rattle.fleet_model.proofs.Good.{end_is}
use Rattle.fleet_model.proofs.Lists.{In-append_right, In-append_cases, In_either, In_unfilter}
use Rattle.fleet_model.proofs.Numbered.{numbered-ascending, kinds-numbered}
use Rattle.fleet_model.proofs.Numbers.{ascending_apart, ascending_behind, done_event, done_in, done_none, from_one, In_own, IsAscending-filter, IsAscending-own, is_done-append, low_bound, one_event, own_In, kinds-append}
use Rattle.fleet_model.proofs.Safe.{own_behind}
use Rattle.fleet_model.proofs.Withdraw.{withdrawn_end}
use Rattle.fleet_model.proofs.Orders as orders

module _ {X : Type 0} (f g : ℕ → X) (n r : ℕ) (x : X) (other : (q : ℕ) → (r ≡ q → ⊥) → f q ≡ g q) (own : f r ≡ x) where
  -- at each place the table of the one is that of the other with x at r
  set_at : (k : ℕ) → k < n → (r ≡ k) ⊎ (r ≡ k → ⊥) → get_or (set (map g (numbers_below n)) r x) k x ≡ f k
  set_at k l (inl e) = ap (λ i. get_or (set (map g (numbers_below n)) i x) k x) e ∙ (get_or-set_same (map g (numbers_below n)) k x x (omega (arith, length-map-range_with_len g 0 n)) ∙ (sym own ∙ ap f e))
  set_at k l (inr e) = get_or-set_other (map g (numbers_below n)) r k x x (λ h. e (sym h)) ∙ (get_or-map-range_with_len g 0 n k k x l (omega arith) ∙ sym (other k e))

  -- a table that differs at r alone has x there
  pub table_set : map f (numbers_below n) ≡ slice_set (map g (numbers_below n)) r x
  table_set = sym (fill_by_all f (set (map g (numbers_below n)) r x) n x (length-set (map g (numbers_below n)) r x ∙ length-map-range_with_len g 0 n) (λ k l. set_at k l (cases_eq r k)))

-- tables that differ nowhere are one
pub table_same : {X : Type 0} (f g : ℕ → X) (ns : List ℕ) → ((q : ℕ) → f q ≡ g q) → map f ns ≡ map g ns
table_same f g [] h = refl
table_same f g (k ∷ ks) h = (λ i. h k i ∷ table_same f g ks h i)

-- a table has for each robot what is its own
pub table_get : {X : Type 0} (f : ℕ → X) (n r : ℕ) → r < n → slice_get (map f (numbers_below n)) r ≡ Some (f r)
table_get f n r l = slice_get-get_or (map f (numbers_below n)) r (f r) (omega (arith, length-map-range_with_len f 0 n)) ∙ ap (λ y. Some y) (get_or-map-range_with_len f 0 n r r (f r) l (omega arith))

-- with or without one more element two tests pass what both pass
both_step : {A : Type 0} (p : A → Bool) (x : A) (zs : List A) (a b : Bool) → p x ≡ b → cond (a && b) (x ∷ filter p zs) (filter p zs) ≡ filter p (cond a (x ∷ zs) zs)
both_step p x zs true true h = sym (filter_in p x zs h)
both_step p x zs true false h = sym (filter_out p x zs h)
both_step p x zs false b h = refl

-- what passes a test that is two is what passes the one of what passes the other
pub filter_both : {A : Type 0} (s p q : A → Bool) (xs : List A) → ((x : A) → s x ≡ (q x && p x)) → filter s xs ≡ filter p (filter q xs)
filter_both s p q [] h = refl
filter_both s p q (x ∷ xs) h =
    ap (λ zs. cond (s x) (x ∷ zs) zs) (filter_both s p q xs h)
    ∙ (ap (λ b. cond b (x ∷ filter p (filter q xs)) (filter p (filter q xs))) (h x) ∙ both_step p x (filter q xs) (q x) (p x) refl)

agree_step : {A : Type 0} (x : A) (ys zs : List A) (a b : Bool) → a ≡ b → ys ≡ zs → cond a (x ∷ ys) ys ≡ cond b (x ∷ zs) zs
agree_step x ys zs a b e h = λ i. cond (e i) (x ∷ h i) (h i)

-- tests that agree on the elements pass the same
pub filter_agree_in : {A : Type 0} (p q : A → Bool) (xs : List A) → ((x : A) → In x xs → p x ≡ q x) → filter p xs ≡ filter q xs
filter_agree_in p q [] h = refl
filter_agree_in p q (x ∷ xs) h = agree_step x (filter p xs) (filter q xs) (p x) (q x) (h x (here refl)) (filter_agree_in p q xs (λ y i. h y (there i)))

-- merges

-- what is finished is planned, and of each robot's events it is the first ones
pub finished_kept : (m : Fleet) → IsGoodPlan m → orders.IsKept (IsBehind m.site.groups) m.plan m.finished
finished_kept m good = orders.order_kept (IsBehind m.site.groups) m.plan (from_one m good) (own_behind m.site) [] m.finished (orders.kept_none (IsBehind m.site.groups) m.plan) good.finished

-- the events of a route aren't finished
route_undone : (m : Fleet) (r : ℕ) (route : List CellNo) → IsGoodPlan m → (e : Event) → In e (route_events m r route) → is_done m.finished e ≡ false
route_undone m r route good e i =
    done_none m.finished e (λ g j n.
    let old = good.next g ((finished_kept m good).planned g j) in
    let new = low_bound m.next (route_events m r route) (numbered-ascending m.next r (steps m.site route)) i in
    omega arith)

pub unfinished-merged : (m : Fleet) (r : ℕ) (route : List CellNo) → IsGoodPlan m → unfinished (merged m r route) ≡ unfinished m ++ route_events m r route
unfinished-merged m r route good =
    filter-append (λ (e : Event). not (is_done m.finished e)) m.plan (route_events m r route)
    ∙ ap (λ es. unfinished m ++ es) (filter_all (λ (e : Event). not (is_done m.finished e)) (route_events m r route) (λ e i. not_from_false (is_done m.finished e) (route_undone m r route good e i)))

abbrev acquires : List ClaimNo → List Kind
acquires cs = map (λ c. Acquire c) cs

abbrev releases : List ClaimNo → List Kind
releases cs = map (λ c. Release c) cs

releases-cell : (s : Spot) (cs : List ClaimNo) → (after_kinds s (releases cs)).cell ≡ s.cell
releases-cell s [] = refl
releases-cell s (c ∷ cs) = releases-cell (after_kind (Release c) s) cs

step-cell : (site : Site) (s : Spot) (a b : CellNo) → (after_kinds s (step site a b)).cell ≡ b
step-cell site s a b =
    let new : List ClaimNo = without (footprint_of site b) (footprint_of site a) in
    let old : List ClaimNo = without (footprint_of site a) (footprint_of site b) in
    ap (λ (t : Spot). t.cell) (after_kinds-append s (acquires new) (Move a b ∷ releases old)) ∙ releases-cell (after_kind (Move a b) (after_kinds s (acquires new))) old

-- behind a walk a robot is in its last cell
walk-cell : (site : Site) (s : Spot) (a b : CellNo) (bs : List CellNo) → (after_kinds s (steps_from site a (b ∷ bs))).cell ≡ last_cell b bs
walk-cell site s a b [] = ap (λ (t : Spot). t.cell) (after_kinds-append s (step site a b) []) ∙ step-cell site s a b
walk-cell site s a b (c ∷ cs) = ap (λ (t : Spot). t.cell) (after_kinds-append s (step site a b) (steps_from site b (c ∷ cs))) ∙ walk-cell site (after_kinds s (step site a b)) b c cs

-- behind a merge of two cells at least a robot ends in the last one
merged_own_end : (m : Fleet) (r : ℕ) (a : CellNo) (bs : List CellNo) → 2 ≤ length (a ∷ bs) → end_of (merged m r (a ∷ bs)) r ≡ last_cell a bs
merged_own_end m r a [] l = absurd (omega arith)
merged_own_end m r a (b ∷ bs) l =
    let ks : List Kind = steps_from m.site a (b ∷ bs) in
    let all : kinds r (merged m r (a ∷ b ∷ bs)).plan ≡ kinds r m.plan ++ ks = kinds-append r m.plan (route_events m r (a ∷ b ∷ bs)) ∙ ap (λ js. kinds r m.plan ++ js) (kinds-numbered m.next r ks) in
    end_is (merged m r (a ∷ b ∷ bs)) r
    ∙ (ap (λ js. (after_kinds (opening m.site m.starts r) js).cell) all
    ∙ (ap (λ (t : Spot). t.cell) (after_kinds-append (opening m.site m.starts r) (kinds r m.plan) ks) ∙ walk-cell m.site (after_kinds (opening m.site m.starts r) (kinds r m.plan)) a b bs))

pub ends-merged : (m : Fleet) (r : ℕ) (a : CellNo) (bs : List CellNo) → 2 ≤ length (a ∷ bs) → ends (merged m r (a ∷ bs)) ≡ slice_set (ends m) r (last_cell a bs)
ends-merged m r a bs l = table_set (end_of (merged m r (a ∷ bs))) (end_of m) (length m.starts) r (last_cell a bs) (merged_end m r (a ∷ bs)) (merged_own_end m r a bs l)

-- reports

pub replay-append : (spots : Spots) (xs ys : List Event) (q : ℕ) → replay spots (xs ++ ys) q ≡ replay (replay spots xs) ys q
replay-append spots [] ys q = refl
replay-append spots (x ∷ xs) ys q = replay-append (after_event x spots) xs ys q

-- where a robot is by what was reported
abbrev pub now : Fleet → ℕ → Spot
now m q = replay (opening m.site m.starts) m.finished q

-- a report moves its own robot on
pub now-own : (m : Fleet) (e : Event) → now (reported m (Some e)) e.robot.0 ≡ after_kind e.kind (now m e.robot.0)
now-own m e =
    replay-append (opening m.site m.starts) m.finished (e ∷ []) e.robot.0
    ∙ ap (λ b. cond b (after_kind e.kind (now m e.robot.0)) (now m e.robot.0)) (eq-eqb e.robot.0 e.robot.0 refl)

-- and leaves the others
pub now-other : (m : Fleet) (e : Event) (q : ℕ) → (e.robot.0 ≡ q → ⊥) → now (reported m (Some e)) q ≡ now m q
now-other m e q h =
    replay-append (opening m.site m.starts) m.finished (e ∷ []) q
    ∙ ap (λ b. cond b (after_kind e.kind (now m q)) (now m q)) (ne_eqb e.robot.0 q h)

pub same_test : (x y : ℕ) → (x == y) ≡ (y == x)
same_test x y = elim (cases_eq x y) [ inl e ↦ eq-eqb x y e ∙ sym (eq-eqb y x (sym e)) | inr n ↦ ne_eqb x y n ∙ sym (ne_eqb y x (λ e. n (sym e))) ]

split_done : (x y z : Bool) → y ≡ z → not (x || (y || false)) ≡ (not x && not z)
split_done true y z h = refl
split_done false true z h = ap (λ b. not b) h
split_done false false z h = ap (λ b. not b) h

pub unfinished-reported : (m : Fleet) (e : Event) → unfinished (reported m (Some e)) ≡ filter (λ f. not (f.no.0 == e.no.0)) (unfinished m)
unfinished-reported m e =
    filter_both (λ (f : Event). not (is_done (m.finished ++ e ∷ []) f)) (λ (f : Event). not (f.no.0 == e.no.0)) (λ (f : Event). not (is_done m.finished f)) m.plan
    (λ f. ap (λ b. not b) (is_done-append m.finished (e ∷ []) f) ∙ split_done (is_done m.finished f) (e.no.0 == f.no.0) (f.no.0 == e.no.0) (same_test e.no.0 f.no.0))

pub places-moved : (m : Fleet) (e : Event) (a b : CellNo) → e.kind ≡ Move a b → places (reported m (Some e)) ≡ slice_set (places m) e.robot.0 b
places-moved m e a b k =
    table_set (cell_of (reported m (Some e))) (cell_of m) (length m.starts) e.robot.0 b
    (λ q h. ap (λ (t : Spot). t.cell) (now-other m e q h))
    (ap (λ (t : Spot). t.cell) (now-own m e) ∙ ap (λ j. (after_kind j (now m e.robot.0)).cell) k)

-- what doesn't move leaves the cell
stays-put : (k : Kind) (s : Spot) → ((a b : CellNo) → k ≡ Move a b → ⊥) → (after_kind k s).cell ≡ s.cell
stays-put (Acquire c) s h = refl
stays-put (Move a b) s h = absurd (h a b refl)
stays-put (Release c) s h = refl

pub places-stay : (m : Fleet) (e : Event) → ((a b : CellNo) → e.kind ≡ Move a b → ⊥) → places (reported m (Some e)) ≡ places m
places-stay m e h = table_same (cell_of (reported m (Some e))) (cell_of m) (numbers_below (length m.starts)) (λ q. go q (cases_eq e.robot.0 q))
  where
    go : (q : ℕ) → (e.robot.0 ≡ q) ⊎ (e.robot.0 ≡ q → ⊥) → cell_of (reported m (Some e)) q ≡ cell_of m q
    go q (inl i) = subst (λ k. cell_of (reported m (Some e)) k ≡ cell_of m k) i (ap (λ (t : Spot). t.cell) (now-own m e) ∙ stays-put e.kind (now m e.robot.0) h)
    go q (inr n) = ap (λ (t : Spot). t.cell) (now-other m e q n)

-- an acquire or a release leaves the cells
pub places-other : (m : Fleet) (e : Event) (c : ClaimNo) → (e.kind ≡ Acquire c) ⊎ (e.kind ≡ Release c) → places (reported m (Some e)) ≡ places m
places-other m e c (inl k) = places-stay m e (λ a b j. let h : Acquire c ≡ Move a b = sym k ∙ j in absurd (cc))
places-other m e c (inr k) = places-stay m e (λ a b j. let h : Release c ≡ Move a b = sym k ∙ j in absurd (cc))

-- withdrawals

pub unfinished-withdrawn : (m : Fleet) (tail : List Event) → unfinished (withdrawn m tail) ≡ filter (λ e. not (is_done tail e)) (unfinished m)
unfinished-withdrawn m tail = filter_swap (λ e. not (is_done m.finished e)) (λ e. not (is_done tail e)) m.plan

pub ends-withdrawn : (m : Fleet) (r : ℕ) → IsGoodPlan m → ends (withdrawn m (removable_tail m r)) ≡ slice_set (ends m) r (end_of (withdrawn m (removable_tail m r)) r)
ends-withdrawn m r good =
    table_set (end_of (withdrawn m (removable_tail m r))) (end_of m) (length m.starts) r (end_of (withdrawn m (removable_tail m r)) r) (λ q h. withdrawn_end m r q good h) refl

and_right : (b : Bool) → (b && false) ≡ false
and_right true = refl
and_right false = refl

module _ (m : Fleet) (r : ℕ) (tail : List Event) (good : IsGoodPlan m) (is : IsRemovableTail m r tail) where
  abbrev undone : Event → Bool
  undone e = not (is_done m.finished e)

  abbrev goes : Event → Bool
  goes e = is_done tail e

  abbrev is_own : Event → Bool
  is_own e = e.robot.0 == r

  -- the tail is the last of the robot's unfinished events
  pub own_left : (front : List Event) × (own r (unfinished m) ≡ front ++ tail)
  own_left = (
    filter undone is.front,
    filter_swap is_own undone m.plan
        ∙ (ap (λ es. filter undone es) is.splits
        ∙ (filter-append undone is.front tail ∙ ap (λ es. filter undone is.front ++ es) (filter_all undone tail (λ e i. not_from_false (is_done m.finished e) (is.undone e i))))),
  )

  -- the robot's unfinished events rise
  rises : IsAscending 1 (own_left.0 ++ tail)
  rises = subst (λ es. IsAscending 1 es) own_left.1 (IsAscending-own r 1 (unfinished m) (IsAscending-filter undone 1 m.plan (from_one m good)))

  -- an event of the tail is unfinished, and the robot's
  pub tail_own : (e : Event) → In e tail → In e (unfinished m) × (e.robot.0 ≡ r)
  tail_own e i = own_In r (unfinished m) (subst (λ es. In e es) (sym own_left.1) (In-append_right own_left.0 tail i))

  -- an unfinished event that goes is one of the tail
  goes_in : (e : Event) → In e (unfinished m) → goes e ≡ true → In e tail
  goes_in e i t =
      let f : (f : Event) × In f tail × (f.no.0 ≡ e.no.0) = done_event e tail t in
      subst (λ x. In x tail) (one_event 1 m.plan (from_one m good) (In_unfilter undone m.plan (tail_own f.0 f.1).0).0 (In_unfilter undone m.plan i).0 f.2) f.1

  goes_own : (e : Event) → In e (unfinished m) → (goes e ≡ true) ⊎ (goes e ≡ false) → goes e ≡ (is_own e && goes e)
  goes_own e i (inl t) = ap (λ b. b && goes e) (sym (eq-eqb e.robot.0 r (tail_own e (goes_in e i t)).1))
  goes_own e i (inr f) = f ∙ (sym (and_right (is_own e)) ∙ ap (λ b. is_own e && b) (sym f))

  -- of the unfinished events just those of the tail go
  pub tail_only : filter goes (unfinished m) ≡ tail
  tail_only =
      filter_agree_in goes (λ e. is_own e && goes e) (unfinished m) (λ e i. goes_own e i (cases_Bool (goes e)))
      ∙ (filter_both (λ (e : Event). is_own e && goes e) goes is_own (unfinished m) (λ e. refl)
      ∙ (ap (λ es. filter goes es) own_left.1
      ∙ (filter-append goes own_left.0 tail
      ∙ (ap (λ es. es ++ filter goes tail) (filter_none goes own_left.0 (λ e i. done_none tail e (λ g j n. let l = ascending_apart 1 own_left.0 tail rises i j in omega arith)))
      ∙ filter_all goes tail (λ e i. done_in tail i)))))

  -- what is left of the robot's unfinished events stands in front of the tail
  pub own_before : own r (unfinished m) ≡ own r (unfinished (withdrawn m tail)) ++ tail
  own_before = own_left.1 ∙ ap (λ es. es ++ tail) (sym left)
    where
      stays : Event → Bool
      stays e = not (is_done tail e)

      left : own r (unfinished (withdrawn m tail)) ≡ own_left.0
      left =
          ap (λ es. own r es) (unfinished-withdrawn m tail)
          ∙ (filter_swap is_own stays (unfinished m)
          ∙ (ap (λ es. filter stays es) own_left.1
          ∙ (filter-append stays own_left.0 tail
          ∙ (ap (λ es. es ++ filter stays tail) (filter_all stays own_left.0 (λ e i. not_from_false (is_done tail e) (done_none tail e (λ g j n. let l = ascending_apart 1 own_left.0 tail rises i j in omega arith))))
          ∙ (ap (λ es. own_left.0 ++ es) (filter_none stays tail (λ e i. not_from_true (is_done tail e) (done_in tail i))) ∙ append-nil own_left.0)))))

  -- another robot's unfinished events stay
  pub own_others : (q : ℕ) → (r ≡ q → ⊥) → own q (unfinished (withdrawn m tail)) ≡ own q (unfinished m)
  own_others q apart =
      ap (λ es. own q es) (unfinished-withdrawn m tail)
      ∙ (filter_swap (λ e. e.robot.0 == q) (λ e. not (goes e)) (unfinished m)
      ∙ filter_all (λ e. not (goes e)) (own q (unfinished m)) (λ e i.
      let o = own_In q (unfinished m) i in
      not_from_false (goes e) (false_from_ne_true (goes e) (λ t. apart (sym (tail_own e (goes_in e o.0 t)).1 ∙ o.1)))))

  module _ (t : Event) (ts : List Event) (begins : tail ≡ t ∷ ts) where
    -- the tail's first is in it
    first_of_tail : In t tail
    first_of_tail = subst (λ es. In t es) (sym begins) (here refl)

    -- where the tail begins with t, an unfinished event is in it where it is the robot's and its number isn't below t's
    pub tail_from : (e : Event) → In e (unfinished m) → In e tail ↔ ((e.robot.0 ≡ r) × (t.no.0 ≤ e.no.0))
    tail_from e i = (λ j. ((tail_own e j).1, from_first j), λ h. late h (In-append_cases own_left.0 tail (subst (λ es. In e es) own_left.1 (In_own r (unfinished m) i h.0))))
      where
        from_first : In e tail → t.no.0 ≤ e.no.0
        from_first j =
            let rest : IsAscending 1 (t ∷ ts) = subst (λ es. IsAscending 1 es) begins (ascending_behind 1 own_left.0 tail rises) in
            In_either (subst (λ es. In e es) begins j) (λ k. omega (arith, ap (λ (x : Event). x.no.0) k)) (λ k. let b = low_bound (t.no.0 + 1) ts rest.1 k in omega arith)

        late : (e.robot.0 ≡ r) × (t.no.0 ≤ e.no.0) → In e own_left.0 ⊎ In e tail → In e tail
        late h (inl j) = let l = ascending_apart 1 own_left.0 tail rises j first_of_tail in let k = h.1 in absurd (omega arith)
        late h (inr j) = j

    abbrev is_late : Event → Bool
    is_late e = is_own e && nat_le t.no.0 e.no.0

    goes_late : (e : Event) → In e (unfinished m) → (goes e ≡ true) ⊎ (goes e ≡ false) → goes e ≡ is_late e
    goes_late e i (inl y) = let h = (tail_from e i).0 (goes_in e i y) in y ∙ sym (and_from (is_own e) (nat_le t.no.0 e.no.0) (eq-eqb e.robot.0 r h.0) (le-leb t.no.0 e.no.0 h.1))
    goes_late e i (inr n) =
        n ∙ sym (false_from_ne_true (is_late e) (λ y.
        let h = and_parts (is_own e) (nat_le t.no.0 e.no.0) y in
        both_ways (goes e) n (done_in tail ((tail_from e i).1 (eqb-true e.robot.0 r h.0, leb-true t.no.0 e.no.0 h.1)))))

    -- a withdrawal takes away the robot's unfinished events from the tail's first on
    pub unfinished-cut : unfinished (withdrawn m tail) ≡ filter (λ e. not ((e.robot.0 == r) && nat_le t.no.0 e.no.0)) (unfinished m)
    unfinished-cut = unfinished-withdrawn m tail ∙ filter_agree_in (λ e. not (goes e)) (λ e. not (is_late e)) (unfinished m) (λ e i. ap (λ b. not b) (goes_late e i (cases_Bool (goes e))))

-- openings

start-cell : (site : Site) (starts : List CellNo) (k : ℕ) → k < length starts → get_or starts k (record { 0 = 0 }) ≡ (opening site starts k).cell
start-cell site starts k l = ap (λ o. (start_at site o).cell) (sym (slice_get-get_or starts k (record { 0 = 0 }) l))

pub places-opening : (site : Site) (starts : List CellNo) (pending : List (Option (List CellNo))) (next cap : ℕ) → places (opening_state site starts pending next cap).fleet ≡ starts
places-opening site starts pending next cap = sym (fill_by_all (cell_of (opening_state site starts pending next cap).fleet) starts (length starts) (record { 0 = 0 }) refl (start-cell site starts))

pub ends-opening : (site : Site) (starts : List CellNo) (pending : List (Option (List CellNo))) (next cap : ℕ) → ends (opening_state site starts pending next cap).fleet ≡ starts
ends-opening site starts pending next cap = sym (fill_by_all (end_of (opening_state site starts pending next cap).fleet) starts (length starts) (record { 0 = 0 }) refl (start-cell site starts))
