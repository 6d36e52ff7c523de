-- The removable tail of a robot's events may be withdrawn, and none that may be is longer.
use Rattle.std.proofs.Common.{◌≡◌, ℕ, ◌+◌, ◌-◌, ◌≤◌, Bool, true, false, cond, not, ◌&&◌, ◌⊎◌, inl, inr, refl, sym, ap, ◌∙◌, subst, List, [], ◌∷◌, ◌++◌, map, length, take, drop, arith, length-append, length-drop, Option, Some, None}
use Rattle.std.proofs.lemmas.Bool.{both_ways, cases_Bool, not-true, and_parts, and_from, not_from_false}
use Rattle.std.proofs.lemmas.List.{append-nil, map-append, length-map, take-map, take-append-drop}
use Rattle.std.proofs.Math.Seq.{take-append_seam, drop-append_seam}
use Rattle.std.specs.Prelude.{slice_get, find}
use Rattle.std.specs.List.{list_any}
use Rattle.std.specs.Option.{unwrap_or}
use Rattle.fleet_base.specs.declared.numbers.CellNo.{CellNo}
use Rattle.fleet_base.specs.declared.numbers.Event.{Event}
use Rattle.fleet_base.specs.declared.numbers.Kind.{Kind}
use Rattle.fleet_model.specs.Lists.{In, here, there}
use Rattle.fleet_model.specs.Sites.{Site, step, steps_from, IsWalkFrom, rest_points, moved_to, last_cell}
use Rattle.fleet_model.specs.Replays.{AreSteps}
use Rattle.fleet_model.specs.Plans.{Fleet, own, kinds, is_done, is_awaited, rests_of, is_removable, removable_tail, IsRemovableTail}
use Rattle.fleet_model.specs.Good.{IsGoodPlan}
use Rattle.fleet_model.proofs.Lists.{In_either, In-map, In_unmap}
use Rattle.fleet_model.proofs.Tests.{any_none, none_any, In_all, all_In}
use Rattle.fleet_model.proofs.Steps.{steps-append, walk_front, moved_to-append, moved_to-steps}

-- a place of rest of a walk: a beginning of the walk and what is behind it
pub record IsRest (site : Site) (a : CellNo) (cells : List CellNo) (n : ℕ) : Type 0 where
  pub front : List CellNo
  pub back : List CellNo
  pub splits : cells ≡ front ++ back
  pub place : n ≡ length (steps_from site a front)

-- at each place of rest the walk splits
rest_is : (site : Site) (a : CellNo) (cells : List CellNo) (n : ℕ) → In n (rest_points site a cells) → IsRest site a cells n
rest_is site a [] n i = record { front = []; back = []; splits = refl; place = In_either i (λ h. h) (λ j. elim j [ ]) }
rest_is site a (b ∷ bs) n (here h) = record { front = []; back = b ∷ bs; splits = refl; place = h }
rest_is site a (b ∷ bs) n (there i) =
    let k = In_unmap (λ j. length (step site a b) + j) (rest_points site b bs) i in
    let r = rest_is site b bs k.0 k.1 in
    record { front = b ∷ r.front; back = r.back; splits = ap (λ cs. b ∷ cs) r.splits; place = k.2 ∙ (ap (λ j. length (step site a b) + j) r.place ∙ sym (length-append (step site a b) (steps_from site b r.front))) }

-- where a walk splits there is a place of rest
pub is_rest : (site : Site) (a : CellNo) (front back : List CellNo) → In (length (steps_from site a front)) (rest_points site a (front ++ back))
is_rest site a [] [] = here refl
is_rest site a [] (b ∷ bs) = here refl
is_rest site a (c ∷ cs) back =
    there (subst (λ n. In n (map (λ j. length (step site a c) + j) (rest_points site c (cs ++ back)))) (sym (length-append (step site a c) (steps_from site c cs)))
    (In-map (λ j. length (step site a c) + j) (rest_points site c (cs ++ back)) (is_rest site c cs back)))

-- each number is at least the one before it
abbrev Rise : ℕ → List ℕ → Type 0
Rise low [] = Unit {0}
Rise low (n ∷ ns) = (low ≤ n) × Rise n ns

-- numbers that rise still rise with the same added to each
rise_more : (k low : ℕ) (ns : List ℕ) → Rise low ns → Rise (k + low) (map (λ j. k + j) ns)
rise_more k low [] h = tt
rise_more k low (n ∷ ns) h = ((let l = h.0 in omega arith), rise_more k n ns h.1)

-- numbers that rise from a bound on rise from each lower one on
rise_lower : (low least : ℕ) (ns : List ℕ) → least ≤ low → Rise low ns → Rise least ns
rise_lower low least [] l h = tt
rise_lower low least (n ∷ ns) l h = ((let k = h.0 in omega arith), h.1)

-- no number is below the bound from which they rise
rise_bound : (low : ℕ) (ns : List ℕ) (n : ℕ) → Rise low ns → In n ns → low ≤ n
rise_bound low [] n h i = elim i [ ]
rise_bound low (k ∷ ks) n h (here e) = let l = h.0 in omega arith
rise_bound low (k ∷ ks) n h (there i) = let l = h.0 in let b = rise_bound k ks n h.1 i in omega arith

-- the places of rest of a walk rise
rests_rise : (site : Site) (a : CellNo) (cells : List CellNo) → Rise 0 (rest_points site a cells)
rests_rise site a [] = (omega arith, tt)
rests_rise site a (b ∷ bs) = (omega arith, rise_lower (length (step site a b) + 0) 0 (map (λ j. length (step site a b) + j) (rest_points site b bs)) (omega arith) (rise_more (length (step site a b)) 0 (rest_points site b bs) (rests_rise site b bs)))

-- the first of these numbers whose tail passes
record IsChosen (p : List Event → Bool) (f : ℕ → List Event) (ns : List ℕ) (n : ℕ) : Type 0 where
  place : ℕ
  found : find p (map f ns) ≡ Some (f place)
  among : In place ns
  passes : p (f place) ≡ true
  first : place ≤ n

-- where some number passes there is a first one that does
choose : (p : List Event → Bool) (f : ℕ → List Event) (low : ℕ) (ns : List ℕ) (n : ℕ) → Rise low ns → In n ns → p (f n) ≡ true → IsChosen p f ns n
choose p f low [] n rise i h = elim i [ ]
choose p f low (j ∷ js) n rise i h = go (cases_Bool (p (f j))) (λ k. choose p f j js n rise.1 k h)
  where
    go : (p (f j) ≡ true) ⊎ (p (f j) ≡ false) → (In n js → IsChosen p f js n) → IsChosen p f (j ∷ js) n
    go (inl t) ih = record { place = j; found = rw t refl; among = here refl; passes = t; first = rise_bound j (j ∷ js) n (omega arith, rise.1) i }
    go (inr u) ih =
        let c = ih (In_either i (λ e. absurd (both_ways (p (f j)) u (subst (λ k. p (f k) ≡ true) e h))) (λ k. k)) in
        record { place = c.place; found = subst (λ b. cond b (Some (f j)) (find p (map f js)) ≡ Some (f c.place)) (sym u) c.found; among = there c.among; passes = c.passes; first = c.first }

-- unfinished events that nothing stands behind pass the test of a removable list
pub removable_from : (m : Fleet) (tail : List Event) → ((f : Event) → In f tail → is_done m.finished f ≡ false) → ((e f : Event) → In e m.plan → In f tail → is_awaited m.site.groups e f ≡ false) → is_removable m tail ≡ true
removable_from m tail undone unawaited =
    In_all (λ f. not (is_done m.finished f) && not (list_any (λ e. is_awaited m.site.groups e f) m.plan)) tail
    (λ f i. and_from (not (is_done m.finished f)) (not (list_any (λ e. is_awaited m.site.groups e f) m.plan)) (not_from_false (is_done m.finished f) (undone f i))
    (not_from_false (list_any (λ e. is_awaited m.site.groups e f) m.plan) (any_none (λ e. is_awaited m.site.groups e f) m.plan (λ e j. unawaited e f j i))))

-- each event of a removable list is unfinished, and nothing stands behind it
removable_at : (m : Fleet) (tail : List Event) (f : Event) → In f tail → is_removable m tail ≡ true → (is_done m.finished f ≡ false) × (list_any (λ e. is_awaited m.site.groups e f) m.plan ≡ false)
removable_at m tail f i h =
    let a = and_parts (not (is_done m.finished f)) (not (list_any (λ e. is_awaited m.site.groups e f) m.plan)) (all_In (λ f. not (is_done m.finished f) && not (list_any (λ e. is_awaited m.site.groups e f) m.plan)) tail h i) in
    (not-true (is_done m.finished f) a.0, not-true (list_any (λ e. is_awaited m.site.groups e f) m.plan) a.1)

-- what these events do
abbrev kinds_of : List Event → List Kind
kinds_of es = map (λ (e : Event). e.kind) es

module _ (m : Fleet) (r : ℕ) where
  -- the robot's planned events
  abbrev mine : List Event
  mine = own r m.plan

  -- those from a place on
  abbrev from_place : ℕ → List Event
  from_place n = drop n mine

  -- what is chosen where the robot starts there
  abbrev tail_of : Option CellNo → List Event
  tail_of o = unwrap_or (find (is_removable m) (map from_place (rests_of m.site o (kinds r m.plan)))) []

  -- a beginning of the robot's walk is a place of rest, and its tail what is left
  rest_place : (a : CellNo) (front tail : List Event) → mine ≡ front ++ tail → AreSteps m.site (Some a) (kinds_of front)
      → In (length front) (rest_points m.site a (moved_to (kinds r m.plan))) × (from_place (length front) ≡ tail)
  rest_place a front tail split steps = (
    subst (λ n. In n (rest_points m.site a (moved_to (kinds r m.plan)))) (sym (ap length steps.2) ∙ length-map front (λ (e : Event). e.kind))
        (subst (λ cells. In (length (steps_from m.site a steps.0)) (rest_points m.site a cells)) (sym cells_are) (is_rest m.site a steps.0 (moved_to (kinds_of tail)))),
    ap (λ es. drop (length front) es) split ∙ drop-append_seam front tail,
  )
    where
      cells_are : moved_to (kinds r m.plan) ≡ steps.0 ++ moved_to (kinds_of tail)
      cells_are =
          ap (λ es. moved_to (kinds_of es)) split ∙ (ap (λ ks. moved_to ks) (map-append (λ (e : Event). e.kind) front tail)
          ∙ (moved_to-append (kinds_of front) (kinds_of tail) ∙ ap (λ cs. cs ++ moved_to (kinds_of tail)) (ap (λ ks. moved_to ks) steps.2 ∙ moved_to-steps m.site a steps.0)))

  -- the part in front of a place of rest is whole steps
  front_rests : (a : CellNo) (n : ℕ) → AreSteps m.site (Some a) (kinds r m.plan) → In n (rest_points m.site a (moved_to (kinds r m.plan))) → AreSteps m.site (Some a) (kinds_of (take n mine))
  front_rests a n steps i = (rest.front, walk_front m.site a rest.front rest.back (subst (λ cs. IsWalkFrom m.site a cs) rest.splits steps.1), sym (take-map (λ (e : Event). e.kind) n mine) ∙ (ap (λ ks. take n ks) all ∙ (ap (λ k. take k (steps_from m.site a rest.front ++ steps_from m.site (last_cell a rest.front) rest.back)) rest.place ∙ take-append_seam (steps_from m.site a rest.front) (steps_from m.site (last_cell a rest.front) rest.back))))
    where
      cells_are : moved_to (kinds r m.plan) ≡ steps.0
      cells_are = ap (λ ks. moved_to ks) steps.2 ∙ moved_to-steps m.site a steps.0

      rest : IsRest m.site a steps.0 n
      rest = rest_is m.site a steps.0 n (subst (λ cs. In n (rest_points m.site a cs)) cells_are i)

      all : kinds r m.plan ≡ steps_from m.site a rest.front ++ steps_from m.site (last_cell a rest.front) rest.back
      all = steps.2 ∙ (ap (λ cs. steps_from m.site a cs) rest.splits ∙ steps-append m.site a rest.front rest.back)

  -- where a tail is removable, the first place of rest with a removable tail is not behind its own
  choose_tail : (a : CellNo) (front tail : List Event) → mine ≡ front ++ tail → AreSteps m.site (Some a) (kinds_of front) → is_removable m tail ≡ true
      → IsChosen (is_removable m) from_place (rest_points m.site a (moved_to (kinds r m.plan))) (length front)
  choose_tail a front tail split steps h =
      let p = rest_place a front tail split steps in
      choose (is_removable m) from_place 0 (rest_points m.site a (moved_to (kinds r m.plan))) (length front) (rests_rise m.site a (moved_to (kinds r m.plan))) p.0 (rw p.1 h)

  -- the chosen tail may be withdrawn, wherever the robot starts
  tail_at : (o : Option CellNo) → slice_get m.starts r ≡ o → AreSteps m.site o (kinds r m.plan) → IsRemovableTail m r (tail_of o)
  tail_at None e steps = record {
    front = mine;
    splits = sym (append-nil mine);
    rests = subst (λ o. AreSteps m.site o (kinds r m.plan)) (sym e) steps;
    undone = λ f i. elim i [ ];
    unawaited = λ x f i j. elim j [ ];
  }
  tail_at (Some a) e steps =
      subst (λ tail. IsRemovableTail m r tail) (sym (ap (λ o. unwrap_or o []) chosen.found)) record {
        front = take chosen.place mine;
        splits = sym (take-append-drop chosen.place mine);
        rests = subst (λ o. AreSteps m.site o (kinds_of (take chosen.place mine))) (sym e) (front_rests a chosen.place steps chosen.among);
        undone = λ f i. (removable_at m (from_place chosen.place) f i chosen.passes).0;
        unawaited = λ x f i j. none_any (λ y. is_awaited m.site.groups y f) m.plan x i (removable_at m (from_place chosen.place) f j chosen.passes).1;
      }
    where
      chosen : IsChosen (is_removable m) from_place (rest_points m.site a (moved_to (kinds r m.plan))) (length mine)
      chosen = choose_tail a mine [] (sym (append-nil mine)) steps refl

  -- the chosen tail may be withdrawn
  pub tail_is : IsGoodPlan m → IsRemovableTail m r (removable_tail m r)
  tail_is good = tail_at (slice_get m.starts r) refl (good.walks r)

  -- no tail that may be withdrawn is longer, wherever the robot starts
  longest_at : (tail : List Event) (h : IsRemovableTail m r tail) (o : Option CellNo) → AreSteps m.site o (kinds r m.plan) → AreSteps m.site o (kinds_of h.front) → length tail ≤ length (tail_of o)
  longest_at tail h None whole steps =
      let none : length mine ≡ 0 = sym (length-map mine (λ (e : Event). e.kind)) ∙ ap length whole in
      let parts : length mine ≡ length h.front + length tail = ap length h.splits ∙ length-append h.front tail in
      omega arith
  longest_at tail h (Some a) whole steps =
      let c = choose_tail a h.front tail h.splits steps (removable_from m tail h.undone h.unawaited) in
      let left : length (tail_of (Some a)) ≡ length mine - c.place = ap (λ o. length (unwrap_or o [])) c.found ∙ length-drop c.place mine in
      let parts : length mine ≡ length h.front + length tail = ap length h.splits ∙ length-append h.front tail in
      omega (arith, c.first)

  -- and no other that may is longer
  pub tail_longest : IsGoodPlan m → (tail : List Event) → IsRemovableTail m r tail → length tail ≤ length (removable_tail m r)
  tail_longest good tail h = longest_at tail h (slice_get m.starts r) (good.walks r) h.rests
