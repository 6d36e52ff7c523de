-- An order's beginnings and rests are orders, and it does each robot's events in turn.
use Rattle.std.proofs.Common.{◌≡◌, ℕ, ◌+◌, ◌<◌, true, false, ◌⊎◌, inl, inr, refl, sym, ap, ◌∙◌, subst, List, [], ◌∷◌, ◌++◌, arith, append_assoc}
use Rattle.std.proofs.lemmas.Bool.{both_ways, or_left, cases_eq}
use Rattle.std.proofs.lemmas.List.{append-nil}
use Rattle.fleet_base.specs.declared.numbers.Event.{Event}
use Rattle.fleet_model.specs.Lists.{In, here, Begins}
use Rattle.fleet_model.specs.Plans.{own, is_done, IsReady, IsOrder}
use Rattle.fleet_model.specs.Good.{IsAscending}
use Rattle.fleet_model.proofs.Lists.{In_either, In-append_right, In-append_cases}
use Rattle.fleet_model.proofs.Numbers.{low_bound, one_event, done_in, done_event, is_done-append, ascending_apart, ascending_behind, IsAscending-own, In_own, own_In, own_one, own_other}

module _ (behind : Event → Event → Type 0) (plan : List Event) where
  -- a beginning of an order is an order
  pub IsOrder_front : (done xs ys : List Event) → IsOrder behind plan done (xs ++ ys) → IsOrder behind plan done xs
  IsOrder_front done [] ys h = tt
  IsOrder_front done (x ∷ xs) ys h = (h.0, IsOrder_front (done ++ x ∷ []) xs ys h.1)

  -- what is behind a beginning of an order is an order once that is done
  pub IsOrder_rest : (done xs ys : List Event) → IsOrder behind plan done (xs ++ ys) → IsOrder behind plan (done ++ xs) ys
  IsOrder_rest done [] ys h = rw append-nil h
  IsOrder_rest done (x ∷ xs) ys h = subst (λ d. IsOrder behind plan d ys) (append_assoc done (x ∷ []) xs) (IsOrder_rest (done ++ x ∷ []) xs ys h.1)

  -- an order and one that goes on from it are one order
  pub IsOrder-append : (done xs ys : List Event) → IsOrder behind plan done xs → IsOrder behind plan (done ++ xs) ys → IsOrder behind plan done (xs ++ ys)
  IsOrder-append done [] ys h g = rw append-nil at g
  IsOrder-append done (x ∷ xs) ys h g = (h.0, IsOrder-append (done ++ x ∷ []) xs ys h.1 (subst (λ d. IsOrder behind plan d ys) (sym (append_assoc done (x ∷ []) xs)) g))

  -- an order is one where each event is ready behind those in front of it
  pub order_by_place : (done order : List Event) → ((before : List Event) (e : Event) (rest : List Event) → order ≡ before ++ e ∷ rest → IsReady behind plan (done ++ before) e) → IsOrder behind plan done order
  order_by_place done [] f = tt
  order_by_place done (e ∷ es) f = (
    rw append-nil at (f [] e es refl),
    order_by_place (done ++ e ∷ []) es (λ before x rest h. subst (λ d. IsReady behind plan d x) (sym (append_assoc done (e ∷ []) before)) (f (e ∷ before) x rest (ap (λ zs. e ∷ zs) h))),
  )

  -- what is done is of the plan, with all that it comes behind, and of each robot's events it is the first ones
  pub record IsKept (done : List Event) : Type 0 where
    pub planned : (e : Event) → In e done → In e plan
    pub closed : (e f : Event) → In e done → In f plan → behind e f → is_done done f ≡ true
    pub first : (r : ℕ) → Begins (own r done) (own r plan)

  -- where nothing is done all of this holds
  pub kept_none : IsKept []
  kept_none = record { planned = λ e m. elim m [ ]; closed = λ e f m. elim m [ ]; first = λ r. (own r plan, refl) }

  module _ (ascends : IsAscending 1 plan) (own_first : (e f : Event) → f.robot.0 ≡ e.robot.0 → f.no.0 < e.no.0 → behind e f) where
    -- an event of the plan that is done is among the events that are done
    pub In_done : (done : List Event) → IsKept done → (f : Event) → In f plan → is_done done f ≡ true → In f done
    In_done done kept f m h = let g = done_event f done h in subst (λ x. In x done) (one_event 1 plan ascends (kept.planned g.0 g.1) m g.2) g.1

    -- an event that isn't done, while those of its robot in front of it are, comes next
    next_is : (done : List Event) (e f : Event) (rest : List Event) → IsKept done → In e plan → is_done done e ≡ false → ((g : Event) → In g plan → g.robot.0 ≡ e.robot.0 → g.no.0 < e.no.0 → is_done done g ≡ true)
        → own e.robot.0 plan ≡ own e.robot.0 done ++ f ∷ rest → e ≡ f
    next_is done e f rest kept planned undone earlier h = go (In-append_cases (own r done) (f ∷ rest) (subst (λ es. In e es) h (In_own r plan planned refl)))
      where
        r : ℕ
        r = e.robot.0

        rises : IsAscending 1 (own r done ++ f ∷ rest)
        rises = subst (λ es. IsAscending 1 es) h (IsAscending-own r 1 plan ascends)

        f_own : In f plan × (f.robot.0 ≡ r)
        f_own = own_In r plan (subst (λ es. In f es) (sym h) (In-append_right (own r done) (f ∷ rest) (here refl)))

        late : In e rest → e ≡ f
        late m = let l = low_bound (f.no.0 + 1) rest (ascending_behind 1 (own r done) (f ∷ rest) rises).1 m in
            let d : In f done = In_done done kept f f_own.0 (earlier f f_own.0 f_own.1 (omega arith)) in
            let a = ascending_apart 1 (own r done) (f ∷ rest) rises (In_own r done d f_own.1) (here refl) in
            absurd (omega arith)

        go : In e (own r done) ⊎ In e (f ∷ rest) → e ≡ f
        go (inl m) = absurd (both_ways (is_done done e) undone (done_in done (own_In r done m).0))
        go (inr m) = In_either m (λ i. i) late

    -- the same where no place is known yet
    next_from : (done : List Event) (e : Event) → IsKept done → In e plan → is_done done e ≡ false → ((g : Event) → In g plan → g.robot.0 ≡ e.robot.0 → g.no.0 < e.no.0 → is_done done g ≡ true)
        → (rest : List Event) → own e.robot.0 plan ≡ own e.robot.0 done ++ rest → (behind : List Event) × (own e.robot.0 plan ≡ own e.robot.0 done ++ e ∷ behind)
    next_from done e kept planned undone earlier [] h =
        absurd (both_ways (is_done done e) undone (done_in done (own_In e.robot.0 done (subst (λ es. In e es) (h ∙ append-nil (own e.robot.0 done)) (In_own e.robot.0 plan planned refl))).0))
    next_from done e kept planned undone earlier (f ∷ rest) h =
        (rest, h ∙ ap (λ x. own e.robot.0 done ++ x ∷ rest) (sym (next_is done e f rest kept planned undone earlier h)))

    -- an event whose earlier ones are done comes next of its robot
    pub next_of : (done : List Event) (e : Event) → IsKept done → In e plan → is_done done e ≡ false → ((g : Event) → In g plan → g.robot.0 ≡ e.robot.0 → g.no.0 < e.no.0 → is_done done g ≡ true)
        → (behind : List Event) × (own e.robot.0 plan ≡ own e.robot.0 done ++ e ∷ behind)
    next_of done e kept planned undone earlier = next_from done e kept planned undone earlier (kept.first e.robot.0).0 (kept.first e.robot.0).1

    -- where all are done nothing is left
    all_from : (done : List Event) (r : ℕ) → IsKept done → ((g : Event) → In g plan → g.robot.0 ≡ r → is_done done g ≡ true) → (rest : List Event) → own r plan ≡ own r done ++ rest → own r done ≡ own r plan
    all_from done r kept all [] h = sym (h ∙ append-nil (own r done))
    all_from done r kept all (f ∷ rest) h =
        let m : In f plan × (f.robot.0 ≡ r) = own_In r plan (subst (λ es. In f es) (sym h) (In-append_right (own r done) (f ∷ rest) (here refl))) in
        let a = ascending_apart 1 (own r done) (f ∷ rest) (subst (λ es. IsAscending 1 es) h (IsAscending-own r 1 plan ascends)) (In_own r done (In_done done kept f m.0 (all f m.0 m.1)) m.1) (here refl) in
        absurd (omega arith)

    -- where all of a robot's events are done, they were done in order
    pub all_own : (done : List Event) (r : ℕ) → IsKept done → ((g : Event) → In g plan → g.robot.0 ≡ r → is_done done g ≡ true) → own r done ≡ own r plan
    all_own done r kept all = all_from done r kept all (kept.first r).0 (kept.first r).1

    -- a ready event is the next of its robot
    first_more : (done : List Event) (e : Event) → IsKept done → IsReady behind plan done e → Begins (own e.robot.0 (done ++ e ∷ [])) (own e.robot.0 plan)
    first_more done e kept ready =
        let n : (behind : List Event) × (own e.robot.0 plan ≡ own e.robot.0 done ++ e ∷ behind) = next_of done e kept ready.planned ready.undone (λ g p s l. ready.waited g p (own_first e g s l)) in
        (n.0, n.1 ∙ (sym (append_assoc (own e.robot.0 done) (e ∷ []) n.0) ∙ ap (λ es. es ++ n.0) (sym (own_one e.robot.0 done e refl))))

    -- after a ready event what is done is still the first of each robot's events
    first_any : (done : List Event) (e : Event) → IsKept done → IsReady behind plan done e → (r : ℕ) → (e.robot.0 ≡ r) ⊎ (e.robot.0 ≡ r → ⊥) → Begins (own r (done ++ e ∷ [])) (own r plan)
    first_any done e kept ready r (inl h) = subst (λ q. Begins (own q (done ++ e ∷ [])) (own q plan)) h (first_more done e kept ready)
    first_any done e kept ready r (inr h) = (rw (own_other r done e h) (kept.first r))

    -- a ready event keeps this
    kept_more : (done : List Event) (e : Event) → IsKept done → IsReady behind plan done e → IsKept (done ++ e ∷ [])
    kept_more done e kept ready = record {
      planned = λ f m. elim (In-append_cases done (e ∷ []) m) [ inl n ↦ kept.planned f n | inr n ↦ In_either n (λ i. subst (λ x. In x plan) (sym i) ready.planned) (λ k. elim k [ ]) ];
      closed = λ x f m n b. rw (is_done-append done (e ∷ []) f) (or_left (is_done done f) (is_done (e ∷ []) f) (elim (In-append_cases done (e ∷ []) m) [ inl k ↦ kept.closed x f k n b | inr k ↦ In_either k (λ i. ready.waited f n (subst (λ y. behind y f) i b)) (λ j. elim j [ ]) ]));
      first = λ r. first_any done e kept ready r (cases_eq e.robot.0 r);
    }

    -- an order keeps this
    pub order_kept : (done order : List Event) → IsKept done → IsOrder behind plan done order → IsKept (done ++ order)
    order_kept done [] kept h = rw append-nil kept
    order_kept done (e ∷ es) kept h = subst (λ d. IsKept d) (append_assoc done (e ∷ []) es) (order_kept (done ++ e ∷ []) es (kept_more done e kept h.0) h.1)
