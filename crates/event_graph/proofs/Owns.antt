-- The events of a robot, and its queue.
use Rattle.std.proofs.Common.{◌≡◌, ℕ, zero, suc, ◌+◌, ◌-◌, ◌<◌, ◌==◌, true, not, ◌⊎◌, inl, inr, refl, sym, ap, ◌∙◌, subst, List, [], ◌∷◌, ◌++◌, length, map, get_or, set, take, drop, arith, Option, Some, None, eq-eqb}
use Rattle.std.specs.Prelude.{slice_get}
use Rattle.std.specs.List.{filter}
use Rattle.std.specs.Option.{option_map}
use Rattle.std.proofs.lemmas.Bool.{cases_eq, ne_eqb, not_from_false}
use Rattle.std.proofs.lemmas.List.{append-nil, length-append, length-set, map_push, take_at, get_or-set_same, get_or-set_other}
use Rattle.std.proofs.lemmas.List.Elements.{filter-append}
use Rattle.std.proofs.lemmas.Option.{none-some, same_Some, slice_get-map}
use Rattle.fleet_base.specs.declared.numbers.ClaimGroup.{ClaimGroup}
use Rattle.fleet_base.specs.declared.numbers.Event.{Event}
use Rattle.fleet_model.specs.Lists.{In, here, there}
use Rattle.fleet_model.specs.Plans.{own, is_awaited}
use Rattle.fleet_model.specs.Good.{IsAscending}
use Rattle.fleet_model.proofs.Filters.{filter_all, filter_out, filter_swap}
use Rattle.fleet_model.proofs.Lists.{In-nil, In_either}
use Rattle.fleet_model.proofs.Numbers.{own_one, own_other, own_In, In_own, one_event, low_bound, ascending_apart, IsAscending-own}
use Rattle.number_queues.specs.Queues.{queue_of}
use Rattle.event_graph.specs.Graphs.{IsReadyAmong, without_number}
use Rattle.event_graph.specs.Stores.{AreQueued, HasNone}
use Rattle.event_graph.proofs.Changes.{none_behind, ready_from}
use Rattle.event_graph.proofs.Cuts.{drop_at, drop_none}

abbrev pub number_of : Event → ℕ
number_of e = e.no.0

-- what is at a place is one of the list
pub In_at : (es : List Event) (k : ℕ) (e : Event) → slice_get es k ≡ Some e → In e es
In_at [] k e h = absurd (none-some e h)
In_at (x ∷ es) zero e h = here (same_Some e x (sym h))
In_at (x ∷ es) (suc k) e h = there (In_at es k e h)

-- the event whose number is at a place of the queue
pub queued_at : (es : List Event) (queue : List ℕ) (k n : ℕ) → queue ≡ map number_of es → slice_get queue k ≡ Some n → (e : Event) × (slice_get es k ≡ Some e) × (e.no.0 ≡ n)
queued_at es queue k n q h = by_event (slice_get es k) refl (sym (ap (λ ns. slice_get ns k) q ∙ slice_get-map number_of es k) ∙ h)
  where
    by_event : (o : Option Event) → slice_get es k ≡ o → option_map number_of (slice_get es k) ≡ Some n → (e : Event) × (slice_get es k ≡ Some e) × (e.no.0 ≡ n)
    by_event None is g = absurd (none-some n (sym (ap (λ (x : Option Event). option_map number_of x) is) ∙ g))
    by_event (Some e) is g = (e, is, same_Some e.no.0 n (sym (ap (λ (x : Option Event). option_map number_of x) is) ∙ g))

-- past the end of the queue is no event
pub queued_none : (es : List Event) (queue : List ℕ) (k : ℕ) → queue ≡ map number_of es → slice_get queue k ≡ None → None ≡ slice_get es k
queued_none es queue k q h = by_event (slice_get es k) refl
  where
    by_event : (o : Option Event) → slice_get es k ≡ o → None ≡ o
    by_event None is = refl
    by_event (Some e) is = absurd (none-some e.no.0 (sym h ∙ (ap (λ ns. slice_get ns k) q ∙ (slice_get-map number_of es k ∙ ap (λ (x : Option Event). option_map number_of x) is))))

module _ (es : List Event) (rises : IsAscending 0 es) (r : ℕ) where
  -- the robot's first event comes before its others
  module _ (h : Event) (head : slice_get (own r es) 0 ≡ Some h) where
    split : (rest : List Event) × (own r es ≡ h ∷ rest)
    split = drop_at (own r es) 0 h head

    pub head_In : In h es × (h.robot.0 ≡ r)
    head_In = own_In r es (In_at (own r es) 0 h head)

    pub head_first : (f : Event) → In f es → f.robot.0 ≡ r → (f ≡ h) ⊎ (h.no.0 < f.no.0)
    head_first f m robot = In_either (subst (λ xs. In f xs) split.1 (In_own r es m robot)) (λ e. inl e) (λ k. inr (let b = low_bound (h.no.0 + 1) split.0 (subst (λ xs. IsAscending 0 xs) split.1 (IsAscending-own r 0 es rises)).1 k in omega arith))

  module _ (groups : List ClaimGroup) (e : Event) (among : In e es) (robot : e.robot.0 ≡ r) where
    -- an event whose robot has another first one isn't ready
    pub not_first : (h : Event) → slice_get (own r es) 0 ≡ Some h → (h.no.0 ≡ e.no.0 → ⊥) → IsReadyAmong groups es e → ⊥
    not_first h head ne ready = elim (head_first h head e among robot) [
      | inl q ↦ ne (ap (λ (x : Event). x.no.0) (sym q))
      | inr l ↦ (let i = head_In h head in none_behind groups es e h ready i.0 (inl (i.1 ∙ sym robot, l)))
    ]

    -- a robot with an event has a first one
    pub has_first : slice_get (own r es) 0 ≡ None → ⊥
    has_first none = In-nil (subst (λ xs. In e xs) (drop_none (own r es) 0 none) (In_own r es among robot))

    -- an event that is its robot's first and stands behind none is ready
    pub first_ready : (h : Event) → slice_get (own r es) 0 ≡ Some h → h.no.0 ≡ e.no.0 → HasNone (λ f. is_awaited groups e f ≡ true) es → IsReadyAmong groups es e
    first_ready h head same free = ready_from groups es e among (λ f m b. elim b [
      | inl own ↦ (elim (head_first h head f m (own.0 ∙ robot)) [ inl q ↦ (let n = ap (λ (x : Event). x.no.0) q in let l = own.1 in omega arith) | inr l ↦ (let g = own.1 in omega arith) ])
      | inr waits ↦ free f m waits
    ])

    -- what stands behind another isn't ready
    pub not_free : (f : Event) → In f es → is_awaited groups e f ≡ true → IsReadyAmong groups es e → ⊥
    not_free f m waits ready = none_behind groups es e f ready m (inr waits)

    -- a ready event is its robot's first
    pub ready_head : IsReadyAmong groups es e → (rest : List Event) × (own r es ≡ e ∷ rest)
    ready_head ready = by_head (slice_get (own r es) 0) refl
      where
        by_head : (o : Option Event) → slice_get (own r es) 0 ≡ o → (rest : List Event) × (own r es ≡ e ∷ rest)
        by_head None is = absurd (has_first is)
        by_head (Some h) is = elim (cases_eq h.no.0 e.no.0) [
          | inl q ↦ (let s = drop_at (own r es) 0 h is in (s.0, s.1 ∙ ap (λ x. x ∷ s.0) (one_event 0 es rises (head_In h is).0 among q)))
          | inr ne ↦ absurd (not_first h is ne ready)
        ]

module _ (es : List Event) (rises : IsAscending 0 es) (e : Event) (among : In e es) where
  -- the events of other robots stay
  pub others_stay : (r : ℕ) → (e.robot.0 ≡ r → ⊥) → own r (without_number es e.no) ≡ own r es
  others_stay r ne =
      filter_swap (λ (x : Event). x.robot.0 == r) (λ (x : Event). not (x.no.0 == e.no.0)) es
      ∙ filter_all (λ (x : Event). not (x.no.0 == e.no.0)) (own r es) (λ x m. let o = own_In r es m in not_from_false (x.no.0 == e.no.0) (ne_eqb x.no.0 e.no.0 (λ q. ne (ap (λ (y : Event). y.robot.0) (sym (one_event 0 es rises o.0 among q)) ∙ o.1))))

  -- where the first event of a robot leaves
  pub head_leaves : (r : ℕ) (rest : List Event) → own r es ≡ e ∷ rest → own r (without_number es e.no) ≡ rest
  head_leaves r rest h =
      filter_swap (λ (x : Event). x.robot.0 == r) (λ (x : Event). not (x.no.0 == e.no.0)) es
      ∙ (ap (λ xs. without_number xs e.no) h
      ∙ (filter_out (λ (x : Event). not (x.no.0 == e.no.0)) e rest (ap not (eq-eqb e.no.0 e.no.0 refl))
      ∙ filter_all (λ (x : Event). not (x.no.0 == e.no.0)) rest (λ x m. not_from_false (x.no.0 == e.no.0) (ne_eqb x.no.0 e.no.0 (λ q. let b = low_bound (e.no.0 + 1) rest (subst (λ xs. IsAscending 0 xs) h (IsAscending-own r 0 es rises)).1 m in omega arith)))))

  -- where the last one does
  pub last_leaves : (r : ℕ) (front : List Event) → own r es ≡ front ++ e ∷ [] → own r (without_number es e.no) ≡ front
  last_leaves r front h =
      filter_swap (λ (x : Event). x.robot.0 == r) (λ (x : Event). not (x.no.0 == e.no.0)) es
      ∙ (ap (λ xs. without_number xs e.no) h
      ∙ (filter-append (λ (x : Event). not (x.no.0 == e.no.0)) front (e ∷ [])
      ∙ (ap (λ xs. filter (λ (x : Event). not (x.no.0 == e.no.0)) front ++ xs) (filter_out (λ (x : Event). not (x.no.0 == e.no.0)) e [] (ap not (eq-eqb e.no.0 e.no.0 refl)))
      ∙ (append-nil (filter (λ (x : Event). not (x.no.0 == e.no.0)) front)
      ∙ filter_all (λ (x : Event). not (x.no.0 == e.no.0)) front (λ x m. not_from_false (x.no.0 == e.no.0) (ne_eqb x.no.0 e.no.0 (λ q. let a = ascending_apart 0 front (e ∷ []) (subst (λ xs. IsAscending 0 xs) h (IsAscending-own r 0 es rises)) m (here refl) in omega arith)))))))

  module _ (queues queues' : List (List ℕ)) (queued : AreQueued es queues) (within : e.robot.0 < length queues) where
    -- one queue changes as its robot's events do
    changed : (new : List ℕ) → queues' ≡ set queues e.robot.0 new → new ≡ map number_of (own e.robot.0 (without_number es e.no)) → AreQueued (without_number es e.no) queues'
    changed new is same r l = elim (cases_eq r e.robot.0) [
      | inl q ↦ ap (λ qs. queue_of r qs) is ∙ (ap (λ k. get_or (set queues e.robot.0 new) k []) q ∙ (get_or-set_same queues e.robot.0 new [] within ∙ (same ∙ ap (λ k. map number_of (own k (without_number es e.no))) (sym q))))
      | inr ne ↦ ap (λ qs. queue_of r qs) is ∙ (get_or-set_other queues e.robot.0 r new [] ne ∙ (queued r (let a = ap length is in omega (arith, length-set queues e.robot.0 new)) ∙ ap (λ xs. map number_of xs) (sym (others_stay r (λ q. ne (sym q))))))
    ]

    pub queue_finished : (rest : List Event) → own e.robot.0 es ≡ e ∷ rest → queues' ≡ set queues e.robot.0 (drop 1 (queue_of e.robot.0 queues)) → AreQueued (without_number es e.no) queues'
    queue_finished rest h is = changed (drop 1 (queue_of e.robot.0 queues)) is (ap (λ xs. drop 1 xs) (queued e.robot.0 within ∙ ap (λ xs. map number_of xs) h) ∙ ap (λ xs. map number_of xs) (sym (head_leaves e.robot.0 rest h)))

    pub queue_cut : (front : List Event) → own e.robot.0 es ≡ front ++ e ∷ [] → queues' ≡ set queues e.robot.0 (take (length (queue_of e.robot.0 queues) - 1) (queue_of e.robot.0 queues)) → AreQueued (without_number es e.no) queues'
    queue_cut front h is =
        changed (take (length (queue_of e.robot.0 queues) - 1) (queue_of e.robot.0 queues)) is
        (ap (λ xs. take (length xs - 1) xs) (queued e.robot.0 within ∙ (ap (λ xs. map number_of xs) h ∙ map_push number_of front e))
        ∙ (take_at (map number_of front) (e.no.0 ∷ []) (length (map number_of front ++ e.no.0 ∷ []) - 1) (let a = length-append (map number_of front) (e.no.0 ∷ []) in omega arith)
        ∙ ap (λ xs. map number_of xs) (sym (last_leaves e.robot.0 front h))))

-- a robot's queue with one event more
pub queue_pushed : (es : List Event) (queues queues' : List (List ℕ)) (e : Event) → AreQueued es queues → e.robot.0 < length queues → queues' ≡ set queues e.robot.0 (queue_of e.robot.0 queues ++ e.no.0 ∷ []) → AreQueued (es ++ e ∷ []) queues'
queue_pushed es queues queues' e queued within is r l = elim (cases_eq r e.robot.0) [
  | inl q ↦ ap (λ qs. queue_of r qs) is ∙ (ap (λ k. get_or (set queues e.robot.0 (queue_of e.robot.0 queues ++ e.no.0 ∷ [])) k []) q ∙ (get_or-set_same queues e.robot.0 (queue_of e.robot.0 queues ++ e.no.0 ∷ []) [] within
      ∙ (ap (λ ns. ns ++ e.no.0 ∷ []) (queued e.robot.0 within) ∙ (sym (map_push number_of (own e.robot.0 es) e) ∙ (ap (λ xs. map number_of xs) (sym (own_one e.robot.0 es e refl)) ∙ ap (λ k. map number_of (own k (es ++ e ∷ []))) (sym q))))))
  | inr ne ↦ ap (λ qs. queue_of r qs) is ∙ (get_or-set_other queues e.robot.0 r (queue_of e.robot.0 queues ++ e.no.0 ∷ []) [] ne
      ∙ (queued r (let a = ap length is in omega (arith, length-set queues e.robot.0 (queue_of e.robot.0 queues ++ e.no.0 ∷ []))) ∙ ap (λ xs. map number_of xs) (sym (own_other r es e (λ q. ne (sym q))))))
]

-- a list that isn't empty has a last element
pub split_last : (es : List Event) → 0 < length es → (front : List Event) × (e : Event) × (es ≡ front ++ e ∷ [])
split_last [] h = absurd (omega arith)
split_last (x ∷ []) h = ([], x, refl)
split_last (x ∷ y ∷ es) h = let s = split_last (y ∷ es) (omega arith) in (x ∷ s.0, s.1, ap (λ xs. x ∷ xs) s.2)

-- the last number of a queue is that of the robot's last event
pub queued_last : (queue : List ℕ) (front : List Event) (e : Event) → queue ≡ map number_of (front ++ e ∷ []) → slice_get queue (length queue - 1) ≡ Some e.no.0
queued_last queue front e h =
    ap (λ ns. slice_get ns (length ns - 1)) (h ∙ map_push number_of front e) ∙ at_last (map number_of front) e.no.0
  where
    at_end : (ns : List ℕ) (n : ℕ) → slice_get (ns ++ n ∷ []) (length ns) ≡ Some n
    at_end [] n = refl
    at_end (x ∷ ns) n = at_end ns n

    at_last : (ns : List ℕ) (n : ℕ) → slice_get (ns ++ n ∷ []) (length (ns ++ n ∷ []) - 1) ≡ Some n
    at_last ns n = ap (λ k. slice_get (ns ++ n ∷ []) k) (let a = length-append ns (n ∷ []) in let q : length (ns ++ n ∷ []) - 1 ≡ length ns = omega arith in q) ∙ at_end ns n
