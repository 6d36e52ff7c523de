-- The slots and the events in them.
use Rattle.std.proofs.Common.{◌≡◌, ℕ, zero, suc, ◌+◌, ◌<◌, ◌≤◌, ◌==◌, true, not, inl, inr, refl, sym, ap, ◌∙◌, subst, List, [], ◌∷◌, ◌++◌, length, get_or, set, take, drop, arith, Option, Some, None, eq-eqb}
use Rattle.std.specs.List.{filter}
use Rattle.std.proofs.lemmas.Bool.{cases_lt, cases_eq, cases_order, ne_eqb, not_from_false}
use Rattle.std.proofs.lemmas.List.{length-append, length-set, get_or-set_same, get_or-set_other, get_or_past, get_or_push, get_or_append_left, get_or-take, get_or-drop, length-drop, set_split, take-append-drop, drop_more}
use Rattle.std.proofs.lemmas.List.Elements.{filter-append}
use Rattle.std.proofs.lemmas.Option.{none-some, same_Some}
use Rattle.fleet_base.specs.declared.numbers.Event.{Event}
use Rattle.fleet_base.specs.declared.numbers.EventNo.{EventNo}
use Rattle.fleet_base.specs.declared.numbers.Kind.{Kind}
use Rattle.fleet_base.specs.declared.numbers.Kind.TheVariants.{Acquire, Move, Release}
use Rattle.fleet_model.specs.Lists.{In, here}
use Rattle.fleet_model.specs.Good.{IsAscending}
use Rattle.fleet_model.proofs.Filters.{filter_all, filter_out}
use Rattle.fleet_model.proofs.Lists.{In_either, In-append_right}
use Rattle.fleet_model.proofs.Numbers.{ascending_apart, ascending_behind}
use Rattle.event_graph.specs.Graphs.{IsKnown, without_number}
use Rattle.event_graph.specs.Stores.{events_of, claim_key, claim_of, AreEmptyBelow, AreNumbered, HasEvent}
use Rattle.slot_chains.specs.Slots.{IsWithin}

pub events-append : (xs ys : List (Option Event)) → events_of (xs ++ ys) ≡ events_of xs ++ events_of ys
events-append [] ys = refl
events-append (None ∷ xs) ys = events-append xs ys
events-append (Some e ∷ xs) ys = ap (λ es. e ∷ es) (events-append xs ys)

-- a slot with an event is one of the slots
pub slot_within : (slots : List (Option Event)) (i : ℕ) (e : Event) → HasEvent slots i e → i < length slots
slot_within slots i e h = elim (cases_lt i (length slots)) [ inl l ↦ l | inr g ↦ absurd (none-some e (sym (get_or_past slots i None g) ∙ h)) ]

-- the events in front of a slot, its own, and those behind it
pub events_split : (slots : List (Option Event)) (i : ℕ) (e : Event) → HasEvent slots i e → events_of slots ≡ events_of (take i slots) ++ e ∷ events_of (drop (i + 1) slots)
events_split slots i e h =
    ap events_of (sym (take-append-drop i slots)) ∙ (events-append (take i slots) (drop i slots)
    ∙ ap (λ es. events_of (take i slots) ++ es) (ap events_of (drop_more slots i None (slot_within slots i e h)) ∙ ap (λ o. events_of (o ∷ drop (i + 1) slots)) h))

pub slot_In : (slots : List (Option Event)) (i : ℕ) (e : Event) → HasEvent slots i e → In e (events_of slots)
slot_In slots i e h = subst (λ es. In e es) (sym (events_split slots i e h)) (In-append_right (events_of (take i slots)) (e ∷ events_of (drop (i + 1) slots)) (here refl))

pub In_slot : (slots : List (Option Event)) (e : Event) → In e (events_of slots) → (i : ℕ) × HasEvent slots i e
In_slot [] e m = absurd (elim m [ ])
In_slot (None ∷ slots) e m = let r = In_slot slots e m in (suc r.0, r.1)
In_slot (Some f ∷ slots) e m = In_either m (λ q. (zero, ap (λ x. Some x) (sym q))) (λ k. let r = In_slot slots e k in (suc r.0, r.1))

module _ (slots : List (Option Event)) (low : ℕ) (rises : IsAscending low (events_of slots)) where
  -- numbers rise with the slots
  pub slots_apart : (i j : ℕ) (e f : Event) → HasEvent slots i e → HasEvent slots j f → i < j → e.no.0 < f.no.0
  slots_apart i j e f h k l =
      ascending_apart low (events_of (take j slots)) (f ∷ events_of (drop (j + 1) slots)) (subst (λ es. IsAscending low es) (events_split slots j f k) rises)
      (slot_In (take j slots) i e (get_or-take j slots i None l ∙ h)) (here refl)

  -- a number is in one slot
  pub one_slot : (i j : ℕ) (e f : Event) → HasEvent slots i e → HasEvent slots j f → e.no.0 ≡ f.no.0 → i ≡ j
  one_slot i j e f h k n = elim (cases_order i j) [
    | inl q ↦ q
    | inr o ↦ (elim o [ inl l ↦ (let a = slots_apart i j e f h k l in absurd (omega arith)) | inr l ↦ (let a = slots_apart j i f e k h l in absurd (omega arith)) ])
  ]

  -- a smaller number is in a slot in front
  pub in_front : (i j : ℕ) (e f : Event) → HasEvent slots i e → HasEvent slots j f → e.no.0 < f.no.0 → i < j
  in_front i j e f h k n = elim (cases_lt i j) [
    | inl l ↦ l
    | inr g ↦ elim (cases_eq i j) [
      | inl q ↦ (let s : e ≡ f = same_Some e f (sym h ∙ (ap (λ w. get_or slots w None) q ∙ k)) in absurd (omega (arith, ap (λ (x : Event). x.no.0) s)))
      | inr ne ↦ (let a = slots_apart j i f e k h (omega arith) in absurd (omega arith))
    ]
  ]

  -- where a slot is emptied, just its event leaves
  pub emptied : (i : ℕ) (e : Event) (n : EventNo) → HasEvent slots i e → e.no.0 ≡ n.0 → events_of (set slots i None) ≡ without_number (events_of slots) n
  emptied i e n h same =
      ap events_of (set_split slots i None (slot_within slots i e h)) ∙ (events-append (take i slots) (None ∷ drop (suc i) slots)
      ∙ (ap (λ w. events_of (take i slots) ++ events_of (drop w slots)) (let q : suc i ≡ i + 1 = omega arith in q)
      ∙ sym (ap (λ es. without_number es n) (events_split slots i e h) ∙ (filter-append (λ (x : Event). not (x.no.0 == n.0)) (events_of (take i slots)) (e ∷ events_of (drop (i + 1) slots))
      ∙ (ap (λ es. es ++ filter (λ (x : Event). not (x.no.0 == n.0)) (e ∷ events_of (drop (i + 1) slots))) front ∙ ap (λ es. events_of (take i slots) ++ es) back)))))
    where
      all : IsAscending low (events_of (take i slots) ++ e ∷ events_of (drop (i + 1) slots))
      all = subst (λ es. IsAscending low es) (events_split slots i e h) rises

      other : (x : Event) → (x.no.0 ≡ n.0 → ⊥) → not (x.no.0 == n.0) ≡ true
      other x ne = not_from_false (x.no.0 == n.0) (ne_eqb x.no.0 n.0 ne)

      front : filter (λ (x : Event). not (x.no.0 == n.0)) (events_of (take i slots)) ≡ events_of (take i slots)
      front = filter_all (λ (x : Event). not (x.no.0 == n.0)) (events_of (take i slots)) (λ x m. other x (λ q. let a = ascending_apart low (events_of (take i slots)) (e ∷ events_of (drop (i + 1) slots)) all m (here refl) in omega arith))

      back : filter (λ (x : Event). not (x.no.0 == n.0)) (e ∷ events_of (drop (i + 1) slots)) ≡ events_of (drop (i + 1) slots)
      back =
          filter_out (λ (x : Event). not (x.no.0 == n.0)) e (events_of (drop (i + 1) slots)) (ap not (eq-eqb e.no.0 n.0 same))
          ∙ filter_all (λ (x : Event). not (x.no.0 == n.0)) (events_of (drop (i + 1) slots)) (λ x m. other x (λ q. let a = ascending_apart e.no.0 (e ∷ []) (events_of (drop (i + 1) slots)) (omega arith, (ascending_behind low (events_of (take i slots)) (e ∷ events_of (drop (i + 1) slots)) all).1) (here refl) m in omega arith))

  -- one event less
  pub emptied_count : (i : ℕ) (e : Event) → HasEvent slots i e → length (events_of (set slots i None)) + 1 ≡ length (events_of slots)
  emptied_count i e h =
      let a : events_of (set slots i None) ≡ events_of (take i slots) ++ events_of (drop (i + 1) slots) =
      ap events_of (set_split slots i None (slot_within slots i e h)) ∙ (events-append (take i slots) (None ∷ drop (suc i) slots) ∙ ap (λ w. events_of (take i slots) ++ events_of (drop w slots)) (let q : suc i ≡ i + 1 = omega arith in q)) in
      let b = length-append (events_of (take i slots)) (events_of (drop (i + 1) slots)) in
      let c = length-append (events_of (take i slots)) (e ∷ events_of (drop (i + 1) slots)) in
      rw (a, events_split slots i e h) (omega arith)

-- events stay where empty slots in front are left out
pub events_dropped : (slots : List (Option Event)) (count : ℕ) → AreEmptyBelow slots count → events_of (drop count slots) ≡ events_of slots
events_dropped slots zero empty = refl
events_dropped [] (suc n) empty = refl
events_dropped (s ∷ slots) (suc n) empty =
    events_dropped slots n (λ i l. empty (suc i) (omega arith))
    ∙ ap (λ o. events_of (o ∷ slots)) (sym (empty zero (omega arith)))

-- slots of consecutive numbers are so where the first ones are left out, where one is emptied, and with the next event at the end
module _ (slots : List (Option Event)) (next : ℕ) (numbered : AreNumbered slots next) where
  pub numbered_dropped : (count : ℕ) → count ≤ length slots → AreNumbered (drop count slots) next
  numbered_dropped count within i e h =
      let at = numbered (count + i) e (sym (get_or-drop count slots i None) ∙ h) in
      omega (arith, at, length-drop count slots, within)

  pub numbered_emptied : (i : ℕ) (e : Event) → HasEvent slots i e → AreNumbered (set slots i None) next
  numbered_emptied i e has j f h = elim (cases_eq j i) [
    | inl same ↦ absurd (none-some f (sym (get_or-set_same slots i None None (slot_within slots i e has)) ∙ ap (λ k. get_or (set slots i None) k None) (sym same) ∙ h))
    | inr other ↦ let at = numbered j f (sym (get_or-set_other slots i j None None other) ∙ h) in omega (arith, at, length-set slots i None)
  ]

  pub numbered_pushed : (e : Event) → e.no.0 ≡ next → AreNumbered (slots ++ Some e ∷ []) (next + 1)
  numbered_pushed e first i f h = elim (cases_lt i (length slots)) [
    | inl within ↦ let at = numbered i f (sym (get_or_append_left slots (Some e ∷ []) None i within) ∙ h) in omega (arith, at, length-append slots (Some e ∷ []))
    | inr above ↦ elim (cases_eq i (length slots)) [
      | inl last ↦
          let same : e ≡ f = same_Some e f (sym (get_or_push slots (Some e) None i (sym last)) ∙ h) in
          omega (arith, first, last, ap (λ (x : Event). x.no.0) same, length-append slots (Some e ∷ []))
      | inr past ↦ absurd (none-some f (sym (get_or_past (slots ++ Some e ∷ []) i None (omega (arith, above, past, length-append slots (Some e ∷ [])))) ∙ h))
    ]
  ]

  -- an event is in the slot of its number
  pub slot_of : (e : Event) → In e (events_of slots) → (i : ℕ) × HasEvent slots i e × (e.no.0 + length slots ≡ next + i) × (i < length slots)
  slot_of e m =
      let at = In_slot slots e m in
      (at.0, at.1, numbered at.0 e at.1, slot_within slots at.0 e at.1)

-- the chain of a slot is one of the chains
pub known_within : (n : ℕ) (k : Kind) → IsKnown n k → IsWithin (claim_of k) n
known_within n (Acquire c) h = h
known_within n (Move a b) h = tt
known_within n (Release c) h = h

pub claim_within : (n : ℕ) (slots : List (Option Event)) (i : ℕ) → ((e : Event) → In e (events_of slots) → IsKnown n e.kind) → IsWithin (claim_key (get_or slots i None)) n
claim_within n slots i all = by_slot (get_or slots i None) refl
  where
    by_slot : (o : Option Event) → get_or slots i None ≡ o → IsWithin (claim_key o) n
    by_slot None is = tt
    by_slot (Some e) is = known_within n e.kind (all e (slot_In slots i e is))
