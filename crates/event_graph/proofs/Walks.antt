-- Walks along the slots of a chain.
use Rattle.std.proofs.Common.{◌≡◌, ℕ, ◌+◌, ◌-◌, ◌<◌, ◌≤◌, not, inl, inr, refl, sym, ap, ◌∙◌, subst, List, length, map, get_or, arith, Option, Some, None}
use Rattle.std.proofs.lemmas.Bool.{cases_lt, cases_eq}
use Rattle.std.proofs.lemmas.List.{get_or-map, length-map}
use Rattle.std.proofs.lemmas.Option.{none-some, same_Some}
use Rattle.fleet_base.specs.declared.numbers.Event.{Event}
use Rattle.fleet_base.specs.declared.numbers.EventNo.{EventNo}
use Rattle.fleet_model.specs.Lists.{In}
use Rattle.fleet_model.specs.Good.{IsAscending}
use Rattle.event_graph.specs.Stores.{events_of, HasEvent, HasNone, IsGreatest}
use Rattle.event_graph.proofs.Slotted.{slot_within, slot_In, In_slot, slots_apart}
use Rattle.slot_chains.specs.Slots.{IsIn, IsFirst, IsLast}
use Rattle.slot_chains.proofs.Pushes.{in_range}

-- how far it is from a slot to the end
abbrev pub ahead : ℕ → Option ℕ → ℕ
ahead n None = 0
ahead n (Some i) = n - i

-- how far it is from a slot to the front
abbrev pub back : Option ℕ → ℕ
back None = 0
back (Some i) = i + 1

-- none in front of a slot is so
abbrev pub IsPassed : List (Option Event) → (Event → Type 0) → ℕ → Type 0
IsPassed slots P low = (i : ℕ) (e : Event) → i < low → HasEvent slots i e → P e → ⊥

-- one of the events, of this number, is so
abbrev pub HasOneAt : List (Option Event) → (Event → Type 0) → EventNo → Type 0
HasOneAt slots P n = (e : Event) × In e (events_of slots) × P e × (e.no ≡ n)

-- the greatest number of one in front of a slot
abbrev pub IsBest : List (Option Event) → (Event → Type 0) → ℕ → Option EventNo → Type 0
IsBest slots P low None = IsPassed slots P low
IsBest slots P low (Some n) = HasOneAt slots P n × ((i : ℕ) (e : Event) → i < low → HasEvent slots i e → P e → e.no.0 ≤ n.0)

-- none from a place on is so
abbrev pub IsPassedBack : List (Option Event) → (Event → Type 0) → ℕ → Type 0
IsPassedBack slots P high = (i : ℕ) (e : Event) → high ≤ i → HasEvent slots i e → P e → ⊥

module _ (key : Option Event → Option ℕ) (empty : key None ≡ None) (slots : List (Option Event)) where
  -- a slot in a chain has an event of this key
  pub key_event : (k i : ℕ) → IsIn (map key slots) k i → (e : Event) × HasEvent slots i e × (key (Some e) ≡ Some k)
  key_event k i h = by_slot (get_or slots i None) refl
    where
      within : i < length slots
      within = let r = in_range (map key slots) k i h in omega (arith, length-map slots key)

      at : key (get_or slots i None) ≡ Some k
      at = sym (get_or-map key slots i None None within) ∙ h

      by_slot : (o : Option Event) → get_or slots i None ≡ o → (e : Event) × HasEvent slots i e × (key (Some e) ≡ Some k)
      by_slot None is = absurd (none-some k (sym (ap key is ∙ empty) ∙ at))
      by_slot (Some e) is = (e, is, sym (ap key is) ∙ at)

  -- the slot of an event of this key is in its chain
  pub event_key : (k i : ℕ) (e : Event) → HasEvent slots i e → key (Some e) ≡ Some k → IsIn (map key slots) k i
  event_key k i e h is = get_or-map key slots i None None (slot_within slots i e h) ∙ (ap key h ∙ is)

  -- what is in a chain's slot
  pub event_at : (k i : ℕ) (e : Event) → IsIn (map key slots) k i → HasEvent slots i e → key (Some e) ≡ Some k
  event_at k i e h has = let r = key_event k i h in ap (λ (x : Event). key (Some x)) (same_Some e r.0 (sym has ∙ r.1)) ∙ r.2

  -- a slot in a chain isn't empty
  pub not_empty : (k i : ℕ) → IsIn (map key slots) k i → get_or slots i None ≡ None → ⊥
  not_empty k i h n = let r = key_event k i h in none-some r.0 (sym n ∙ r.1)

  module _ (P : Event → Type 0) (k : ℕ) (keyed : (e : Event) → P e → key (Some e) ≡ Some k) where
    pub passed_more : (low i : ℕ) (f : Event) → IsPassed slots P low → IsFirst (map key slots) k low (Some i) → HasEvent slots i f → (P f → ⊥) → IsPassed slots P (i + 1)
    passed_more low i f passed first has not = λ j e l h p. elim (cases_lt j low) [
      | inl b ↦ passed j e b h p
      | inr g ↦ elim (cases_eq j i) [
        | inl q ↦ not (subst P (same_Some e f (sym h ∙ (ap (λ w. get_or slots w None) q ∙ has))) p)
        | inr ne ↦ first.2 j g (omega arith) (event_key k j e h (keyed e p))
      ]
    ]

    pub passed_end : (low : ℕ) → IsPassed slots P low → IsFirst (map key slots) k low None → HasNone P (events_of slots)
    passed_end low passed first = λ e m p. let r = In_slot slots e m in elim (cases_lt r.0 low) [ inl b ↦ passed r.0 e b r.1 p | inr g ↦ first r.0 g (event_key k r.0 e r.1 (keyed e p)) ]

    pub best_more : (low i : ℕ) (f : Event) (o : Option EventNo) → IsBest slots P low o → IsFirst (map key slots) k low (Some i) → HasEvent slots i f → (P f → ⊥) → IsBest slots P (i + 1) o
    best_more low i f None best first has not = passed_more low i f best first has not
    best_more low i f (Some n) best first has not = (
      best.0,
      λ j e l h p. elim (cases_lt j low) [
        | inl b ↦ best.1 j e b h p
        | inr g ↦ elim (cases_eq j i) [
          | inl q ↦ absurd (not (subst P (same_Some e f (sym h ∙ (ap (λ w. get_or slots w None) q ∙ has))) p))
          | inr ne ↦ absurd (first.2 j g (omega arith) (event_key k j e h (keyed e p)))
        ]
      ],
    )

    pub best_end : (low : ℕ) (o : Option EventNo) → IsBest slots P low o → IsFirst (map key slots) k low None → IsGreatest P (events_of slots) o
    best_end low None best first = passed_end low best first
    best_end low (Some n) best first = (best.0, λ e m p. let r = In_slot slots e m in elim (cases_lt r.0 low) [ inl b ↦ best.1 r.0 e b r.1 p | inr g ↦ absurd (first r.0 g (event_key k r.0 e r.1 (keyed e p))) ])

    module _ (least : ℕ) (rises : IsAscending least (events_of slots)) where
      pub best_new : (low i : ℕ) (f : Event) → HasEvent slots i f → P f → IsBest slots P (i + 1) (Some f.no)
      best_new low i f has is = (
        (f, slot_In slots i f has, is, refl),
        λ j e l h p. elim (cases_eq j i) [
          | inl q ↦ (let s : e ≡ f = same_Some e f (sym h ∙ (ap (λ w. get_or slots w None) q ∙ has)) in omega (arith, ap (λ (x : Event). x.no.0) s))
          | inr ne ↦ (let a = slots_apart slots least rises j i e f h has (omega arith) in omega arith)
        ],
      )

      -- none from a slot on is so, where numbers are too great there
      module _ (limit : ℕ) (below : (e : Event) → P e → e.no.0 < limit) (low i : ℕ) (f : Event) (has : HasEvent slots i f) (great : limit ≤ f.no.0) (first : IsFirst (map key slots) k low (Some i)) where
        beyond : (j : ℕ) (e : Event) → low ≤ j → HasEvent slots j e → P e → ⊥
        beyond j e l h p = elim (cases_lt j i) [
          | inl b ↦ first.2 j l b (event_key k j e h (keyed e p))
          | inr g ↦ elim (cases_eq i j) [
            | inl q ↦ (let s : e ≡ f = same_Some e f (sym h ∙ (ap (λ w. get_or slots w None) (sym q) ∙ has)) in let b = below e p in absurd (omega (arith, ap (λ (x : Event). x.no.0) s)))
            | inr ne ↦ (let a = slots_apart slots least rises i j f e has h (omega arith) in let b = below e p in absurd (omega arith))
          ]
        ]

        pub passed_beyond : IsPassed slots P low → HasNone P (events_of slots)
        passed_beyond passed = λ e m p. let r = In_slot slots e m in elim (cases_lt r.0 low) [ inl b ↦ passed r.0 e b r.1 p | inr g ↦ beyond r.0 e g r.1 p ]

        pub best_beyond : (o : Option EventNo) → IsBest slots P low o → IsGreatest P (events_of slots) o
        best_beyond None best = passed_beyond best
        best_beyond (Some n) best = (best.0, λ e m p. let r = In_slot slots e m in elim (cases_lt r.0 low) [ inl b ↦ best.1 r.0 e b r.1 p | inr g ↦ absurd (beyond r.0 e g r.1 p) ])

    pub back_more : (high i : ℕ) (f : Event) → IsPassedBack slots P high → IsLast (map key slots) k high (Some i) → HasEvent slots i f → (P f → ⊥) → IsPassedBack slots P i
    back_more high i f passed last has not = λ j e l h p. elim (cases_lt j high) [
      | inl b ↦ elim (cases_eq j i) [
        | inl q ↦ not (subst P (same_Some e f (sym h ∙ (ap (λ w. get_or slots w None) q ∙ has))) p)
        | inr ne ↦ last.2 j (omega arith) b (event_key k j e h (keyed e p))
      ]
      | inr g ↦ passed j e g h p
    ]

    pub back_end : (high : ℕ) → IsPassedBack slots P high → IsLast (map key slots) k high None → HasNone P (events_of slots)
    back_end high passed last = λ e m p. let r = In_slot slots e m in elim (cases_lt r.0 high) [ inl b ↦ last r.0 b (event_key k r.0 e r.1 (keyed e p)) | inr g ↦ passed r.0 e g r.1 p ]

    pub back_beyond : (least limit : ℕ) → IsAscending least (events_of slots) → ((e : Event) → P e → limit < e.no.0) → (high i : ℕ) (f : Event) → HasEvent slots i f → f.no.0 ≤ limit → IsLast (map key slots) k high (Some i) → IsPassedBack slots P high → HasNone P (events_of slots)
    back_beyond least limit rises above high i f has small last passed = λ e m p. let r = In_slot slots e m in elim (cases_lt r.0 high) [
      | inl b ↦ elim (cases_lt i r.0) [
        | inl a ↦ last.2 r.0 a b (event_key k r.0 e r.1 (keyed e p))
        | inr g ↦ elim (cases_eq r.0 i) [
          | inl q ↦ (let s : e ≡ f = same_Some e f (sym r.1 ∙ (ap (λ w. get_or slots w None) q ∙ has)) in let c = above e p in absurd (omega (arith, ap (λ (x : Event). x.no.0) s)))
          | inr ne ↦ (let d = slots_apart slots least rises r.0 i e f r.1 has (omega arith) in let c = above e p in absurd (omega arith))
        ]
      ]
      | inr g ↦ passed r.0 e g r.1 p
    ]
