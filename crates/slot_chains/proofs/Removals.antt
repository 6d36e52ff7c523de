-- A slot leaves its chain.
use Rattle.std.proofs.Common.{◌≡◌, ◌≢◌, ℕ, zero, suc, ◌+◌, ◌-◌, ◌^◌, ◌<◌, ◌≤◌, ◌==◌, Bool, true, false, cond, ◌⊎◌, inl, inr, refl, sym, ap, ◌∙◌, subst, List, [], ◌∷◌, ◌++◌, length, get_or, set, arith, Option, Some, None, eq-eqb}
use Rattle.std.specs.List.{filter}
use Rattle.std.proofs.lemmas.Bool.{cases_lt, cases_eq, cases_order, ne_eqb}
use Rattle.std.proofs.lemmas.List.{length-set, get_or-set_same, get_or-set_other}
use Rattle.std.proofs.lemmas.Option.{none-some, same_Some}
use Rattle.slot_chains.specs.Slots.{IsIn, IsFirst, IsLast, has_key, size_of, AreChained, linked, ended}
use Rattle.slot_chains.proofs.Pushes.{in_range, one_key, length-linked, length-ended}

-- one slot less
pub size_less : (k : ℕ) (keys : List (Option ℕ)) (i q : ℕ) → IsIn keys q i → size_of k (set keys i None) + cond (q == k) 1 0 ≡ size_of k keys
size_less k [] i q h = absurd (none-some q h)
size_less k (x ∷ keys) zero q h = ap (λ o. size_of k keys + cond (has_key k o) 1 0) (sym h) ∙ by_test (has_key k x)
  where
    by_test : (b : Bool) → size_of k keys + cond b 1 0 ≡ length (cond b (x ∷ filter (has_key k) keys) (filter (has_key k) keys))
    by_test true = omega arith
    by_test false = omega arith
size_less k (x ∷ keys) (suc i) q h = by_test (has_key k x) (size_less k keys i q h)
  where
    by_test : (b : Bool) → size_of k (set keys i None) + cond (q == k) 1 0 ≡ size_of k keys → length (cond b (x ∷ filter (has_key k) (set keys i None)) (filter (has_key k) (set keys i None))) + cond (q == k) 1 0 ≡ length (cond b (x ∷ filter (has_key k) keys) (filter (has_key k) keys))
    by_test true h = omega (arith, h)
    by_test false h = h

module _ (keys : List (Option ℕ)) (k i : ℕ) (here : IsIn keys k i) where
  abbrev less : List (Option ℕ)
  less = set keys i None

  old_in : (q j : ℕ) → IsIn less q j → IsIn keys q j × (j ≡ i → ⊥)
  old_in q j h = elim (cases_eq j i) [
    | inl e ↦ absurd (none-some q (sym (ap (λ n. get_or less n None) e ∙ get_or-set_same keys i None None (in_range keys k i here)) ∙ h))
    | inr ne ↦ (sym (get_or-set_other keys i j None None ne) ∙ h, ne)
  ]

  new_in : (q j : ℕ) → IsIn keys q j → (j ≡ i → ⊥) → IsIn less q j
  new_in q j h ne = get_or-set_other keys i j None None ne ∙ h

  pub first_kept : (q low : ℕ) (s : Option ℕ) → (s ≡ Some i → ⊥) → IsFirst keys q low s → IsFirst less q low s
  first_kept q low None ne h = λ j l n. h j l (old_in q j n).0
  first_kept q low (Some j) ne h = (h.0, new_in q j h.1 (λ e. ne (ap (λ n. Some n) e)), λ m l b n. h.2 m l b (old_in q m n).0)

  -- the slot behind is the first from where the leaving one was
  pub first_over : (low : ℕ) (s : Option ℕ) → low ≤ i → ((j : ℕ) → low ≤ j → j < i → IsIn keys k j → ⊥) → IsFirst keys k (i + 1) s → IsFirst less k low s
  first_over low None l none h = λ j m n. let o = old_in k j n in elim (cases_order j i) [ inl e ↦ absurd (o.1 e) | inr c ↦ (elim c [ inl b ↦ none j m b o.0 | inr a ↦ h j (omega arith) o.0 ]) ]
  first_over low (Some p) l none h = (
    let a = h.0 in omega arith,
    new_in k p h.1 (λ e. let a = h.0 in absurd (omega arith)),
    λ j m b n. let o = old_in k j n in elim (cases_order j i) [ inl e ↦ absurd (o.1 e) | inr c ↦ (elim c [ inl d ↦ none j m d o.0 | inr a ↦ h.2 j (omega arith) b o.0 ]) ],
  )

  pub last_kept : (q high : ℕ) (s : Option ℕ) → (s ≡ Some i → ⊥) → IsLast keys q high s → IsLast less q high s
  last_kept q high None ne h = λ j l n. h j l (old_in q j n).0
  last_kept q high (Some j) ne h = (h.0, new_in q j h.1 (λ e. ne (ap (λ n. Some n) e)), λ m l b n. h.2 m l b (old_in q m n).0)

  -- the slot in front is the last up to where the leaving one was
  pub last_over : (high : ℕ) (s : Option ℕ) → i < high → ((j : ℕ) → i < j → j < high → IsIn keys k j → ⊥) → IsLast keys k i s → IsLast less k high s
  last_over high None l none h = λ j m n. let o = old_in k j n in elim (cases_order j i) [ inl e ↦ absurd (o.1 e) | inr c ↦ (elim c [ inl b ↦ h j b o.0 | inr a ↦ none j a m o.0 ]) ]
  last_over high (Some p) l none h = (
    let a = h.0 in omega arith,
    new_in k p h.1 (λ e. let a = h.0 in absurd (omega arith)),
    λ j m b n. let o = old_in k j n in elim (cases_order j i) [ inl e ↦ absurd (o.1 e) | inr c ↦ (elim c [ inl d ↦ h.2 j m d o.0 | inr a ↦ none j a b o.0 ]) ],
  )

  -- the slot whose next one leaves is the one in front of it
  not_next : (before s : Option ℕ) → IsLast keys k i before → (q j : ℕ) → IsIn keys q j → (before ≡ Some j → ⊥) → IsFirst keys q (j + 1) s → s ≡ Some i → ⊥
  not_next before s back q j n ne first e = by_before before back ne (subst (λ t. IsFirst keys q (j + 1) t) e first)
    where
      by_before : (before : Option ℕ) → IsLast keys k i before → (before ≡ Some j → ⊥) → IsFirst keys q (j + 1) (Some i) → ⊥
      by_before None back ne first = back j (let a = first.0 in omega arith) (subst (λ w. IsIn keys w j) (sym (one_key keys k q i here first.1)) n)
      by_before (Some p) back ne first = elim (cases_order p j) [
        | inl d ↦ ne (ap (λ w. Some w) d)
        | inr c ↦ (elim c [
          | inl l ↦ back.2 j l (let a = first.0 in omega arith) (subst (λ w. IsIn keys w j) (sym (one_key keys k q i here first.1)) n)
          | inr g ↦ first.2 p (omega arith) back.0 (subst (λ w. IsIn keys w p) (one_key keys k q i here first.1) back.1)
        ])
      ]

  -- and likewise behind it
  not_previous : (behind s : Option ℕ) → IsFirst keys k (i + 1) behind → (q j : ℕ) → IsIn keys q j → (behind ≡ Some j → ⊥) → IsLast keys q j s → s ≡ Some i → ⊥
  not_previous behind s next q j n ne last e = by_behind behind next ne (subst (λ t. IsLast keys q j t) e last)
    where
      by_behind : (behind : Option ℕ) → IsFirst keys k (i + 1) behind → (behind ≡ Some j → ⊥) → IsLast keys q j (Some i) → ⊥
      by_behind None next ne last = next j (let a = last.0 in omega arith) (subst (λ w. IsIn keys w j) (sym (one_key keys k q i here last.1)) n)
      by_behind (Some p) next ne last = elim (cases_order p j) [
        | inl d ↦ ne (ap (λ w. Some w) d)
        | inr c ↦ (elim c [
          | inl l ↦ last.2 p (let a = next.0 in omega arith) l (subst (λ w. IsIn keys w p) (one_key keys k q i here last.1) next.1)
          | inr g ↦ next.2 j (let a = last.0 in omega arith) g (subst (λ w. IsIn keys w j) (sym (one_key keys k q i here last.1)) n)
        ])
      ]

module _ (keys before behind firsts lasts : List (Option ℕ)) (sizes : List ℕ) (good : AreChained keys before behind firsts lasts sizes) (k i : ℕ) (here : IsIn keys k i) where
  abbrev new : List (Option ℕ)
  new = set keys i None

  within : i < length keys
  within = in_range keys k i here

  chain : k < length firsts
  chain = good.named k i here

  firsts_less : (front back : Option ℕ) → IsLast keys k i front → IsFirst keys k (i + 1) back → (q : ℕ) → q < length firsts → IsFirst new q 0 (get_or (ended front k back firsts) q None)
  firsts_less None back f b q l = elim (cases_eq q k) [
    | inl e ↦ subst (λ s. IsFirst new q 0 s) (sym (ap (λ n. get_or (set firsts k back) n None) e ∙ get_or-set_same firsts k back None chain)) (subst (λ w. IsFirst new w 0 back) (sym e) (first_over keys k i here 0 back (omega arith) (λ j m d n. f j d n) b))
    | inr ne ↦ subst (λ s. IsFirst new q 0 s) (sym (get_or-set_other firsts k q back None ne)) (first_kept keys k i here q 0 (get_or firsts q None) (λ e. ne (sym (one_key keys k q i here (subst (λ s. IsFirst keys q 0 s) e (good.first q l)).1))) (good.first q l))
  ]
  firsts_less (Some p) back f b q l = first_kept keys k i here q 0 (get_or firsts q None) (λ e. let g = subst (λ s. IsFirst keys q 0 s) e (good.first q l) in g.2 p (omega arith) f.0 (subst (λ w. IsIn keys w p) (one_key keys k q i here g.1) f.1)) (good.first q l)

  lasts_less : (front back : Option ℕ) → IsLast keys k i front → IsFirst keys k (i + 1) back → (q : ℕ) → q < length firsts → IsLast new q (length keys) (get_or (ended back k front lasts) q None)
  lasts_less front None f b q l = elim (cases_eq q k) [
    | inl e ↦ subst (λ s. IsLast new q (length keys) s) (sym (ap (λ n. get_or (set lasts k front) n None) e ∙ get_or-set_same lasts k front None (let a = good.lasts_long in let c = chain in omega arith))) (subst (λ w. IsLast new w (length keys) front) (sym e) (last_over keys k i here (length keys) front within (λ j m d n. b j (omega arith) n) f))
    | inr ne ↦ subst (λ s. IsLast new q (length keys) s) (sym (get_or-set_other lasts k q front None ne)) (last_kept keys k i here q (length keys) (get_or lasts q None) (λ e. ne (sym (one_key keys k q i here (subst (λ s. IsLast keys q (length keys) s) e (good.last q l)).1))) (good.last q l))
  ]
  lasts_less front (Some p) f b q l = last_kept keys k i here q (length keys) (get_or lasts q None) (λ e. let g = subst (λ s. IsLast keys q (length keys) s) e (good.last q l) in g.2 p (let a = b.0 in omega arith) (in_range keys k p b.1) (subst (λ w. IsIn keys w p) (one_key keys k q i here g.1) b.1)) (good.last q l)

  nexts_less : (front back : Option ℕ) → IsLast keys k i front → IsFirst keys k (i + 1) back → (q j : ℕ) → IsIn keys q j → (j ≡ i → ⊥) → IsFirst new q (j + 1) (get_or (linked front back behind) j None)
  nexts_less None back f b q j n d = first_kept keys k i here q (j + 1) (get_or behind j None) (not_next keys k i here None (get_or behind j None) f q j n (λ e. none-some j e) (good.next q j n)) (good.next q j n)
  nexts_less (Some p) back f b q j n d = elim (cases_eq j p) [
    | inl e ↦ (let same : k ≡ q = one_key keys k q j (subst (λ w. IsIn keys k w) (sym e) f.1) n in
        subst (λ s. IsFirst new q (j + 1) s) (sym (ap (λ w. get_or (set behind p back) w None) e ∙ get_or-set_same behind p back None (let a = good.behind_long in let c = f.0 in let r = within in omega arith)))
        (subst (λ w. IsFirst new w (j + 1) back) same (first_over keys k i here (j + 1) back (let c = f.0 in omega arith) (λ m l u v. f.2 m (omega arith) u v) b)))
    | inr ne ↦ subst (λ s. IsFirst new q (j + 1) s) (sym (get_or-set_other behind p j back None ne))
        (first_kept keys k i here q (j + 1) (get_or behind j None) (not_next keys k i here (Some p) (get_or behind j None) f q j n (λ e. ne (sym (same_Some p j e))) (good.next q j n)) (good.next q j n))
  ]

  previous_less : (front back : Option ℕ) → IsLast keys k i front → IsFirst keys k (i + 1) back → (q j : ℕ) → IsIn keys q j → (j ≡ i → ⊥) → IsLast new q j (get_or (linked back front before) j None)
  previous_less front None f b q j n d = last_kept keys k i here q j (get_or before j None) (not_previous keys k i here None (get_or before j None) b q j n (λ e. none-some j e) (good.previous q j n)) (good.previous q j n)
  previous_less front (Some p) f b q j n d = elim (cases_eq j p) [
    | inl e ↦ (let same : k ≡ q = one_key keys k q j (subst (λ w. IsIn keys k w) (sym e) b.1) n in
        subst (λ s. IsLast new q j s) (sym (ap (λ w. get_or (set before p front) w None) e ∙ get_or-set_same before p front None (let a = good.before_long in let r = in_range keys k p b.1 in omega arith)))
        (subst (λ w. IsLast new w j front) same (last_over keys k i here j front (let c = b.0 in omega arith) (λ m l u v. b.2 m (omega arith) (omega arith) v) f)))
    | inr ne ↦ subst (λ s. IsLast new q j s) (sym (get_or-set_other before p j front None ne))
        (last_kept keys k i here q j (get_or before j None) (not_previous keys k i here (Some p) (get_or before j None) b q j n (λ e. ne (sym (same_Some p j e))) (good.previous q j n)) (good.previous q j n))
  ]

  pub removed : (front back : Option ℕ) → get_or before i None ≡ front → get_or behind i None ≡ back → AreChained new (linked back front before) (linked front back behind) (ended front k back firsts) (ended back k front lasts) (set sizes k (get_or sizes k 0 - 1))
  removed front back is_front is_back = record {
    few = (let a = good.few in omega (arith, length-set {A = Option ℕ} keys i None));
    few_chains = (let a = good.few_chains in omega (arith, length-ended front k back firsts));
    before_long = (let a = good.before_long in omega (arith, length-set {A = Option ℕ} keys i None, length-linked back front before));
    behind_long = (let a = good.behind_long in omega (arith, length-set {A = Option ℕ} keys i None, length-linked front back behind));
    lasts_long = (let a = good.lasts_long in omega (arith, length-ended back k front lasts, length-ended front k back firsts));
    sizes_long = (let a = good.sizes_long in omega (arith, length-set sizes k (get_or sizes k 0 - 1), length-ended front k back firsts));
    named = λ q j n. let r = good.named q j (old_in keys k i here q j n).0 in omega (arith, length-ended front k back firsts);
    first = λ q l. firsts_less front back f b q (omega (arith, length-ended front k back firsts));
    last = λ q l. subst (λ w. IsLast new q w (get_or (ended back k front lasts) q None)) (sym (length-set {A = Option ℕ} keys i None)) (lasts_less front back f b q (omega (arith, length-ended front k back firsts)));
    next = λ q j n. (let o = old_in keys k i here q j n in nexts_less front back f b q j o.0 o.1);
    previous = λ q j n. (let o = old_in keys k i here q j n in previous_less front back f b q j o.0 o.1);
    size = λ q l. elim (cases_eq q k) [
      | inl e ↦ ap (λ w. get_or (set sizes k (get_or sizes k 0 - 1)) w 0) e ∙ (get_or-set_same sizes k (get_or sizes k 0 - 1) 0 (let a = good.sizes_long in let c = chain in omega arith)
          ∙ (let s = good.size k chain in let t : size_of k new + 1 ≡ size_of k keys = ap (λ t. size_of k new + cond t 1 0) (sym (eq-eqb k k refl)) ∙ size_less k keys i k here in let u : size_of q new ≡ size_of k new = ap (λ w. size_of w new) e in let v : get_or sizes k 0 - 1 ≡ size_of q new = omega arith in v))
      | inr ne ↦ get_or-set_other sizes k q (get_or sizes k 0 - 1) 0 ne
          ∙ (good.size q (omega (arith, length-ended front k back firsts)) ∙ (let t : size_of q new + 0 ≡ size_of q keys = ap (λ t. size_of q new + cond t 1 0) (sym (ne_eqb k q (λ w. ne (sym w)))) ∙ size_less q keys i k here in let v : size_of q keys ≡ size_of q new = omega arith in v))
    ];
  }
    where
      f : IsLast keys k i front
      f = subst (λ s. IsLast keys k i s) is_front (good.previous k i here)

      b : IsFirst keys k (i + 1) back
      b = subst (λ s. IsFirst keys k (i + 1) s) is_back (good.next k i here)

  -- the chain isn't empty
  pub some_left : 0 < get_or sizes k 0
  some_left = let s = good.size k chain in let t : size_of k new + 1 ≡ size_of k keys = ap (λ t. size_of k new + cond t 1 0) (sym (eq-eqb k k refl)) ∙ size_less k keys i k here in omega arith
