-- A slot more at the end.
use Rattle.std.proofs.Common.{◌≡◌, ◌≢◌, ℕ, zero, suc, ◌+◌, ◌-◌, ◌^◌, ◌<◌, ◌≤◌, ◌==◌, Bool, true, false, cond, ◌⊎◌, inl, inr, refl, sym, ap, ◌∙◌, subst, List, [], ◌∷◌, ◌++◌, length, get_or, set, arith, Option, Some, None, eq-eqb}
use Rattle.std.specs.List.{filter}
use Rattle.std.proofs.lemmas.Bool.{cases_lt, cases_eq, ne_eqb}
use Rattle.std.proofs.lemmas.List.{length_push, length-append, length-set, get_or_append_left, get_or_push, get_or_past, get_or-set_same, get_or-set_other}
use Rattle.std.proofs.lemmas.List.Elements.{filter-append}
use Rattle.std.proofs.lemmas.Option.{none-some, same_Some}
use Rattle.slot_chains.specs.Slots.{IsIn, IsFirst, IsLast, has_key, size_of, AreChained, linked, ended}

-- a slot in a chain is one of the slots
pub in_range : (keys : List (Option ℕ)) (k i : ℕ) → IsIn keys k i → i < length keys
in_range keys k i h = elim (cases_lt i (length keys)) [ inl l ↦ l | inr g ↦ absurd (none-some k (sym (get_or_past keys i None g) ∙ h)) ]

-- a slot is in one chain
pub one_key : (keys : List (Option ℕ)) (k q i : ℕ) → IsIn keys k i → IsIn keys q i → k ≡ q
one_key keys k q i g h = same_Some k q (sym g ∙ h)

pub length-linked : (at to : Option ℕ) (table : List (Option ℕ)) → length (linked at to table) ≡ length table
length-linked None to table = refl
length-linked (Some i) to table = length-set table i to

pub length-ended : (at : Option ℕ) (k : ℕ) (to : Option ℕ) (ends : List (Option ℕ)) → length (ended at k to ends) ≡ length ends
length-ended None k to ends = length-set ends k to
length-ended (Some i) k to ends = refl

module _ (keys : List (Option ℕ)) (o : Option ℕ) where
  abbrev more : List (Option ℕ)
  more = keys ++ o ∷ []

  old_in : (q i : ℕ) → IsIn keys q i → IsIn more q i
  old_in q i h = get_or_append_left keys (o ∷ []) None i (in_range keys q i h) ∙ h

  new_in : (q i : ℕ) → IsIn more q i → IsIn keys q i ⊎ ((i ≡ length keys) × (o ≡ Some q))
  new_in q i h = elim (cases_lt i (length keys)) [
    | inl l ↦ inl (sym (get_or_append_left keys (o ∷ []) None i l) ∙ h)
    | inr g ↦ elim (cases_eq i (length keys)) [
      | inl e ↦ inr (e, sym (get_or_push keys o None i (sym e)) ∙ h)
      | inr ne ↦ absurd (none-some q (sym (get_or_past more i None (omega (arith, length_push keys o))) ∙ h))
    ]
  ]

  -- the first slot stays, where the new one isn't the chain's or there is one already
  pub first_kept : (q low : ℕ) (s : Option ℕ) → ((o ≡ Some q) → (j : ℕ) × (low ≤ j) × IsIn keys q j) → IsFirst keys q low s → IsFirst more q low s
  first_kept q low None there h = λ i l n. elim (new_in q i n) [ inl p ↦ h i l p | inr p ↦ (let w = there p.1 in h w.0 w.1 w.2) ]
  first_kept q low (Some i) there h = (h.0, old_in q i h.1, λ j l m n. elim (new_in q j n) [ inl p ↦ h.2 j l m p | inr p ↦ (let e = p.0 in let r = in_range keys q i h.1 in absurd (omega arith)) ])

  -- the new slot is the first where there was none
  pub first_new : (q low : ℕ) → o ≡ Some q → low ≤ length keys → IsFirst keys q low None → IsFirst more q low (Some (length keys))
  first_new q low e l h = (l, get_or_push keys o None (length keys) refl ∙ e, λ j m b n. elim (new_in q j n) [ inl p ↦ h j m p | inr p ↦ (let d = p.0 in absurd (omega arith)) ])

  -- none is behind the new slot
  pub first_behind : (q : ℕ) → IsFirst more q (length keys + 1) None
  first_behind q = λ j l n. let r = in_range more q j n in absurd (omega (arith, length_push keys o))

  -- the last slot in front of a place stays
  pub last_kept : (q high : ℕ) (s : Option ℕ) → high ≤ length keys → IsLast keys q high s → IsLast more q high s
  last_kept q high None l h = λ i m n. elim (new_in q i n) [ inl p ↦ h i m p | inr p ↦ (let e = p.0 in absurd (omega arith)) ]
  last_kept q high (Some i) l h = (h.0, old_in q i h.1, λ j a b n. elim (new_in q j n) [ inl p ↦ h.2 j a b p | inr p ↦ (let e = p.0 in absurd (omega arith)) ])

  -- the last slot stays, where the new one isn't the chain's
  pub last_other : (q : ℕ) (s : Option ℕ) → (o ≡ Some q → ⊥) → IsLast keys q (length keys) s → IsLast more q (length keys + 1) s
  last_other q None ne h = λ i m n. elim (new_in q i n) [ inl p ↦ h i (in_range keys q i p) p | inr p ↦ absurd (ne p.1) ]
  last_other q (Some i) ne h = (omega (arith, h.0), old_in q i h.1, λ j a b n. elim (new_in q j n) [ inl p ↦ h.2 j a (in_range keys q j p) p | inr p ↦ absurd (ne p.1) ])

  -- the new slot is its chain's last
  pub last_new : (q : ℕ) → o ≡ Some q → IsLast more q (length keys + 1) (Some (length keys))
  last_new q e = (omega arith, get_or_push keys o None (length keys) refl ∙ e, λ j a b n. absurd (omega arith))

-- one slot more
pub size_more : (k : ℕ) (keys : List (Option ℕ)) (o : Option ℕ) → size_of k (keys ++ o ∷ []) ≡ size_of k keys + cond (has_key k o) 1 0
size_more k [] None = refl
size_more k [] (Some q) = by_test (q == k)
  where
    by_test : (b : Bool) → length (cond b (Some q ∷ []) []) ≡ 0 + cond b 1 0
    by_test true = refl
    by_test false = refl
size_more k (x ∷ keys) o = by_test (has_key k x) (size_more k keys o)
  where
    by_test : (b : Bool) → size_of k (keys ++ o ∷ []) ≡ size_of k keys + cond (has_key k o) 1 0 → length (cond b (x ∷ filter (has_key k) (keys ++ o ∷ [])) (filter (has_key k) (keys ++ o ∷ []))) ≡ length (cond b (x ∷ filter (has_key k) keys) (filter (has_key k) keys)) + cond (has_key k o) 1 0
    by_test true h = omega (arith, h)
    by_test false h = h

-- a chain has no more slots than there are
pub size_small : (k : ℕ) (keys : List (Option ℕ)) → size_of k keys ≤ length keys
size_small k [] = omega arith
size_small k (x ∷ keys) = by_test (has_key k x) (size_small k keys)
  where
    by_test : (b : Bool) → size_of k keys ≤ length keys → length (cond b (x ∷ filter (has_key k) keys) (filter (has_key k) keys)) ≤ length (x ∷ keys)
    by_test true h = omega (arith, h)
    by_test false h = omega (arith, h)

module _ (keys before behind firsts lasts : List (Option ℕ)) (sizes : List ℕ) (good : AreChained keys before behind firsts lasts sizes) (few : length keys + 1 < 2 ^ 32) where
  -- a slot in no chain
  pub free_pushed : AreChained (keys ++ None ∷ []) (before ++ None ∷ []) (behind ++ None ∷ []) firsts lasts sizes
  free_pushed = record {
    few = omega (arith, length_push {X = Option ℕ} keys None);
    few_chains = good.few_chains;
    before_long = (let a = good.before_long in omega (arith, length_push {X = Option ℕ} keys None, length_push {X = Option ℕ} before None));
    behind_long = (let a = good.behind_long in omega (arith, length_push {X = Option ℕ} keys None, length_push {X = Option ℕ} behind None));
    lasts_long = good.lasts_long;
    sizes_long = good.sizes_long;
    named = λ k i n. good.named k i (old k i n);
    first = λ k l. first_kept keys None k 0 (get_or firsts k None) (λ e. absurd (none-some k e)) (good.first k l);
    last = λ k l. subst (λ n. IsLast (keys ++ None ∷ []) k n (get_or lasts k None)) (sym (length_push {X = Option ℕ} keys None)) (last_other keys None k (get_or lasts k None) (λ e. none-some k e) (good.last k l));
    next = λ k i n. subst (λ s. IsFirst (keys ++ None ∷ []) k (i + 1) s) (sym (get_or_append_left behind (None ∷ []) None i (let a = good.behind_long in let r = in_range keys k i (old k i n) in omega arith))) (first_kept keys None k (i + 1) (get_or behind i None) (λ e. absurd (none-some k e)) (good.next k i (old k i n)));
    previous = λ k i n. subst (λ s. IsLast (keys ++ None ∷ []) k i s) (sym (get_or_append_left before (None ∷ []) None i (let a = good.before_long in let r = in_range keys k i (old k i n) in omega arith))) (last_kept keys None k i (get_or before i None) (let r = in_range keys k i (old k i n) in omega arith) (good.previous k i (old k i n)));
    size = λ k l. good.size k l ∙ sym (size_more k keys None ∙ (let e : size_of k keys + 0 ≡ size_of k keys = omega arith in e));
  }
    where
      old : (k i : ℕ) → IsIn (keys ++ None ∷ []) k i → IsIn keys k i
      old k i n = elim (new_in keys None k i n) [ inl p ↦ p | inr p ↦ absurd (none-some k p.1) ]

  module _ (k : ℕ) (chain : k < length firsts) where
    abbrev slot : ℕ
    slot = length keys

    abbrev new : List (Option ℕ)
    new = keys ++ Some k ∷ []

    other : (q : ℕ) → (q ≡ k → ⊥) → Some k ≡ Some q → ⊥
    other q ne e = ne (sym (same_Some k q e))

    -- what the first slots become, by the last slot so far
    firsts_more : (last : Option ℕ) → IsLast keys k slot last → (q : ℕ) → q < length firsts → IsFirst new q 0 (get_or (ended last k (Some slot) firsts) q None)
    firsts_more None h q l = elim (cases_eq q k) [
      | inl e ↦ subst (λ s. IsFirst new q 0 s) (sym (ap (λ n. get_or (set firsts k (Some slot)) n None) e ∙ get_or-set_same firsts k (Some slot) None chain)) (first_new keys (Some k) q 0 (ap (λ n. Some n) (sym e)) (omega arith) (λ j m n. h j (in_range keys q j n) (subst (λ w. IsIn keys w j) e n)))
      | inr ne ↦ subst (λ s. IsFirst new q 0 s) (sym (get_or-set_other firsts k q (Some slot) None ne)) (first_kept keys (Some k) q 0 (get_or firsts q None) (λ e. absurd (other q ne e)) (good.first q l))
    ]
    firsts_more (Some i) h q l = first_kept keys (Some k) q 0 (get_or firsts q None) (λ e. (i, omega arith, subst (λ w. IsIn keys w i) (same_Some k q e) h.1)) (good.first q l)

    lasts_more : (q : ℕ) → q < length firsts → IsLast new q (slot + 1) (get_or (set lasts k (Some slot)) q None)
    lasts_more q l = elim (cases_eq q k) [
      | inl e ↦ subst (λ s. IsLast new q (slot + 1) s) (sym (ap (λ n. get_or (set lasts k (Some slot)) n None) e ∙ get_or-set_same lasts k (Some slot) None (let a = good.lasts_long in omega arith))) (last_new keys (Some k) q (ap (λ n. Some n) (sym e)))
      | inr ne ↦ subst (λ s. IsLast new q (slot + 1) s) (sym (get_or-set_other lasts k q (Some slot) None ne)) (last_other keys (Some k) q (get_or lasts q None) (other q ne) (good.last q l))
    ]

    -- what the next slots become
    nexts_more : (last : Option ℕ) → IsLast keys k slot last → (q i : ℕ) → IsIn keys q i → IsFirst new q (i + 1) (get_or (linked last (Some slot) behind) i None)
    nexts_more None h q i n = first_kept keys (Some k) q (i + 1) (get_or behind i None) (λ e. absurd (h i (in_range keys q i n) (subst (λ w. IsIn keys w i) (sym (same_Some k q e)) n))) (good.next q i n)
    nexts_more (Some p) h q i n = elim (cases_eq i p) [
      | inl e ↦ (let same : k ≡ q = one_key keys k q i (subst (λ w. IsIn keys k w) (sym e) h.1) n in
          subst (λ s. IsFirst new q (i + 1) s) (sym (ap (λ w. get_or (set behind p (Some slot)) w None) e ∙ get_or-set_same behind p (Some slot) None (let a = good.behind_long in let b = h.0 in omega arith)))
          (first_new keys (Some k) q (i + 1) (ap (λ w. Some w) same) (let r = in_range keys q i n in omega arith) (λ j m u. h.2 j (omega arith) (in_range keys q j u) (subst (λ w. IsIn keys w j) (sym same) u))))
      | inr ne ↦ subst (λ s. IsFirst new q (i + 1) s) (sym (get_or-set_other behind p i (Some slot) None ne))
          (first_kept keys (Some k) q (i + 1) (get_or behind i None) (λ e. (p, elim (cases_lt i p) [ inl l ↦ omega arith | inr g ↦ absurd (h.2 i (omega arith) (in_range keys q i n) (subst (λ w. IsIn keys w i) (sym (same_Some k q e)) n)) ], subst (λ w. IsIn keys w p) (same_Some k q e) h.1)) (good.next q i n))
    ]

    pub pushed : (last : Option ℕ) → get_or lasts k None ≡ last → AreChained new (before ++ last ∷ []) (linked last (Some slot) behind ++ None ∷ []) (ended last k (Some slot) firsts) (set lasts k (Some slot)) (set sizes k (get_or sizes k 0 + 1))
    pushed last is = record {
      few = omega (arith, length_push {X = Option ℕ} keys (Some k));
      few_chains = (let a = good.few_chains in omega (arith, length-ended last k (Some slot) firsts));
      before_long = (let a = good.before_long in omega (arith, length_push {X = Option ℕ} keys (Some k), length_push {X = Option ℕ} before last));
      behind_long = (let a = good.behind_long in omega (arith, length_push {X = Option ℕ} keys (Some k), length_push {X = Option ℕ} (linked last (Some slot) behind) None, length-linked last (Some slot) behind));
      lasts_long = (let a = good.lasts_long in omega (arith, length-set {A = Option ℕ} lasts k (Some slot), length-ended last k (Some slot) firsts));
      sizes_long = (let a = good.sizes_long in omega (arith, length-set sizes k (get_or sizes k 0 + 1), length-ended last k (Some slot) firsts));
      named = λ q i n. elim (new_in keys (Some k) q i n) [ inl p ↦ (let r = good.named q i p in omega (arith, length-ended last k (Some slot) firsts)) | inr p ↦ (let e : k ≡ q = same_Some k q p.1 in omega (arith, length-ended last k (Some slot) firsts)) ];
      first = λ q l. firsts_more last was q (omega (arith, length-ended last k (Some slot) firsts));
      last = λ q l. subst (λ n. IsLast new q n (get_or (set lasts k (Some slot)) q None)) (sym (length_push {X = Option ℕ} keys (Some k))) (lasts_more q (omega (arith, length-ended last k (Some slot) firsts)));
      next = λ q i n. elim (new_in keys (Some k) q i n) [
        | inl p ↦ subst (λ s. IsFirst new q (i + 1) s) (sym (get_or_append_left (linked last (Some slot) behind) (None ∷ []) None i (let a = good.behind_long in let r = in_range keys q i p in omega (arith, length-linked last (Some slot) behind)))) (nexts_more last was q i p)
        | inr p ↦ subst (λ s. IsFirst new q (i + 1) s) (sym (get_or_push (linked last (Some slot) behind) None None i (let a = good.behind_long in let e = p.0 in omega (arith, length-linked last (Some slot) behind)))) (subst (λ w. IsFirst new q (w + 1) None) (sym p.0) (first_behind keys (Some k) q))
      ];
      previous = λ q i n. elim (new_in keys (Some k) q i n) [
        | inl p ↦ subst (λ s. IsLast new q i s) (sym (get_or_append_left before (last ∷ []) None i (let a = good.before_long in let r = in_range keys q i p in omega arith))) (last_kept keys (Some k) q i (get_or before i None) (let r = in_range keys q i p in omega arith) (good.previous q i p))
        | inr p ↦ subst (λ s. IsLast new q i s) (sym (get_or_push before last None i (let a = good.before_long in let e = p.0 in omega arith))) (last_kept keys (Some k) q i last (let e = p.0 in omega arith) (subst (λ w. IsLast keys q w last) (sym p.0) (subst (λ w. IsLast keys w slot last) (same_Some k q p.1) was)))
      ];
      size = λ q l. elim (cases_eq q k) [
        | inl e ↦ ap (λ w. get_or (set sizes k (get_or sizes k 0 + 1)) w 0) e ∙ (get_or-set_same sizes k (get_or sizes k 0 + 1) 0 (let a = good.sizes_long in omega arith) ∙ (ap (λ w. w + 1) (good.size k chain) ∙ sym (ap (λ w. size_of w new) e ∙ (size_more k keys (Some k) ∙ ap (λ b. size_of k keys + cond b 1 0) (eq-eqb k k refl)))))
        | inr ne ↦ get_or-set_other sizes k q (get_or sizes k 0 + 1) 0 ne ∙ (good.size q (omega (arith, length-ended last k (Some slot) firsts)) ∙ sym (size_more q keys (Some k) ∙ (ap (λ b. size_of q keys + cond b 1 0) (ne_eqb k q (λ w. ne (sym w))) ∙ (let z : size_of q keys + 0 ≡ size_of q keys = omega arith in z))))
      ];
    }
      where
        was : IsLast keys k slot last
        was = subst (λ s. IsLast keys k slot s) is (good.last k chain)
