-- One queue of many changes.
use Rattle.std.proofs.Common.{◌≡◌, ℕ, zero, suc, ◌+◌, ◌-◌, ◌^◌, ◌<◌, ◌≤◌, ◌⊎◌, inl, inr, refl, sym, ap, ◌∙◌, subst, List, [], ◌∷◌, ◌++◌, length, map, get_or, set, take, drop, replicate, arith, Option, Some, None}
use Rattle.std.specs.Prelude.{slice_get}
use Rattle.std.specs.VecDeque.{deque_len, deque_capacity}
use Rattle.std.specs.declared.collections.VecDeque.{VecDeque}
use Rattle.std.specs.declared.alloc.Global.{Global}
use Rattle.std.proofs.lemmas.Bool.{cases_eq}
use Rattle.std.proofs.lemmas.List.{map-set, get_or-map, length-set, length-map, length-replicate, set-append_right, set-get_or, append_assoc, replicate_more, drop_more}
use Rattle.std.proofs.lemmas.Option.{none-some, same_Some, slice_get-get_or}
use Rattle.number_queues.specs.Queues.{queue_of, items_of, IsRoomy, AreRoomy}

module _ {A : Type 0} where
  -- what is at a place after a write
  pub get_set : (xs : List A) (k j : ℕ) (y z : A) → slice_get (set xs k y) j ≡ Some z → ((j ≡ k) × (z ≡ y)) ⊎ ((j ≡ k → ⊥) × (slice_get xs j ≡ Some z))
  get_set [] k j y z h = absurd (none-some z h)
  get_set (x ∷ xs) zero zero y z h = inl (refl, same_Some z y (sym h))
  get_set (x ∷ xs) zero (suc j) y z h = inr (λ e. omega (arith, e), h)
  get_set (x ∷ xs) (suc k) zero y z h = inr (λ e. omega (arith, e), h)
  get_set (x ∷ xs) (suc k) (suc j) y z h = elim (get_set xs k j y z h) [ inl e ↦ inl (ap (λ n. suc n) e.0, e.1) | inr e ↦ inr (λ q. e.0 (omega (arith, q)), e.1) ]

  -- and after a push
  pub get_push : (xs : List A) (j : ℕ) (y z : A) → slice_get (xs ++ y ∷ []) j ≡ Some z → (slice_get xs j ≡ Some z) ⊎ (z ≡ y)
  get_push [] zero y z h = inr (same_Some z y (sym h))
  get_push [] (suc j) y z h = absurd (none-some z h)
  get_push (x ∷ xs) zero y z h = inl h
  get_push (x ∷ xs) (suc j) y z h = get_push xs j y z h

module _ (qs : List (VecDeque ℕ Global)) (k : ℕ) (q : VecDeque ℕ Global) (within : k < length qs) (read : q ≡ get_or qs k q) where
  pub queue_read : queue_of k (map items_of qs) ≡ q.items
  queue_read = get_or-map items_of qs k q [] within ∙ ap items_of (sym read)

  pub queue_set : (new : VecDeque ℕ Global) (f : List ℕ → List ℕ) → new.items ≡ f q.items → map items_of (set qs k new) ≡ set (map items_of qs) k (f (queue_of k (map items_of qs)))
  queue_set new f e = map-set items_of qs k new ∙ ap (λ w. set (map items_of qs) k w) (e ∙ ap f (sym queue_read))

  pub queue_same : (new : VecDeque ℕ Global) → new.items ≡ q.items → map items_of (set qs k new) ≡ map items_of qs
  queue_same new e = map-set items_of qs k new ∙ (ap (λ w. set (map items_of qs) k w) (e ∙ sym queue_read) ∙ set-get_or (map items_of qs) k [])

  pub old_roomy : (room : ℕ) → AreRoomy room qs → IsRoomy room q
  old_roomy room all = all.roomy k q (slice_get-get_or qs k q within ∙ ap (λ x. Some x) (sym read))

-- one queue changes, with room
pub roomy_set : (room : ℕ) (qs : List (VecDeque ℕ Global)) (k : ℕ) (new : VecDeque ℕ Global) → AreRoomy room qs → IsRoomy room new → AreRoomy room (set qs k new)
roomy_set room qs k new all one = record {
  few = (let a = all.few in omega (arith, length-set qs k new));
  roomy = λ j q h. elim (get_set qs k j new q h) [ inl e ↦ subst (λ x. IsRoomy room x) (sym e.1) one | inr e ↦ all.roomy j q e.1 ];
}

-- one more of the queues is emptied
pub one_cleared : (qs old : List (VecDeque ℕ Global)) (k : ℕ) (new : VecDeque ℕ Global) → k < length old → new.items ≡ [] → map items_of qs ≡ replicate k [] ++ drop k (map items_of old) → map items_of (set qs k new) ≡ replicate (k + 1) [] ++ drop (k + 1) (map items_of old)
one_cleared qs old k new l e h =
    map-set items_of qs k new ∙ (ap (λ xs. set xs k new.items) (h ∙ ap (λ xs. replicate k [] ++ xs) (drop_more (map items_of old) k [] (omega (arith, length-map old items_of))))
    ∙ (set-append_right (replicate k []) (get_or (map items_of old) k [] ∷ drop (k + 1) (map items_of old)) k k new.items (length-replicate k []) (omega arith)
    ∙ (ap (λ n. replicate k [] ++ set (get_or (map items_of old) k [] ∷ drop (k + 1) (map items_of old)) n new.items) (let z : k - k ≡ 0 = omega arith in z)
    ∙ (ap (λ x. replicate k [] ++ x ∷ drop (k + 1) (map items_of old)) e
    ∙ (sym (append_assoc (replicate k []) ([] ∷ []) (drop (k + 1) (map items_of old))) ∙ ap (λ xs. xs ++ drop (k + 1) (map items_of old)) (replicate_more k []))))))
