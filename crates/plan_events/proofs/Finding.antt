-- The first number of a range that passes a test.
use Rattle.std.proofs.Common.{◌≡◌, ℕ, zero, suc, ◌+◌, ◌<◌, ◌≤◌, Bool, true, false, cond, ◌&&◌, inl, inr, refl, ap, ◌∙◌, length, arith, Some, None}
use Rattle.std.proofs.lemmas.Bool.{cases_eq}
use Rattle.std.specs.Prelude.{find}
use Rattle.std.specs.List.{range_with_len}
use Rattle.fleet_base.specs.declared.numbers.ClaimNo.{ClaimNo}
use Rattle.fleet_model.specs.Lists.{numbers_below}
use Rattle.fleet_model.specs.Sites.{Site, in_conflict}
use Rattle.fleet_model.specs.Replays.{Spot}
use Rattle.fleet_model.proofs.Lists.{In-map, In_below, In_unmap, below_In}
use Rattle.fleet_model.proofs.Tests.{any_none, In_any}
use Rattle.plan_events.specs.Clashes.{claims_of, holds_against}

module _ (p : ℕ → Bool) where
  find_from : (a n k : ℕ) → ((q : ℕ) → a ≤ q → q < k → p q ≡ false) → a ≤ k → k < a + n → p k ≡ true → find p (range_with_len a n) ≡ Some k
  find_from a zero k free low high t = absurd (omega arith)
  find_from a (suc n) k free low high t = elim (cases_eq a k) [
    | inl e ↦ ap (λ b. cond b (Some a) (find p (range_with_len (a + 1) n))) (ap p e ∙ t) ∙ ap (λ x. Some x) e
    | inr ne ↦ ap (λ b. cond b (Some a) (find p (range_with_len (a + 1) n))) (free a (omega arith) (omega arith)) ∙ find_from (a + 1) n k (λ q l h. free q (omega arith) h) (omega arith) (omega arith) t
  ]

  none_from : (a n : ℕ) → ((q : ℕ) → a ≤ q → q < a + n → p q ≡ false) → find p (range_with_len a n) ≡ None
  none_from a zero free = refl
  none_from a (suc n) free = ap (λ b. cond b (Some a) (find p (range_with_len (a + 1) n))) (free a (omega arith) (omega arith)) ∙ none_from (a + 1) n (λ q l h. free q (omega arith) (omega arith))

  -- the first number below n that passes is found
  pub first_below : (n k : ℕ) → ((q : ℕ) → q < k → p q ≡ false) → k < n → p k ≡ true → find p (numbers_below n) ≡ Some k
  first_below n k free h t = find_from 0 n k (λ q l g. free q g) (omega arith) (omega arith) t

  -- where no number below n passes none is found
  pub none_below : (n : ℕ) → ((q : ℕ) → q < n → p q ≡ false) → find p (numbers_below n) ≡ None
  none_below n free = none_from 0 n (λ q l h. free q (omega arith))

module _ (site : Site) (s : Spot) (c : ClaimNo) where
  -- the claim of this number is held, and conflicts
  abbrev pub is_against : ClaimNo → Bool
  is_against d = s.holds d && in_conflict site.groups c d

  -- no claim of the site is held against this one
  pub against_none : ((n : ℕ) → n < length site.groups → is_against (record { 0 = n }) ≡ false) → holds_against site s c ≡ false
  against_none free = any_none is_against (claims_of site) (λ d i.
      let u = In_unmap (λ n. record { 0 = n }) (numbers_below (length site.groups)) i in
      ap is_against u.2 ∙ free u.0 (below_In (length site.groups) u.0 u.1))

  -- a claim of the site is
  pub against_some : (n : ℕ) → n < length site.groups → is_against (record { 0 = n }) ≡ true → holds_against site s c ≡ true
  against_some n h t = In_any is_against (claims_of site) (In-map (λ k. record { 0 = k }) (numbers_below (length site.groups)) (In_below (length site.groups) n h)) t
