-- The spans of groups, as a pass over the claims finds them.
use Rattle.std.proofs.Common.{◌≡◌, ℕ, zero, suc, ◌+◌, ◌<◌, ◌≤◌, inl, inr, refl, sym, ap, ◌∙◌, subst, List, [], ◌∷◌, ◌++◌, length, arith, Option, Some, None}
use Rattle.std.specs.Prelude.{slice_get, MatchOption}
use Rattle.std.proofs.lemmas.Bool.{cases_lt}
use Rattle.std.proofs.lemmas.Option.{none-some, same_Some, slice_get_within}
use Rattle.fleet_base.specs.declared.numbers.ClaimGroup.{ClaimGroup}
use Rattle.claim_reach.specs.declared.Reach.{Reach}
use Rattle.claim_reach.specs.Reaches.{IsOfGroup, SpansGroup}

-- the reach goes from the first claim of the group to the last one, of the claims in front of `high`
pub record SpansBelow (groups : List ClaimGroup) (high group : ℕ) (reach : Reach) : Type 0 where
  pub first : IsOfGroup groups group reach.first
  pub last : (d : ℕ) × IsOfGroup groups group d × (d + 1 ≡ reach.end)
  pub near : reach.end ≤ high
  pub all : (d : ℕ) → d < high → IsOfGroup groups group d → (reach.first ≤ d) × (d < reach.end)

-- the span of the group among the claims in front of `high`, where one of them is of it
abbrev pub IsSpanBelow : List ClaimGroup → ℕ → ℕ → Option Reach → Type 0
IsSpanBelow groups high group span = MatchOption span ((d : ℕ) → d < high → IsOfGroup groups group d → ⊥) (SpansBelow groups high group)

module _ (groups : List ClaimGroup) (high : ℕ) (g : ClaimGroup) (here : slice_get groups high ≡ Some g) where
  -- the claim at `high` widens the span of its group
  pub one_more : (span : Option Reach) (new : Reach) → IsSpanBelow groups high g.group span → MatchOption span (new.first ≡ high) (λ old. new.first ≡ old.first) → new.end ≡ high + 1 → SpansBelow groups (high + 1) g.group new
  one_more None new none first end = record {
    first = (g, ap (λ n. slice_get groups n) first ∙ here, refl);
    last = (high, (g, here, refl), sym end);
    near = omega arith;
    all = λ d below of. elim (cases_lt d high) [
      | inl less ↦ absurd (none d less of)
      | inr more ↦ (omega arith, omega arith)
    ];
  }
  one_more (Some old) new span first end = record {
    first = subst (λ n. IsOfGroup groups g.group n) (sym first) span.first;
    last = (high, (g, here, refl), sym end);
    near = omega arith;
    all = λ d below of. elim (cases_lt d high) [
      | inl less ↦ (let a = span.all d less of in omega arith, omega arith)
      | inr more ↦ (let n = span.near in let end = span.last.2 in let l = span.all span.last.0 (omega arith) span.last.1 in omega arith, omega arith)
    ];
  }

  at_high : (group d : ℕ) → d ≡ high → IsOfGroup groups group d → group ≡ g.group
  at_high group d at of = sym of.2 ∙ ap (λ h. h.group) (same_Some of.0 g (sym of.1 ∙ ap (λ n. slice_get groups n) at ∙ here))

  -- the claim at `high` leaves the spans of other groups
  pub others_stay : (group : ℕ) (span : Option Reach) → (group ≡ g.group → ⊥) → IsSpanBelow groups high group span → IsSpanBelow groups (high + 1) group span
  others_stay group None other none = λ d below of. elim (cases_lt d high) [
    | inl less ↦ none d less of
    | inr more ↦ other (at_high group d (omega arith) of)
  ]
  others_stay group (Some old) other span = record {
    first = span.first;
    last = span.last;
    near = let n = span.near in omega arith;
    all = λ d below of. elim (cases_lt d high) [
      | inl less ↦ span.all d less of
      | inr more ↦ absurd (other (at_high group d (omega arith) of))
    ];
  }

-- the spans among all claims
pub whole_span : (groups : List ClaimGroup) (group : ℕ) (span : Option Reach) → IsSpanBelow groups (length groups) group span → MatchOption span ((d : ℕ) → IsOfGroup groups group d → ⊥) (SpansGroup groups group)
whole_span groups group None none = λ d of. none d (slice_get_within groups d of.0 of.1) of
whole_span groups group (Some reach) span = record {
  first = span.first;
  last = span.last;
  all = λ d of. span.all d (slice_get_within groups d of.0 of.1) of;
}

-- what holds of the elements at one place of two lists, with one more in the second
pub one_pair_more : {A B : Type 0} (P : A → B → Type 0) (xs : List A) (ys : List B) (x : A) (y : B) → slice_get xs (length ys) ≡ Some x → P x y
    → ((i : ℕ) (u : A) (v : B) → slice_get xs i ≡ Some u → slice_get ys i ≡ Some v → P u v)
    → (i : ℕ) (u : A) (v : B) → slice_get xs i ≡ Some u → slice_get (ys ++ y ∷ []) i ≡ Some v → P u v
one_pair_more P [] ys x y here holds all i u v at_u at_v = absurd (none-some u at_u)
one_pair_more P (w ∷ xs) [] x y here holds all zero u v at_u at_v = subst (λ b. P u b) (same_Some y v at_v) (subst (λ a. P a y) (same_Some x u (sym here ∙ at_u)) holds)
one_pair_more P (w ∷ xs) [] x y here holds all (suc i) u v at_u at_v = absurd (none-some v at_v)
one_pair_more P (w ∷ xs) (z ∷ ys) x y here holds all zero u v at_u at_v = all zero u v at_u at_v
one_pair_more P (w ∷ xs) (z ∷ ys) x y here holds all (suc i) u v at_u at_v = one_pair_more P xs ys x y here holds (λ j. all (suc j)) i u v at_u at_v

module _ (groups : List ClaimGroup) (group : ℕ) where
  -- a group that has a claim has a span
  pub spanned : (span : Option Reach) → MatchOption span ((d : ℕ) → IsOfGroup groups group d → ⊥) (SpansGroup groups group) → span ≡ None → (d : ℕ) → IsOfGroup groups group d → ⊥
  spanned None none at d of = none d of
  spanned (Some reach) span at d of = none-some reach (sym at)

  -- the span that was found
  pub found_span : (span : Option Reach) → MatchOption span ((d : ℕ) → IsOfGroup groups group d → ⊥) (SpansGroup groups group) → (reach : Reach) → span ≡ Some reach → SpansGroup groups group reach
  found_span None none reach at = absurd (none-some reach at)
  found_span (Some old) span reach at = subst (SpansGroup groups group) (same_Some old reach at) span
