-- The least blocker, as the needed claims are gone through.
use Rattle.std.proofs.Common.{◌≡◌, ℕ, ◌+◌, ◌<◌, ◌≤◌, Bool, true, false, not, ◌&&◌, ◌==◌, inl, inr, sym, ap, ◌∙◌, List, [], length, Option, None, Some, arith}
use Rattle.std.proofs.lemmas.Bool.{and_from, and_left, and_parts, and_right, both_ways, cases_eq, cases_lt, false_from_ne_true}
use Rattle.std.proofs.lemmas.List.{get_or_past}
use Rattle.std.specs.Ordering.{nat_cmp}
use Rattle.std.specs.FinSet.{FinSet, contains}
use Rattle.std.specs.Option.{is_some}
use Rattle.fleet_model.specs.Lists.{numbers_below}
use Rattle.fleet_model.proofs.Lists.{In_below}
use Rattle.fleet_model.proofs.Tests.{In_any, any_none}
use Rattle.deferral.specs.Backlogs.{Backlog, blocks, end_claims, is_kept, is_kept_from}
use Rattle.deferral.specs.Tallies.{is_marked, IsLeastOther}
use Rattle.deferral.proofs.Relations.{kept_everywhere}

module _ (b : Backlog) (r : ℕ) (needs : FinSet nat_cmp) (sets : List ℕ) (long : length sets ≡ length b.groups) (shown : (c q : ℕ) → c < length b.groups → is_marked sets c q ≡ is_kept b.groups (end_claims b q) c) where
  -- no robot but r has the claim in its end's sets
  free_claim : (c q : ℕ) → ((p : ℕ) → (not (p == r) && is_marked sets c p) ≡ false) → blocks b r needs c q ≡ false
  free_claim c q free = and_right (contains needs c) _ (ap (λ t. not (q == r) && t) (sym (kept_everywhere b.groups sets (end_claims b q) q long (λ d. shown d q) c)) ∙ free q)

  -- one claim more that no other robot's end keeps
  pub blocks_more : (from found : ℕ) → ((c : ℕ) → from ≤ c → contains needs c ≡ true → found ≤ c) → ((p : ℕ) → (not (p == r) && is_marked sets found p) ≡ false)
      → ((c q : ℕ) → c < from → blocks b r needs c q ≡ false) → (c q : ℕ) → c < found + 1 → blocks b r needs c q ≡ false
  blocks_more from found least free before c q below = elim (cases_lt c from) [
    | inl earlier ↦ before c q earlier
    | inr later ↦ elim (cases_eq c found) [
      | inl same ↦ ap (λ k. blocks b r needs k q) same ∙ free_claim found q free
      | inr other ↦ and_left (contains needs c) _ (false_from_ne_true (contains needs c) (λ member. let l = least c later member in absurd (omega arith)))
    ]
  ]

-- the least keeper other than r tells whether there is one
module _ (b : Backlog) (r : ℕ) (sets : List ℕ) (long : length sets ≡ length b.groups) (shown : (c q : ℕ) → c < length b.groups → is_marked sets c q ≡ is_kept b.groups (end_claims b q) c) (c : ℕ) where
  kept_here : (q : ℕ) → is_marked sets c q ≡ is_kept b.groups (end_claims b q) c
  kept_here q = kept_everywhere b.groups sets (end_claims b q) q long (λ d. shown d q) c

  abbrev by_other : ℕ → Bool
  by_other q = not (q == r) && is_kept b.groups (end_claims b q) c

  -- who keeps a claim has an end
  has_end : (q : ℕ) → is_kept b.groups (end_claims b q) c ≡ true → q < length b.ends
  has_end q kept = elim (cases_lt q (length b.ends)) [
    | inl within ↦ within
    | inr past ↦ absurd (both_ways (is_kept b.groups (end_claims b q) c) (ap (λ e. is_kept b.groups e c) (get_or_past b.ends q [] past)) kept)
  ]

  pub keeper_tells : (o : Option ℕ) → IsLeastOther sets c r o → is_some o ≡ is_kept_from b r c
  keeper_tells None none = sym (any_none by_other (numbers_below (length b.ends)) (λ q _. ap (λ t. not (q == r) && t) (sym (kept_here q)) ∙ none q))
  keeper_tells (Some by) least =
      let parts = and_parts (not (by == r)) (is_marked sets c by) least.0 in
      let kept = sym (kept_here by) ∙ parts.1 in
      sym (In_any by_other (numbers_below (length b.ends)) (In_below (length b.ends) by (has_end by kept)) (and_from (not (by == r)) (is_kept b.groups (end_claims b by) c) parts.0 kept))
