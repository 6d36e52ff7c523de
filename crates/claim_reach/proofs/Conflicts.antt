-- All claims in conflict with a claim are within its reach.
use Rattle.std.proofs.Common.{◌≡◌, ℕ, ◌+◌, ◌<◌, ◌≤◌, ◌==◌, true, false, not, ◌||◌, refl, sym, ap, ◌∙◌, List, length, get_or, arith, Option, Some, None}
use Rattle.std.specs.Prelude.{slice_get}
use Rattle.std.proofs.lemmas.Bool.{both_ways, eqb-true, and_parts}
use Rattle.std.proofs.lemmas.Option.{none-some, slice_get_within, slice_get-get_or}
use Rattle.fleet_base.specs.declared.numbers.ClaimGroup.{ClaimGroup}
use Rattle.fleet_base.specs.declared.numbers.ClaimNo.{ClaimNo}
use Rattle.fleet_model.specs.Sites.{exclude, in_conflict}
use Rattle.claim_reach.specs.declared.Reach.{Reach}
use Rattle.claim_reach.specs.Reaches.{IsOfGroup, AreReaches, IsSingle}

-- claims in conflict are of one group
pub same_group : (groups : List ClaimGroup) (c d : ClaimNo) → in_conflict groups c d ≡ true → (g : ClaimGroup) × (slice_get groups c.0 ≡ Some g) × IsOfGroup groups g.group d.0
unfolding in_conflict
same_group groups c d k = by_groups (slice_get groups c.0) (slice_get groups d.0) refl refl k
  where
    by_groups : (o p : Option ClaimGroup) → slice_get groups c.0 ≡ o → slice_get groups d.0 ≡ p → exclude o p (c.0 == d.0) ≡ true → (g : ClaimGroup) × (slice_get groups c.0 ≡ Some g) × IsOfGroup groups g.group d.0
    by_groups None p a b x = absurd (both_ways false refl x)
    by_groups (Some g) None a b x = absurd (both_ways false refl x)
    by_groups (Some g) (Some h) a b x = (g, a, (h, b, sym (eqb-true g.group h.group (and_parts (g.group == h.group) (not (c.0 == d.0) || g.alone) x).0)))

module _ (groups : List ClaimGroup) (reaches : List Reach) (reached : AreReaches groups reaches) where
  blank : ClaimGroup
  blank = record { group = 0; alone = true }

  -- a claim with a reach has a group
  has_group : (c : ℕ) (reach : Reach) → slice_get reaches c ≡ Some reach → slice_get groups c ≡ Some (get_or groups c blank)
  has_group c reach at =
      let within = slice_get_within reaches c reach at in
      slice_get-get_or groups c blank (let long = reached.long in omega arith)

  pub conflict_within : (c d : ClaimNo) (reach : Reach) → slice_get reaches c.0 ≡ Some reach → in_conflict groups c d ≡ true → (reach.first ≤ d.0) × (d.0 < reach.end)
  conflict_within c d reach at k = let s = same_group groups c d k in (reached.spans c.0 s.0 reach s.1 at).all d.0 s.2

  -- a claim without a reach has no conflict
  pub no_conflict : (c d : ClaimNo) → slice_get reaches c.0 ≡ None → in_conflict groups c d ≡ true → ⊥
  no_conflict c d at k =
      let s = same_group groups c d k in
      let within = slice_get_within groups c.0 s.0 s.1 in
      let none : Reach = record { first = 0; end = 0 } in
      none-some (get_or reaches c.0 none) (sym at ∙ slice_get-get_or reaches c.0 none (let long = reached.long in omega arith))

  -- the claims of a reach are claims
  pub reach_end : (c : ℕ) (reach : Reach) → slice_get reaches c ≡ Some reach → reach.end ≤ length groups
  reach_end c reach at =
      let last = (reached.spans c (get_or groups c blank) reach (has_group c reach at) at).last in
      let within = slice_get_within groups last.0 last.1.0 last.1.1 in
      let end = last.2 in
      omega arith

  -- the reach of the only claim of a group
  pub single_reach : (c : ℕ) (reach : Reach) → slice_get reaches c ≡ Some reach → IsSingle groups c → (reach.first ≡ c) × (reach.end ≡ c + 1)
  single_reach c reach at single =
      let g = get_or groups c blank in
      let group = has_group c reach at in
      let span = reached.spans c g reach group at in
      let last = span.last in
      (single g reach.first group span.first, sym last.2 ∙ ap (λ d. d + 1) (single g last.0 group last.1))
