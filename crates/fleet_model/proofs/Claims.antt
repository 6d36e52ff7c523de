-- Conflicts go both ways, and no footprint has a claim twice.
use Rattle.std.proofs.Common.{◌≡◌, ℕ, ◌+◌, ◌<◌, true, false, ◌==◌, ◌⊎◌, inl, inr, refl, sym, List, [], ◌∷◌, arith, eq-eqb, Option, Some, None}
use Rattle.std.proofs.lemmas.Bool.{both_ways, cases_Bool, eqb-true, ne_eqb, and_parts, and_from, or_from}
use Rattle.std.specs.Prelude.{slice_get}
use Rattle.fleet_base.specs.declared.numbers.CellNo.{CellNo}
use Rattle.fleet_base.specs.declared.numbers.ClaimGroup.{ClaimGroup}
use Rattle.fleet_base.specs.declared.numbers.ClaimNo.{ClaimNo}
use Rattle.fleet_base.specs.Lists.{RiseFrom}
use Rattle.fleet_model.specs.Sites.{Site, exclude, in_conflict, footprint_of, has_claim, IsDistinct, IsSite}
use Rattle.fleet_model.proofs.SameNumbers.{same_claim}

-- two different claims exclude each other both ways
exclude_symmetric : (o p : Option ClaimGroup) → exclude o p false ≡ true → exclude p o false ≡ true
exclude_symmetric None p h = absurd (both_ways false refl h)
exclude_symmetric (Some g) None h = absurd (both_ways false refl h)
exclude_symmetric (Some g) (Some k) h = and_from (k.group == g.group) true (eq-eqb k.group g.group (sym (eqb-true g.group k.group (and_parts (g.group == k.group) true h).0))) refl

-- what conflicts with a claim has that claim in conflict with it
pub conflict_symmetric : (groups : List ClaimGroup) (c d : ClaimNo) → in_conflict groups c d ≡ true → in_conflict groups d c ≡ true
unfolding in_conflict
conflict_symmetric groups c d h = go (cases_Bool (c.0 == d.0))
  where
    apart : (c.0 == d.0) ≡ false → (d.0 == c.0) ≡ false
    apart f = ne_eqb d.0 c.0 (λ e. both_ways (c.0 == d.0) f (eq-eqb c.0 d.0 (sym e)))

    go : ((c.0 == d.0) ≡ true) ⊎ ((c.0 == d.0) ≡ false) → exclude (slice_get groups d.0) (slice_get groups c.0) (d.0 == c.0) ≡ true
    go (inl t) = let e : c ≡ d = same_claim c d t in cc
    go (inr f) = rw (apart f) (exclude_symmetric (slice_get groups c.0) (slice_get groups d.0) (rw f at h))

-- a claim below all of a rising list is not in it
pub unnamed : (low : ℕ) (cs : List ClaimNo) (c : ClaimNo) → RiseFrom low cs → c.0 < low → has_claim cs c ≡ false
unnamed low [] c h l = refl
unnamed low (d ∷ ds) c h l = let a = h.0 in or_from (d.0 == c.0) (has_claim ds c) (ne_eqb d.0 c.0 (λ e. omega arith)) (unnamed (d.0 + 1) ds c h.1 (omega arith))

-- a rising list names no claim twice
rise_distinct : (low : ℕ) (cs : List ClaimNo) → RiseFrom low cs → IsDistinct cs
rise_distinct low [] h = tt
rise_distinct low (c ∷ cs) h = (unnamed (c.0 + 1) cs c h.1 (omega arith), rise_distinct (c.0 + 1) cs h.1)

-- no footprint of a site names a claim twice
pub footprint_distinct : (site : Site) → IsSite site → (a : CellNo) → IsDistinct (footprint_of site a)
footprint_distinct site is_site a = rise_distinct 0 (footprint_of site a) (is_site.ascending a)
