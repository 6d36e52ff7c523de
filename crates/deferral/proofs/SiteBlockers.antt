-- The least blocker of a backlog is that of the site that it shows.
use Rattle.std.proofs.Common.{◌≡◌, ℕ, ◌<◌, ◌≤◌, Bool, true, false, not, ◌&&◌, ◌==◌, ◌⊎◌, inl, inr, refl, sym, ap, ◌∙◌, List, length, Option, Some, None, arith}
use Rattle.std.proofs.lemmas.Bool.{both_ways, and_from, and_parts}
use Rattle.std.proofs.lemmas.Option.{slice_get_within}
use Rattle.std.specs.Prelude.{slice_get}
use Rattle.std.specs.Option.{option_map}
use Rattle.std.specs.Ordering.{nat_cmp}
use Rattle.std.specs.FinSet.{FinSet, contains}
use Rattle.fleet_base.specs.Blockers.{pair_of}
use Rattle.fleet_base.specs.ClaimSets.{IsSetOf}
use Rattle.fleet_base.specs.declared.answers.Blocker.{Blocker}
use Rattle.fleet_base.specs.declared.numbers.CellNo.{CellNo}
use Rattle.fleet_base.specs.declared.numbers.ClaimNo.{ClaimNo}
use Rattle.fleet_model.specs.Lists.{In, numbers_below, pairs}
use Rattle.fleet_model.specs.Sites.{Site}
use Rattle.fleet_model.specs.Deferral.{blockers, block_precedes, is_kept_by, least_blocker}
use Rattle.fleet_model.proofs.Blockers.{block_itself, block_parts, block_total, block_trans, has_In, In_has}
use Rattle.fleet_model.proofs.Leasts.{least_first, least_in, least_some}
use Rattle.fleet_model.proofs.Lists.{In_below, In-filter, In_pairs, In_unfilter, pairs_In}
use Rattle.deferral.specs.Backlogs.{Backlog, blocks, end_claims, is_kept, IsLeastBlocker}
use Rattle.deferral.specs.Laws.{ShowsEnds}
use Rattle.deferral.proofs.FleetStates.{kept_end}

-- what an end keeps
pub kept_there : (b : Backlog) (site : Site) (cells : List CellNo) → ShowsEnds b site cells → (c : ClaimNo) (q : ℕ) → is_kept b.groups (end_claims b q) c.0 ≡ is_kept_by site c (slice_get cells q)
kept_there b site cells shows c q =
    ap (λ g. is_kept g (end_claims b q) c.0) shows.groups
    ∙ ap (λ e. is_kept site.groups e c.0) (shows.ends q)
    ∙ kept_end site (slice_get cells q) c

module _ (b : Backlog) (site : Site) (cells : List CellNo) (r : ℕ) (needs : FinSet nat_cmp) (claims : List ClaimNo) (shows : ShowsEnds b site cells) (set : IsSetOf needs claims) where
  abbrev listed : ClaimNo × ℕ → Bool
  listed p = not (p.1 == r) && is_kept_by site p.0 (slice_get cells p.1)

  -- who keeps a claim has an end
  kept_within : (c : ClaimNo) (q : ℕ) → is_kept_by site c (slice_get cells q) ≡ true → q < length cells
  kept_within c q t = go (slice_get cells q) refl t
    where
      go : (o : Option CellNo) → slice_get cells q ≡ o → is_kept_by site c o ≡ true → q < length cells
      go None e k = absurd (both_ways false refl k)
      go (Some a) e k = slice_get_within cells q a e

  -- the blockers of the backlog are those of the site
  in_list : (c : ClaimNo) (q : ℕ) → blocks b r needs c.0 q ≡ true → In (c, q) (blockers site cells r claims)
  in_list c q t =
      let p = and_parts (contains needs c.0) (not (q == r) && is_kept b.groups (end_claims b q) c.0) t in
      let a = and_parts (not (q == r)) (is_kept b.groups (end_claims b q) c.0) p.1 in
      let kept : is_kept_by site c (slice_get cells q) ≡ true = sym (kept_there b site cells shows c q) ∙ a.1 in
      In-filter listed (pairs claims (numbers_below (length cells)))
      (In_pairs claims (numbers_below (length cells)) (has_In claims c (sym (set c) ∙ p.0)) (In_below (length cells) q (kept_within c q kept)))
      (and_from (not (q == r)) (is_kept_by site c (slice_get cells q)) a.0 kept)

  of_list : (p : ClaimNo × ℕ) → In p (blockers site cells r claims) → blocks b r needs p.0.0 p.1 ≡ true
  of_list p i =
      let u = In_unfilter listed (pairs claims (numbers_below (length cells))) i in
      let a = and_parts (not (p.1 == r)) (is_kept_by site p.0 (slice_get cells p.1)) u.1 in
      and_from (contains needs p.0.0) (not (p.1 == r) && is_kept b.groups (end_claims b p.1) p.0.0)
      (set p.0 ∙ In_has claims p.0 (pairs_In claims (numbers_below (length cells)) u.0).0)
      (and_from (not (p.1 == r)) (is_kept b.groups (end_claims b p.1) p.0.0) a.0 (kept_there b site cells shows p.0 p.1 ∙ a.1))

  -- no blocker
  none_least : ((c q : ℕ) → blocks b r needs c q ≡ false) → (o : Option (ClaimNo × ℕ)) → least_blocker site cells r claims ≡ o → None ≡ o
  none_least free None e = refl
  none_least free (Some p) e = absurd (both_ways (blocks b r needs p.0.0 p.1) (free p.0.0 p.1) (of_list p (least_in block_precedes (blockers site cells r claims) p e)))

  same_pair : (k : Blocker) (p : ClaimNo × ℕ) → (k.claim.0 < p.0.0) ⊎ ((k.claim.0 ≡ p.0.0) × (k.by.0 ≤ p.1)) → (p.0.0 < k.claim.0) ⊎ ((p.0.0 ≡ k.claim.0) × (p.1 ≤ k.by.0)) → pair_of k ≡ p
  same_pair k p (inl l) (inl m) = absurd (omega arith)
  same_pair k p (inl l) (inr m) = absurd (let e = m.0 in omega arith)
  same_pair k p (inr l) (inl m) = absurd (let e = l.0 in omega arith)
  same_pair k p (inr l) (inr m) = let claim = l.0 in let by : k.by.0 ≡ p.1 = (let x = l.1 in let y = m.1 in omega arith) in λ i. (record { 0 = claim i }, by i)

  -- the least blocker is that of the site
  pub least_shown : (o : Option Blocker) → IsLeastBlocker b r needs o → option_map pair_of o ≡ least_blocker site cells r claims
  least_shown None free = none_least free (least_blocker site cells r claims) refl
  least_shown (Some k) is =
      let here = in_list k.claim k.by.0 is.0 in
      let z = least_some block_precedes (blockers site cells r claims) (pair_of k) here in
      let f = least_first block_precedes block_total block_itself block_trans (blockers site cells r claims) z.0 (pair_of k) z.1 here in
      ap (λ (p : ClaimNo × ℕ). Some p) (same_pair k z.0 (is.1 z.0.0.0 z.0.1 (of_list z.0 (least_in block_precedes (blockers site cells r claims) z.0 z.1))) (block_parts z.0 (pair_of k) f))
      ∙ sym z.1
