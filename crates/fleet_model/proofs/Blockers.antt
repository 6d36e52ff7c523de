-- The list of a route's blockers holds just the blockers, and the least of it is the least blocker.
use Rattle.std.proofs.Common.{◌≡◌, ℕ, ◌<◌, ◌≤◌, true, false, not, ◌&&◌, ◌==◌, ◌⊎◌, inl, inr, refl, sym, ap, ◌∙◌, subst, List, length, Option, Some, None, get_or, arith, eq-eqb}
use Rattle.std.proofs.lemmas.Bool.{both_ways, and_parts, and_from, not-true, not_from_false, eqb-false, ne_eqb, leb-true, leb-false, le-leb, cases_lt}
use Rattle.std.proofs.lemmas.Option.{slice_get-get_or, slice_get_past, slice_get_within, same_Some}
use Rattle.std.proofs.lemmas.List.FromFn.{get_or-map-range_with_len, length-map-range_with_len}
use Rattle.std.specs.Prelude.{nat_le, slice_get}
use Rattle.fleet_base.specs.declared.numbers.CellNo.{CellNo}
use Rattle.fleet_base.specs.declared.numbers.ClaimNo.{ClaimNo}
use Rattle.fleet_model.specs.Lists.{In, pairs, numbers_below}
use Rattle.fleet_model.specs.Sites.{in_conflict, footprint_of, has_claim, steps, needs}
use Rattle.fleet_model.specs.Plans.{Fleet, end_of, IsBlocker}
use Rattle.fleet_model.specs.Deferral.{ends, is_kept_by, blockers, block_precedes, least_blocker}
use Rattle.fleet_model.proofs.Lists.{In-nil, In-filter, In_unfilter, In_below, In_pairs, pairs_In}
use Rattle.fleet_model.proofs.Leasts.{least_none, least_in, least_first}
use Rattle.fleet_model.proofs.Tests.{any_In, In_any}
use Rattle.fleet_model.proofs.SameNumbers.{same_claim}
use Rattle.fleet_model.proofs.Dictionary.{upto_parts, upto_same, upto_total, upto_trans}
use Rattle.fleet_model.proofs.Steps.{acquired_In, In_acquired}

module _ (m : Fleet) where
  -- there is an end for each start
  pub length-ends : length (ends m) ≡ length m.starts
  length-ends = length-map-range_with_len (end_of m) 0 (length m.starts)

  -- each robot has an end
  pub ends_get : (q : ℕ) → q < length m.starts → slice_get (ends m) q ≡ Some (end_of m q)
  ends_get q h =
      let l = length-ends in
      slice_get-get_or (ends m) q (end_of m q) (omega arith) ∙ ap (λ a. Some a) (get_or-map-range_with_len (end_of m) 0 (length m.starts) q q (end_of m q) h (omega arith))

  -- what is no robot has none
  pub ends_past : (q : ℕ) → length m.starts ≤ q → slice_get (ends m) q ≡ None
  ends_past q h = let l = length-ends in slice_get_past (ends m) q (omega arith)

  -- what has an end is a robot, and the end is its own
  pub ends_within : (q : ℕ) (a : CellNo) → slice_get (ends m) q ≡ Some a → (q < length m.starts) × (a ≡ end_of m q)
  ends_within q a h =
      let l = length-ends in
      let w = slice_get_within (ends m) q a h in
      let k : q < length m.starts = omega arith in
      (k, same_Some a (end_of m q) (sym h ∙ ends_get q k))

-- a claim that a list tests positive for is in it
pub has_In : (claims : List ClaimNo) (c : ClaimNo) → has_claim claims c ≡ true → In c claims
has_In claims c h = let r = any_In (λ (d : ClaimNo). d.0 == c.0) claims h in subst (λ x. In x claims) (same_claim r.0 c r.2) r.1

-- a list tests positive for its claims
pub In_has : (claims : List ClaimNo) (c : ClaimNo) → In c claims → has_claim claims c ≡ true
In_has claims c m = In_any (λ (d : ClaimNo). d.0 == c.0) claims m (eq-eqb c.0 c.0 refl)

-- another robot's end keeps the claim of the route from this robot: it is a blocker
pub kept_blocker : (m : Fleet) (r : ℕ) (route : List CellNo) (c : ClaimNo) (q : ℕ) → In c (needs m.site route) → (q == r) ≡ false → is_kept_by m.site c (slice_get (ends m) q) ≡ true → IsBlocker m r route c q
kept_blocker m r route c q need other kept = go (cases_lt q (length m.starts))
  where
    go : (q < length m.starts) ⊎ (length m.starts ≤ q) → IsBlocker m r route c q
    go (inl l) =
        let h = ap (λ o. is_kept_by m.site c o) (sym (ends_get m q l)) ∙ kept in
        let d = any_In (λ (d : ClaimNo). in_conflict m.site.groups c d) (footprint_of m.site (end_of m q)) h in
        record {
          needed = acquired_In (steps m.site route) c need;
          other = eqb-false q r other;
          start = get_or m.starts q (end_of m q);
          starts = slice_get-get_or m.starts q (end_of m q) l;
          claim = d.0;
          holds = In_has (footprint_of m.site (end_of m q)) d.0 d.1;
          conflict = d.2;
        }
    go (inr l) = absurd (both_ways false refl (ap (λ o. is_kept_by m.site c o) (sym (ends_past m q l)) ∙ kept))

-- a blocker's end keeps the claim
pub blocker_kept : (m : Fleet) (r : ℕ) (route : List CellNo) (c : ClaimNo) (q : ℕ) → IsBlocker m r route c q → is_kept_by m.site c (slice_get (ends m) q) ≡ true
blocker_kept m r route c q b =
    ap (λ o. is_kept_by m.site c o) (ends_get m q (slice_get_within m.starts q b.start b.starts))
    ∙ In_any (λ (d : ClaimNo). in_conflict m.site.groups c d) (footprint_of m.site (end_of m q)) (has_In (footprint_of m.site (end_of m q)) b.claim b.holds) b.conflict

-- a blocker is a robot
pub blocker_below : (m : Fleet) (r : ℕ) (route : List CellNo) (c : ClaimNo) (q : ℕ) → IsBlocker m r route c q → q < length m.starts
blocker_below m r route c q b = slice_get_within m.starts q b.start b.starts

-- each blocker is listed
pub In_blockers : (m : Fleet) (r : ℕ) (route : List CellNo) (c : ClaimNo) (q : ℕ) → IsBlocker m r route c q → In (c, q) (blockers m.site (ends m) r (needs m.site route))
In_blockers m r route c q b =
    let l = length-ends m in
    let k = blocker_below m r route c q b in
    In-filter (λ (b : ClaimNo × ℕ). not (b.1 == r) && is_kept_by m.site b.0 (slice_get (ends m) b.1)) (pairs (needs m.site route) (numbers_below (length (ends m))))
    (In_pairs (needs m.site route) (numbers_below (length (ends m))) (In_acquired (steps m.site route) c b.needed) (In_below (length (ends m)) q (omega arith)))
    (and_from (not (q == r)) (is_kept_by m.site c (slice_get (ends m) q)) (not_from_false (q == r) (ne_eqb q r b.other)) (blocker_kept m r route c q b))

-- nothing else is listed
pub blockers_In : (m : Fleet) (r : ℕ) (route : List CellNo) (c : ClaimNo) (q : ℕ) → In (c, q) (blockers m.site (ends m) r (needs m.site route)) → IsBlocker m r route c q
blockers_In m r route c q i =
    let u = In_unfilter (λ (b : ClaimNo × ℕ). not (b.1 == r) && is_kept_by m.site b.0 (slice_get (ends m) b.1)) (pairs (needs m.site route) (numbers_below (length (ends m)))) i in
    let p = and_parts (not (q == r)) (is_kept_by m.site c (slice_get (ends m) q)) u.1 in
    kept_blocker m r route c q (pairs_In (needs m.site route) (numbers_below (length (ends m))) u.0).0 (not-true (q == r) p.0) p.1

-- of two numbers one is not greater
leb_total : (x y : ℕ) → nat_le x y ≡ false → nat_le y x ≡ true
leb_total x y h = let l = leb-false x y h in le-leb y x (omega arith)

-- the order of numbers is transitive, as a test
leb_trans : (x y z : ℕ) → nat_le x y ≡ true → nat_le y z ≡ true → nat_le x z ≡ true
leb_trans x y z h g = let l = leb-true x y h in let k = leb-true y z g in le-leb x z (omega arith)

-- of two pairs one precedes the other
pub block_total : (b d : ClaimNo × ℕ) → block_precedes b d ≡ false → block_precedes d b ≡ true
block_total b d h = upto_total b.0.0 d.0.0 (nat_le b.1 d.1) (nat_le d.1 b.1) (leb_total b.1 d.1) h

-- each pair precedes itself
pub block_itself : (b : ClaimNo × ℕ) → block_precedes b b ≡ true
block_itself b = upto_same b.0.0 b.0.0 (nat_le b.1 b.1) refl (le-leb b.1 b.1 (omega arith))

-- what precedes a pair that precedes a third precedes that too
pub block_trans : (b d e : ClaimNo × ℕ) → block_precedes b d ≡ true → block_precedes d e ≡ true → block_precedes b e ≡ true
block_trans b d e h g = upto_trans b.0.0 d.0.0 e.0.0 (nat_le b.1 d.1) (nat_le d.1 e.1) (nat_le b.1 e.1) (leb_trans b.1 d.1 e.1) h g

-- one pair precedes another by its claim, or has the same and a robot that isn't greater
pub block_parts : (b d : ClaimNo × ℕ) → block_precedes b d ≡ true → (b.0.0 < d.0.0) ⊎ ((b.0.0 ≡ d.0.0) × (b.1 ≤ d.1))
block_parts b d h = elim (upto_parts b.0.0 d.0.0 (nat_le b.1 d.1) h) [ inl l ↦ inl l | inr e ↦ inr (e.0, leb-true b.1 d.1 e.1) ]

module _ (m : Fleet) (r : ℕ) (route : List CellNo) where
  -- where none is found there is no blocker
  pub none_unblocked : least_blocker m.site (ends m) r (needs m.site route) ≡ None → (c : ClaimNo) (q : ℕ) → IsBlocker m r route c q → ⊥
  none_unblocked h c q b = In-nil (subst (λ bs. In (c, q) bs) (least_none block_precedes (blockers m.site (ends m) r (needs m.site route)) h) (In_blockers m r route c q b))

  -- what is found is a blocker
  pub found_blocks : (b : ClaimNo × ℕ) → least_blocker m.site (ends m) r (needs m.site route) ≡ Some b → IsBlocker m r route b.0 b.1
  found_blocks b h = blockers_In m r route b.0 b.1 (least_in block_precedes (blockers m.site (ends m) r (needs m.site route)) b h)

  -- what is found precedes each blocker
  pub found_first : (b : ClaimNo × ℕ) → least_blocker m.site (ends m) r (needs m.site route) ≡ Some b → (c : ClaimNo) (q : ℕ) → IsBlocker m r route c q → block_precedes b (c, q) ≡ true
  found_first b h c q k = least_first block_precedes block_total block_itself block_trans (blockers m.site (ends m) r (needs m.site route)) b (c, q) h (In_blockers m r route c q k)

  -- what is found has the least claim of all blockers, and of those with it the least robot
  pub found_least : (b : ClaimNo × ℕ) → least_blocker m.site (ends m) r (needs m.site route) ≡ Some b → (c : ClaimNo) (q : ℕ) → IsBlocker m r route c q → (b.0.0 < c.0) ⊎ ((b.0.0 ≡ c.0) × (b.1 ≤ q))
  found_least b h c q k = block_parts b (c, q) (found_first b h c q k)

  -- where there is no blocker none is found
  pub unblocked_none : ((c : ClaimNo) (q : ℕ) → IsBlocker m r route c q → ⊥) → least_blocker m.site (ends m) r (needs m.site route) ≡ None
  unblocked_none clear = go (least_blocker m.site (ends m) r (needs m.site route)) refl
    where
      go : (o : Option (ClaimNo × ℕ)) → least_blocker m.site (ends m) r (needs m.site route) ≡ o → o ≡ None
      go None e = refl
      go (Some b) e = absurd (clear b.0 b.1 (found_blocks b e))

  -- where there is a blocker one is found
  pub blocked_found : (c : ClaimNo) (q : ℕ) → IsBlocker m r route c q → (b : ClaimNo × ℕ) × (least_blocker m.site (ends m) r (needs m.site route) ≡ Some b)
  blocked_found c q k = go (least_blocker m.site (ends m) r (needs m.site route)) refl
    where
      go : (o : Option (ClaimNo × ℕ)) → least_blocker m.site (ends m) r (needs m.site route) ≡ o → (b : ClaimNo × ℕ) × (o ≡ Some b)
      go None e = absurd (none_unblocked e c q k)
      go (Some b) e = (b, refl)
