-- A detour is a legal route without a blocker, and the detour to its last cell.
use Rattle.std.proofs.Common.{◌≡◌, ◌≢◌, ℕ, ◌<◌, ◌≤◌, Bool, true, false, not, ◌&&◌, ◌==◌, refl, sym, ap, ◌∙◌, List, [], ◌∷◌, length, Some, arith, eq-eqb}
use Rattle.std.proofs.lemmas.Bool.{both_ways, and_parts, and_from, or_left, not-true, not_from_false, eqb-true, ne_eqb}
use Rattle.std.specs.Prelude.{slice_get}
use Rattle.std.specs.List.{list_any, list_all}
use Rattle.fleet_base.specs.declared.numbers.CellNo.{CellNo}
use Rattle.fleet_base.specs.declared.numbers.ClaimNo.{ClaimNo}
use Rattle.fleet_model.specs.Lists.{In, here, there, numbers_below, has_cell}
use Rattle.fleet_model.specs.Sites.{Site, IsSite, cell_count, footprint_of, last_cell}
use Rattle.fleet_model.specs.Plans.{Fleet, end_of, IsRoute, IsBlocker}
use Rattle.fleet_model.specs.Routes.{leads_to, IsLeastRoute}
use Rattle.fleet_model.specs.Deferral.{ends, is_kept_by, is_shut_to}
use Rattle.fleet_model.specs.Calls.{detour_of}
use Rattle.fleet_model.specs.Journals.{last_of}
use Rattle.fleet_model.proofs.Lists.{In_below}
use Rattle.fleet_model.proofs.Tests.{any_In, In_any, all_In}
use Rattle.fleet_model.proofs.SameNumbers.{same_cell}
use Rattle.fleet_model.proofs.Blockers.{blocker_below, blocker_kept}
use Rattle.fleet_model.proofs.Shortcuts.{simple_short}
use Rattle.fleet_model.proofs.LeastRoutes.{least_route_least, least_route_found, least_route_simple}
use Rattle.fleet_model.proofs.Steps.{steps_acquire}

-- a cell with a claim that another robot's end keeps is shut
pub shut_by : (m : Fleet) (r q : ℕ) (a : CellNo) (c : ClaimNo) → q ≢ r → q < length m.starts → In c (footprint_of m.site a) → is_kept_by m.site c (slice_get (ends m) q) ≡ true → is_shut_to m r a ≡ true
shut_by m r q a c other robot i kept =
    let any = In_any (λ (d : ClaimNo). is_kept_by m.site d (slice_get (ends m) q)) (footprint_of m.site a) i kept in
    In_any (λ (p : ℕ). not (p == r) && list_any (λ (d : ClaimNo). is_kept_by m.site d (slice_get (ends m) p)) (footprint_of m.site a)) (numbers_below (length m.starts)) (In_below (length m.starts) q robot)
    (and_from (not (q == r)) (list_any (λ (d : ClaimNo). is_kept_by m.site d (slice_get (ends m) q)) (footprint_of m.site a)) (not_from_false (q == r) (ne_eqb q r other)) any)

-- a route past the cells that are shut has no blocker
pub no_blocker : (m : Fleet) (r : ℕ) (goal : CellNo → Bool) (route : List CellNo) → leads_to goal (is_shut_to m r) route ≡ true → (c : ClaimNo) (q : ℕ) → IsBlocker m r route c q → ⊥
no_blocker m r goal [] h c q b = absurd (both_ways false refl h)
no_blocker m r goal (a ∷ bs) h c q b =
    let k = steps_acquire m.site a bs c b.needed in
    let free : CellNo → Bool = λ x. not (is_shut_to m r x) in
    let p = and_parts (goal (last_cell a bs)) (list_all free (a ∷ bs)) h in
    let open_to = not-true (is_shut_to m r k.0) (all_In free (a ∷ bs) p.1 (there k.1)) in
    both_ways (is_shut_to m r k.0) open_to (shut_by m r q k.0 c b.other (blocker_below m r (a ∷ bs) c q b) k.2 (blocker_kept m r (a ∷ bs) c q b))

-- a least route to a goal is the least route to its last cell alone
pub least_route_to_last : (site : Site) (goal avoid : CellNo → Bool) (from : CellNo) (route : List CellNo) → IsLeastRoute site goal avoid from route → IsLeastRoute site (λ a. has_cell (last_of route) a) avoid from route
least_route_to_last site goal avoid from [] h = let e = h.begins in absurd (cc)
least_route_to_last site goal avoid from (a ∷ bs) h =
    let free : CellNo → Bool = λ x. not (avoid x) in
    let p = and_parts (goal (last_cell a bs)) (list_all free (a ∷ bs)) h.leads in
    let z = last_cell a bs in
    record {
      begins = h.begins;
      linked = h.linked;
      leads = and_from (has_cell (z ∷ []) z) (list_all free (a ∷ bs)) (or_left (z.0 == z.0) false (eq-eqb z.0 z.0 refl)) p.1;
      least = λ other k w t. h.least other k w (same other p.0 t);
    }
  where
    same : (other : List CellNo) → goal (last_cell a bs) ≡ true → leads_to (λ x. has_cell (last_of (a ∷ bs)) x) avoid other ≡ true → leads_to goal avoid other ≡ true
    same [] g t = absurd (both_ways false refl t)
    same (c ∷ cs) g t =
        let free : CellNo → Bool = λ x. not (avoid x) in
        let p = and_parts (has_cell (last_of (a ∷ bs)) (last_cell c cs)) (list_all free (c ∷ cs)) t in
        let n = any_In (λ (b : CellNo). b.0 == (last_cell c cs).0) (last_of (a ∷ bs)) p.0 in
        and_from (goal (last_cell c cs)) (list_all free (c ∷ cs)) (ap goal (sym (alone n.0 n.1 n.2)) ∙ g) p.1
      where
        alone : (b : CellNo) → In b (last_cell a bs ∷ []) → (b.0 == (last_cell c cs).0) ≡ true → last_cell a bs ≡ last_cell c cs
        alone b (here e) h = sym e ∙ same_cell b (last_cell c cs) (eqb-true b.0 (last_cell c cs).0 h)
        alone b (there i) h = elim i [ ]

module _ (m : Fleet) (r : ℕ) (goal : CellNo → Bool) (is_site : IsSite m.site) (route : List CellNo) (h : detour_of m r goal ≡ Some route) where
  -- a detour is the least route past the cells that are shut
  pub detour_least : IsLeastRoute m.site goal (is_shut_to m r) (end_of m r) route
  detour_least = least_route_least m.site goal (is_shut_to m r) (end_of m r) is_site route h

  -- a detour has no blocker
  pub detour_free : (c : ClaimNo) (q : ℕ) → IsBlocker m r route c q → ⊥
  detour_free = no_blocker m r goal route detour_least.leads

  -- a detour is the detour to its last cell alone
  pub detour_to_last : detour_of m r (has_cell (last_of route)) ≡ Some route
  detour_to_last = least_route_found m.site (has_cell (last_of route)) (is_shut_to m r) (end_of m r) is_site route (least_route_to_last m.site goal (is_shut_to m r) (end_of m r) route detour_least)

-- a least route that begins away from the goal is long enough, and no longer than the site
least_route_long : (site : Site) (goal avoid : CellNo → Bool) (from : CellNo) → IsSite site → goal from ≡ false → (route : List CellNo) → IsLeastRoute site goal avoid from route → (2 ≤ length route) × (length route ≤ cell_count site)
least_route_long site goal avoid from is_site away [] h = let e = h.begins in absurd (cc)
least_route_long site goal avoid from is_site away (a ∷ []) h =
    let b = h.begins in
    let e : a ≡ from = cc in
    let p = and_parts (goal a) (list_all (λ x. not (avoid x)) (a ∷ [])) h.leads in
    absurd (both_ways (goal a) (ap goal e ∙ away) p.0)
least_route_long site goal avoid from is_site away (a ∷ b ∷ bs) h =
    (omega arith, simple_short site is_site a b bs h.linked (least_route_simple site goal avoid from is_site (a ∷ b ∷ bs) h))

-- a detour away from the goal is a legal route
pub detour_route : (m : Fleet) (r : ℕ) (goal : CellNo → Bool) (route : List CellNo) → IsSite m.site → goal (end_of m r) ≡ false → detour_of m r goal ≡ Some route → IsRoute m r route
detour_route m r goal route is_site away h =
    let least = detour_least m r goal is_site route h in
    let l = least_route_long m.site goal (is_shut_to m r) (end_of m r) is_site away route least in
    let small = is_site.small in
    record {
      long = l.0;
      short = omega arith;
      linked = least.linked;
      begins = least.begins;
    }
