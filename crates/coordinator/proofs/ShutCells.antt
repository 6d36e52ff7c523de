-- Cells that are shut to a robot, and sets that are filled number by number.
use Rattle.std.proofs.Common.{◌≡◌, ℕ, ◌+◌, ◌≤◌, Bool, true, false, not, ◌&&◌, ◌||◌, ◌==◌, inl, inr, refl, sym, ap, subst, ◌∙◌, length, arith, eq-eqb}
use Rattle.std.proofs.lemmas.Bool.{and_from, and_parts, cases_lt, le-ltb, lt-ltb, ne_eqb}
use Rattle.std.specs.Prelude.{nat_lt, slice_get}
use Rattle.std.specs.Cmp.{nat_cmp_total, unsigned_tied}
use Rattle.std.specs.FinSet.{FinSet, contains, contains-insert, insert}
use Rattle.std.specs.List.{list_any}
use Rattle.std.specs.Ordering.{nat_cmp}
use Rattle.fleet_base.specs.declared.numbers.CellNo.{CellNo}
use Rattle.fleet_base.specs.declared.numbers.ClaimNo.{ClaimNo}
use Rattle.fleet_model.specs.Lists.{In, numbers_below}
use Rattle.fleet_model.specs.Sites.{footprint_of}
use Rattle.fleet_model.specs.Plans.{Fleet}
use Rattle.fleet_model.specs.Deferral.{ends, is_kept_by, is_shut_to}
use Rattle.fleet_model.proofs.Tests.{In_any, any_In}
use Rattle.site_map.specs.Built.{BuiltSite}
use Rattle.site_map.specs.Claims.{site_of}
use Rattle.site_map.proofs.SiteLemmas.{footprint_past}
use Rattle.deferral.specs.Backlogs.{Backlog, end_claims, is_kept, is_kept_from}
use Rattle.deferral.specs.Laws.{ShowsEnds}
use Rattle.deferral.proofs.SiteBlockers.{kept_there}
use Rattle.coordinator.specs.Replans.{is_shut_in}

-- tests that imply each other agree
pub same_tests : (b d : Bool) → (b ≡ true → d ≡ true) → (d ≡ true → b ≡ true) → b ≡ d
same_tests true d f g = sym (f refl)
same_tests false true f g = g refl
same_tests false false f g = refl

or_false : (b : Bool) → (b || false) ≡ b
or_false true = refl
or_false false = refl

-- the set has what the old one has, and the numbers below n that pass
abbrev pub IsFilled : FinSet nat_cmp → (ℕ → Bool) → FinSet nat_cmp → ℕ → Type 0
IsFilled old p new n = (k : ℕ) → contains new k ≡ (contains old k || (nat_lt k n && p k))

pub none_filled : (old : FinSet nat_cmp) (p : ℕ → Bool) → IsFilled old p old 0
none_filled old p k = sym (rw (le-ltb k 0 (omega arith)) (or_false (contains old k)))

module _ (old : FinSet nat_cmp) (p : ℕ → Bool) (now : FinSet nat_cmp) (n : ℕ) (filled : IsFilled old p now n) where
  -- a number that passes is put into the set
  pub one_filled : (new : FinSet nat_cmp) → new ≡ insert now n → p n ≡ true → IsFilled old p new (n + 1)
  one_filled new is pass k =
      ap (λ s. contains s k) is ∙ contains-insert nat_cmp_total now n k ∙ ap (λ t. t || contains now k) (unsigned_tied k n) ∙ elim (cases_lt k n) [
        | inl less ↦ rw (ne_eqb k n (λ e. omega (arith, e)), lt-ltb k (n + 1) (omega arith)) (filled k ∙ rw (lt-ltb k n less) refl)
        | inr above ↦ elim (cases_lt n k) [
          | inl more ↦ rw (ne_eqb k n (λ e. omega (arith, e)), le-ltb k (n + 1) (omega arith)) (filled k ∙ rw (le-ltb k n above) refl)
          | inr upto ↦
              let same : n ≡ k = omega arith in
              subst (λ m. ((m == n) || contains now m) ≡ (contains old m || (nat_lt m (n + 1) && p m))) same
              (rw (eq-eqb n n refl, lt-ltb n (n + 1) (omega arith), pass) (sym (or_true (contains old n))))
        ]
      ]
    where
      or_true : (b : Bool) → (b || true) ≡ true
      or_true true = refl
      or_true false = refl

  -- one that doesn't pass is left out
  pub one_left : (new : FinSet nat_cmp) → new ≡ now → p n ≡ false → IsFilled old p new (n + 1)
  one_left new is fail k =
      ap (λ s. contains s k) is ∙ filled k ∙ elim (cases_lt k n) [
        | inl less ↦ rw (lt-ltb k n less, lt-ltb k (n + 1) (omega arith)) refl
        | inr above ↦ elim (cases_lt n k) [
          | inl more ↦ rw (le-ltb k n above, le-ltb k (n + 1) (omega arith)) refl
          | inr upto ↦
              let same : n ≡ k = omega arith in
              subst (λ m. (contains old m || (nat_lt m n && p m)) ≡ (contains old m || (nat_lt m (n + 1) && p m))) same
              (rw (le-ltb n n (omega arith), lt-ltb n (n + 1) (omega arith), fail) refl)
        ]
      ]

  -- where no number from n on passes, all that pass are in
  pub all_filled : ((k : ℕ) → n ≤ k → p k ≡ false) → (k : ℕ) → contains now k ≡ (contains old k || p k)
  all_filled none k =
      filled k ∙ elim (cases_lt k n) [
        | inl less ↦ rw (lt-ltb k n less) refl
        | inr above ↦ rw (le-ltb k n above, none k above) refl
      ]

-- what is no cell of the site isn't shut
module _ (built : BuiltSite) where
  pub past_cells : (b : Backlog) (r k : ℕ) → built.cells ≤ k → is_shut_in b (site_of built) r (record { 0 = k }) ≡ false
  past_cells b r k past = ap (list_any (λ c. is_kept_from b r c.0)) (footprint_past built (record { 0 = k }) past)

module _ (b : Backlog) (m : Fleet) (shows : ShowsEnds b m.site (ends m)) (long : length b.ends ≡ length m.starts) (r : ℕ) (a : CellNo) where
  abbrev is_held : ℕ → ClaimNo → Bool
  is_held q c = is_kept b.groups (end_claims b q) c.0

  abbrev is_kept_in : ℕ → ClaimNo → Bool
  is_kept_in q c = is_kept_by m.site c (slice_get (ends m) q)

  abbrev by_robot : ClaimNo → ℕ → Bool
  by_robot c q = not (q == r) && is_held q c

  abbrev by_claim : ℕ → Bool
  by_claim q = not (q == r) && list_any (is_kept_in q) (footprint_of m.site a)

  forth : is_shut_in b m.site r a ≡ true → is_shut_to m r a ≡ true
  forth h =
      let claim = any_In (λ (c : ClaimNo). is_kept_from b r c.0) (footprint_of m.site a) h in
      let robot = any_In (by_robot claim.0) (numbers_below (length b.ends)) claim.2 in
      let parts = and_parts (not (robot.0 == r)) (is_held robot.0 claim.0) robot.2 in
      In_any by_claim (numbers_below (length m.starts)) (subst (λ k. In robot.0 (numbers_below k)) long robot.1)
      (and_from (not (robot.0 == r)) (list_any (is_kept_in robot.0) (footprint_of m.site a)) parts.0
      (In_any (is_kept_in robot.0) (footprint_of m.site a) claim.1 (sym (kept_there b m.site (ends m) shows claim.0 robot.0) ∙ parts.1)))

  back : is_shut_to m r a ≡ true → is_shut_in b m.site r a ≡ true
  back h =
      let robot = any_In by_claim (numbers_below (length m.starts)) h in
      let parts = and_parts (not (robot.0 == r)) (list_any (is_kept_in robot.0) (footprint_of m.site a)) robot.2 in
      let claim = any_In (is_kept_in robot.0) (footprint_of m.site a) parts.1 in
      In_any (λ (c : ClaimNo). is_kept_from b r c.0) (footprint_of m.site a) claim.1
      (In_any (by_robot claim.0) (numbers_below (length b.ends)) (subst (λ k. In robot.0 (numbers_below k)) (sym long) robot.1)
      (and_from (not (robot.0 == r)) (is_held robot.0 claim.0) parts.0 (kept_there b m.site (ends m) shows claim.0 robot.0 ∙ claim.2)))

  -- what is shut by the ends that are kept is shut by the plan
  pub shut_is : is_shut_in b m.site r a ≡ is_shut_to m r a
  shut_is = same_tests (is_shut_in b m.site r a) (is_shut_to m r a) forth back
