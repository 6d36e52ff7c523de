-- A backlog that shows a state has the state's deferrals.
use Rattle.std.proofs.Common.{◌≡◌, ℕ, zero, suc, ◌+◌, ◌≤◌, Bool, true, false, cond, not, ◌&&◌, ◌==◌, refl, sym, ap, ◌∙◌, subst, List, [], ◌∷◌, length, Option, Some, None, unwrap_or, arith, eq-eqb}
use Rattle.std.proofs.lemmas.Bool.{both_ways, and_parts, and_from, eqb-true, lt-ltb}
use Rattle.std.specs.Prelude.{nat_lt, slice_get}
use Rattle.std.specs.List.{filter, list_any, range_with_len}
use Rattle.std.specs.Option.{option_map}
use Rattle.std.specs.FinSet.{contains}
use Rattle.fleet_base.specs.declared.numbers.CellNo.{CellNo}
use Rattle.fleet_base.specs.declared.numbers.ClaimGroup.{ClaimGroup}
use Rattle.fleet_base.specs.declared.numbers.ClaimNo.{ClaimNo}
use Rattle.fleet_model.specs.Lists.{In, here, there, numbers_below}
use Rattle.fleet_model.specs.Sites.{Site, footprint_of, steps, needs}
use Rattle.fleet_model.specs.Plans.{IsBlocker}
use Rattle.fleet_model.specs.Cycles.{are_distinct}
use Rattle.fleet_model.specs.Deferral.{ends, is_kept_by}
use Rattle.fleet_model.specs.States.{State, pending_route}
use Rattle.fleet_model.specs.States as model
use Rattle.fleet_model.proofs.Blockers.{kept_blocker, blocker_kept}
use Rattle.fleet_model.proofs.Deferrals.{pending_is}
use Rattle.fleet_model.proofs.Distinct.{distinct_from}
use Rattle.fleet_model.proofs.Lists.{In-filter, In_unfilter, In_below}
use Rattle.fleet_model.proofs.Steps.{In_acquired}
use Rattle.fleet_model.proofs.Tests.{any_In, In_any}
use Rattle.deferral.specs.declared.pending.Pending.{Pending}
use Rattle.deferral.specs.Backlogs.{Backlog, pending_of, end_claims, is_needed, is_kept, needed_claims, kept_claims, blocker_count, is_deferred_on}
use Rattle.deferral.specs.Laws.{Shows, AreBlockers}
use Rattle.deferral.proofs.Relations.{kept_within}

-- what is in the list of kept claims is needed and kept
pub kept_parts : (groups : List ClaimGroup) (pending : Option Pending) (end : List ClaimNo) (c : ℕ) → In c (kept_claims groups pending end) → (is_needed pending c ≡ true) × (is_kept groups end c ≡ true)
unfolding needed_claims
kept_parts groups None end c i = elim i [ ]
kept_parts groups (Some p) end c i = and_parts (contains p.needs c) (is_kept groups end c) (In_unfilter (λ c. contains p.needs c && is_kept groups end c) (numbers_below (length groups)) i).1

-- what is needed and kept is in the list
pub kept_from : (groups : List ClaimGroup) (pending : Option Pending) (end : List ClaimNo) (c : ℕ) → is_needed pending c ≡ true → is_kept groups end c ≡ true → In c (kept_claims groups pending end)
unfolding needed_claims
kept_from groups None end c need kept = absurd (both_ways false refl need)
kept_from groups (Some p) end c need kept =
    In-filter (λ c. contains p.needs c && is_kept groups end c) (numbers_below (length groups)) (In_below (length groups) c (kept_within groups end c kept)) (and_from (contains p.needs c) (is_kept groups end c) need kept)

same_claim : (c d : ClaimNo) → (c.0 == d.0) ≡ true → c ≡ d
same_claim c d h = let p = eqb-true c.0 d.0 h in λ i. record { 0 = p i }

-- numbers of a range are not below its first
range_low : (a n x : ℕ) → In x (range_with_len a n) → a ≤ x
range_low a zero x i = elim i [ ]
range_low a (suc n) x (here e) = omega arith
range_low a (suc n) x (there i) = let l = range_low (a + 1) n x i in omega arith

-- the numbers of a range that pass differ
range_distinct : (p : ℕ → Bool) (a n : ℕ) → are_distinct (filter p (range_with_len a n)) ≡ true
range_distinct p a zero = refl
range_distinct p a (suc n) = go (p a) refl (range_distinct p (a + 1) n)
  where
    go : (t : Bool) → p a ≡ t → are_distinct (filter p (range_with_len (a + 1) n)) ≡ true → are_distinct (filter p (range_with_len a (suc n))) ≡ true
    go true e d = rw e (distinct_from a (filter p (range_with_len (a + 1) n)) (λ i. let l = range_low (a + 1) n a (In_unfilter p (range_with_len (a + 1) n) i).0 in absurd (omega arith)) d)
    go false e d = rw e d

-- the kept claims differ
kept_distinct : (groups : List ClaimGroup) (pending : Option Pending) (end : List ClaimNo) → are_distinct (kept_claims groups pending end) ≡ true
unfolding needed_claims
kept_distinct groups None end = refl
kept_distinct groups (Some p) end = range_distinct (λ c. contains p.needs c && is_kept groups end c) 0 (length groups)

some_of : (xs : List ℕ) → nat_lt 0 (length xs) ≡ true → (x : ℕ) × In x xs
some_of [] h = absurd (both_ways false refl h)
some_of (x ∷ xs) h = (x, here refl)

of_some : (x : ℕ) (xs : List ℕ) → In x xs → nat_lt 0 (length xs) ≡ true
of_some x [] i = elim i [ ]
of_some x (y ∷ ys) i = lt-ltb 0 (length (y ∷ ys)) (omega arith)

same_bool : (a b : Bool) → (a ≡ true → b ≡ true) → (b ≡ true → a ≡ true) → a ≡ b
same_bool true true f g = refl
same_bool false false f g = refl
same_bool true false f g = sym (f refl)
same_bool false true f g = g refl

either : (t : Bool) (n : ℕ) → nat_lt 0 (cond t 0 n) ≡ (not t && nat_lt 0 n)
either true n = refl
either false n = refl

-- the claims of an end that may be there keep what the end keeps
pub kept_end : (site : Site) (o : Option CellNo) (c : ClaimNo) → is_kept site.groups (unwrap_or (option_map (footprint_of site) o) []) c.0 ≡ is_kept_by site c o
kept_end site None c = refl
kept_end site (Some a) c = refl

module _ (b : Backlog) (s : State) (shows : Shows b s) (r q : ℕ) where
  -- what the end of robot q keeps
  pub kept_shown : (c : ClaimNo) → is_kept b.groups (end_claims b q) c.0 ≡ is_kept_by s.fleet.site c (slice_get (ends s.fleet) q)
  kept_shown c =
      ap (λ g. is_kept g (end_claims b q) c.0) shows.groups
      ∙ ap (λ e. is_kept s.fleet.site.groups e c.0) (shows.ends q)
      ∙ kept_end s.fleet.site (slice_get (ends s.fleet) q) c

  -- a needed claim is needed by what is pending
  pub shown_need : (c : ClaimNo) → In c (needs s.fleet.site (pending_route s r)) → is_needed (pending_of b r) c.0 ≡ true
  shown_need c i = shows.needs r c.0 ∙ In_any (λ (d : ClaimNo). d.0 == c.0) (needs s.fleet.site (pending_route s r)) i (eq-eqb c.0 c.0 refl)

  -- what is pending needs needed claims alone
  pub need_shown : (c : ClaimNo) → is_needed (pending_of b r) c.0 ≡ true → In c (needs s.fleet.site (pending_route s r))
  need_shown c h =
      let d = any_In (λ (d : ClaimNo). d.0 == c.0) (needs s.fleet.site (pending_route s r)) (sym (shows.needs r c.0) ∙ h) in
      subst (λ x. In x (needs s.fleet.site (pending_route s r))) (same_claim d.0 c d.2) d.1

  -- the same by both
  pub deferred_shown : is_deferred_on b r q ≡ model.is_deferred_on s r q
  deferred_shown =
      either (q == r) (length (kept_claims b.groups (pending_of b r) (end_claims b q)))
      ∙ ap (λ t. not (q == r) && t) (same_bool (nat_lt 0 (length (kept_claims b.groups (pending_of b r) (end_claims b q)))) (list_any kept (needs s.fleet.site (pending_route s r))) forth back)
    where
      kept : ClaimNo → Bool
      kept c = is_kept_by s.fleet.site c (slice_get (ends s.fleet) q)

      forth : nat_lt 0 (length (kept_claims b.groups (pending_of b r) (end_claims b q))) ≡ true → list_any kept (needs s.fleet.site (pending_route s r)) ≡ true
      forth h =
          let x = some_of (kept_claims b.groups (pending_of b r) (end_claims b q)) h in
          let p = kept_parts b.groups (pending_of b r) (end_claims b q) x.0 x.1 in
          let d = any_In (λ (d : ClaimNo). d.0 == x.0) (needs s.fleet.site (pending_route s r)) (sym (shows.needs r x.0) ∙ p.0) in
          In_any kept (needs s.fleet.site (pending_route s r)) d.1 (sym (kept_shown d.0) ∙ (ap (λ n. is_kept b.groups (end_claims b q) n) (eqb-true d.0.0 x.0 d.2) ∙ p.1))

      back : list_any kept (needs s.fleet.site (pending_route s r)) ≡ true → nat_lt 0 (length (kept_claims b.groups (pending_of b r) (end_claims b q))) ≡ true
      back h =
          let d = any_In kept (needs s.fleet.site (pending_route s r)) h in
          of_some d.0.0 (kept_claims b.groups (pending_of b r) (end_claims b q))
          (kept_from b.groups (pending_of b r) (end_claims b q) d.0.0 (shown_need d.0 d.1) (kept_shown d.0 ∙ d.2))

  -- the claims by which robot q blocks the pending route, as many as are counted
  pub blockers_shown : (route : List CellNo) → model.pending_of s r ≡ Some route → (claims : List ℕ) × AreBlockers s r q route claims × (length claims ≡ blocker_count b r q)
  blockers_shown route h = go (q == r) refl
    where
      there_is : pending_route s r ≡ route
      there_is = pending_is s r route h

      blocks : (q == r) ≡ false → (c : ClaimNo) → In c.0 (kept_claims b.groups (pending_of b r) (end_claims b q)) → IsBlocker s.fleet r route c q
      blocks other c i =
          let p = kept_parts b.groups (pending_of b r) (end_claims b q) c.0 i in
          kept_blocker s.fleet r route c q (subst (λ x. In c (needs s.fleet.site x)) there_is (need_shown c p.0)) other (sym (kept_shown c) ∙ p.1)

      blocked : (c : ClaimNo) → IsBlocker s.fleet r route c q → In c.0 (kept_claims b.groups (pending_of b r) (end_claims b q))
      blocked c k =
          kept_from b.groups (pending_of b r) (end_claims b q) c.0
          (shown_need c (subst (λ x. In c (needs s.fleet.site x)) (sym there_is) (In_acquired (steps s.fleet.site route) c k.needed)))
          (kept_shown c ∙ blocker_kept s.fleet r route c q k)

      go : (t : Bool) → (q == r) ≡ t → (claims : List ℕ) × AreBlockers s r q route claims × (length claims ≡ cond t 0 (length (kept_claims b.groups (pending_of b r) (end_claims b q))))
      go true e = ([], record { distinct = refl; blocking = λ c. (λ i. elim i [ ], λ k. absurd (k.other (eqb-true q r e))) }, refl)
      go false e = (kept_claims b.groups (pending_of b r) (end_claims b q), record { distinct = kept_distinct b.groups (pending_of b r) (end_claims b q); blocking = λ c. (blocks e c, blocked c) }, refl)
